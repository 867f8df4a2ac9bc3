use native.Mathlib.Omega.{arith}
use Rattle.fast_run.proofs.Steps.{passes, valid, declines, steps, within, glances}
use Rattle.fast_run.proofs.quick.glance.Goals as goal

pub returns-then-not-is_due : goal.returns-then-not-is_due
returns-then-not-is_due c =
    passes c.args.waiting c.args.at c.args.t.now c.args.x.now c.requires _ c.is_due.ensures c.if-not-is_due.true

pub glance-requires : goal.glance-requires
glance-requires c =
    valid c.args.waiting c.args.at c.args.t.now c.args.x.now c.requires _ c.is_due.ensures c.if-not-is_due.false

pub returns-in_err-v : goal.returns-in_err-v
returns-in_err-v c =
    rw c.from_residual.ensures (declines c.args.waiting c.args.at c.args.t.now c.args.x.now c.requires _ c.is_due.ensures c.if-not-is_due.false _ c.glance.ensures c.in_err-v.was)

pub overflow_add-result : goal.overflow_add-result
overflow_add-result c =
    let z = steps c.args.waiting c.args.at c.args.t.now c.args.x.now c.requires _ c.is_due.ensures c.if-not-is_due.false _ c.glance.ensures _ c.in_ok-v.was in
    let h = z.symbol in
    omega arith

pub overflow_add-result-2 : goal.overflow_add-result-2
overflow_add-result-2 c =
    let z = within c.args.waiting c.args.at c.args.t.now c.args.x.now c.requires _ c.is_due.ensures c.if-not-is_due.false _ c.glance.ensures _ c.in_ok-v.was in
    omega arith

pub returns : goal.returns
returns c =
    glances c.args.waiting c.args.at c.args.t.now c.args.x.now c.requires _ c.is_due.ensures c.if-not-is_due.false _ c.glance.ensures _ c.in_ok-v.was _ c.ticked-after.ensures _ c.from.ensures
