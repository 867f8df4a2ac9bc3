-- A shorter way settles the run where `fast_run` says so.
use mathlib.Core.Path.{sym, ◌∙◌}
use native.Mathlib.Omega.{arith}
use Rattle.saltdoodle.proofs.Settles.{settles, glances_stored}
use Rattle.saltdoodle.proofs.calls.sd_run.Goals as goal

pub offset_bounds-x-g : goal.offset_bounds-x-g
offset_bounds-x-g c =
    let q = c.glance_at.ensures.settles c.in-Some.g c.in-Some.is in
    let h = q.place in
    omega arith

pub bounds-x-g : goal.bounds-x-g
bounds-x-g c =
    let q = c.glance_at.ensures.settles c.in-Some.g c.in-Some.is in
    q.place

pub returns-in-Some : goal.returns-in-Some
returns-in-Some c = glances_stored c.args.s.now c.requires c.args.i c.if-i-lt-LARGEST_NAMED_COUNT.true _ c.args.at c.in-Some.g (c.glance_at.ensures.settles c.in-Some.g c.in-Some.is)

pub returns-in-Some-settle_at : goal.returns-in-Some-settle_at
returns-in-Some-settle_at c = settles c.args.s.now c.requires c.args.i c.args.at c.in-Some-settle_at.f (sym c.settle_at.ensures ∙ c.in-Some-settle_at.is)
