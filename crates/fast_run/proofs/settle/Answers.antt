use mathlib.Core.Path.{refl, sym, ◌∙◌, ap}
use Rattle.std.specs.Prelude.{Some}
use Rattle.fast_run.proofs.Cases.{idles, waits, early, ends, sends}
use Rattle.fast_run.proofs.settle.Goals as goal
use Rattle.fast_run.proofs.settle.Goals.{then-waiting-ne0-via-then-waiting-ne0, then-waiting-ne0-via-else-waiting-ne0+then-is_early}

pub returns-then-not-x : goal.returns-then-not-x
returns-then-not-x c = sym (idles c.args.waiting c.args.at c.args.t.now c.args.x.now c.if-not-x.true)

pub returns-then-waiting-ne0 : goal.returns-then-waiting-ne0
returns-then-waiting-ne0 c =
    ap Some c.nothing.ensures ∙ sym (elim c.then-waiting-ne0.branch [
      | then-waiting-ne0-via-then-waiting-ne0 w ↦ waits c.args.waiting c.args.at c.args.t.now c.args.x.now c.if-not-x.false w.if-waiting-ne0.true
      | then-waiting-ne0-via-else-waiting-ne0+then-is_early w ↦ early c.args.waiting c.args.at c.args.t.now c.args.x.now c.if-not-x.false w.if-waiting-ne0.false (sym w.is_early.ensures ∙ w.if-is_early.true)
    ])

pub returns-in_err-symbol : goal.returns-in_err-symbol
returns-in_err-symbol c =
    rw c.from_residual.ensures
    (sym (ends c.args.waiting c.args.at c.args.t.now c.args.x.now c.if-not-x.false c.if-waiting-ne0.false (sym c.is_early.ensures ∙ c.if-is_early.false) c.is_forced.result c.is_forced.ensures _ c.read.ensures.exact c.in_err-symbol.was))

pub returns : goal.returns
returns c =
    ap Some (c.one.ensures ∙ rw c.ticked-after.ensures refl)
    ∙ sym (sends c.args.waiting c.args.at c.args.t.now c.args.x.now c.if-not-x.false c.if-waiting-ne0.false (sym c.is_early.ensures ∙ c.if-is_early.false) c.is_forced.result c.is_forced.ensures _ c.read.ensures.exact _ c.in_ok-symbol.was)
