-- The tests are joined in order.
use mathlib.Core.Path.{◌≡◌, ◌∙◌, ap}
use mathlib.Core.Bool.{not, ◌&&◌}
use lib.Dec.{eqb}
use borrow.Author.Tests.{eq-eqb, ne_eqb}
use Rattle.fast_run.specs.Quick.{is_due}
use Rattle.fast_run.proofs.quick.is_due.Goals as goal
use Rattle.fast_run.proofs.quick.is_due.Goals.{then-waiting-eq0, else-waiting-eq0, then-x, else-x}

pub returns-then-t : goal.returns-then-t
unfolding is_due
returns-then-t c =
    let a : c.if-waiting-eq0.value ≡ eqb c.args.waiting 0 && c.args.x.now.busy = elim c.if-waiting-eq0.branch [
      | then-waiting-eq0 w ↦ rw (eq-eqb _ _ w.if-waiting-eq0.true) w.value-is
      | else-waiting-eq0 w ↦ let e = ne_eqb _ _ w.if-waiting-eq0.false in rw e (w.value-is ∙ e)
    ] in
    let b : c.if-x.value ≡ c.if-waiting-eq0.value && c.args.t.now.listed = elim c.if-x.branch [ then-x w ↦ rw w.if-x.true w.value-is | else-x w ↦ rw w.if-x.false (w.value-is ∙ w.if-x.false) ] in
    rw (← a, ← b, c.if-t.true) (ap not c.is_early.ensures)

pub returns-else-t : goal.returns-else-t
unfolding is_due
returns-else-t c =
    let a : c.if-waiting-eq0.value ≡ eqb c.args.waiting 0 && c.args.x.now.busy = elim c.if-waiting-eq0.branch [
      | then-waiting-eq0 w ↦ rw (eq-eqb _ _ w.if-waiting-eq0.true) w.value-is
      | else-waiting-eq0 w ↦ let e = ne_eqb _ _ w.if-waiting-eq0.false in rw e (w.value-is ∙ e)
    ] in
    let b : c.if-x.value ≡ c.if-waiting-eq0.value && c.args.t.now.listed = elim c.if-x.branch [ then-x w ↦ rw w.if-x.true w.value-is | else-x w ↦ rw w.if-x.false (w.value-is ∙ w.if-x.false) ] in
    rw (← a, ← b, c.if-t.false)
