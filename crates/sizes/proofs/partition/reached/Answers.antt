-- `sizes::partition::reached` meets its contract: each return is a law of `reach`.
use Rattle.std.proofs.Common.{sym, ap, ◌∙◌, ⊎_elim, arith}
use Rattle.std.specs.Prelude.{Some}
use Rattle.sizes.proofs.Lengths.{reach_later, reach_empty, reach_some}
use Rattle.sizes.proofs.partition.reached.Goals as goal

pub returns-then-offset-l : goal.returns-then-offset-l
returns-then-offset-l c = sym (⊎_elim (λ w. reach_later _ _ _ (omega arith)) (λ w. reach_empty _ _ _ w.1) c.then-offset-l.either)

pub returns : goal.returns
returns c = ap Some c.min.ensures ∙ sym (reach_some _ _ _ (omega arith) (omega arith))
