use mathlib.Core.Path.{sym, ◌∙◌}
use mathlib.Core.Bool.{true≢false}
use borrow.Author.Tests.{eq-eqb, ne_eqb}
use Rattle.lifecycle.specs.FileDesc.{startable_file}
use Rattle.lifecycle.proofs.filedesc.FileDesc.should_transfer_now.Goals as goal
use Rattle.lifecycle.proofs.filedesc.FileDesc.should_transfer_now.Goals.{then-self-priority, else-self-priority}

pub returns-then-not-self : goal.returns-then-not-self
unfolding startable_file
returns-then-not-self c = elim c.if-self-priority.branch [
  | then-self-priority w ↦ rw (eq-eqb _ _ w.if-self-priority.true, sym w.value-is ∙ c.if-not-self.true) c.may_start_now.ensures
  | else-self-priority w ↦ absurd (true≢false (sym c.if-not-self.true ∙ w.value-is ∙ ne_eqb _ _ w.if-self-priority.false))
]

pub returns-else-not-self : goal.returns-else-not-self
unfolding startable_file
returns-else-not-self c = elim c.if-self-priority.branch [
  | then-self-priority w ↦ rw (eq-eqb _ _ w.if-self-priority.true, sym w.value-is ∙ c.if-not-self.false) c.if-not-self.false
  | else-self-priority w ↦ rw (ne_eqb _ _ w.if-self-priority.false) c.if-not-self.false
]
