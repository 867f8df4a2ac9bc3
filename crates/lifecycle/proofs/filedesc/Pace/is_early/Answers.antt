use Rattle.lifecycle.specs.Lifecycle.{too_early}
use Rattle.lifecycle.proofs.filedesc.Pace.is_early.Goals as goal

pub returns-then-self : goal.returns-then-self
unfolding too_early
returns-then-self c = rw c.if-self.true

pub returns-else-self : goal.returns-else-self
unfolding too_early
returns-else-self c = rw c.if-self.false
