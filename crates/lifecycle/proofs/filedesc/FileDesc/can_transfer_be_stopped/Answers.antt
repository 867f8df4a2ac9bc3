use Rattle.lifecycle.specs.Lifecycle.{may_stop}
use Rattle.lifecycle.proofs.filedesc.FileDesc.can_transfer_be_stopped.Goals as goal

pub returns-then-self : goal.returns-then-self
unfolding may_stop
returns-then-self c = rw c.if-self.true

pub returns-else-self : goal.returns-else-self
unfolding may_stop
returns-else-self c = rw c.if-self.false
