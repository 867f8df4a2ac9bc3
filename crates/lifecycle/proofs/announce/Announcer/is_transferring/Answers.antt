use Rattle.lifecycle.specs.Announce.{transferring_of}
use Rattle.lifecycle.proofs.announce.Announcer.is_transferring.Goals as goal

pub returns-then-self : goal.returns-then-self
unfolding transferring_of
returns-then-self c = rw c.if-self.true

pub returns-else-self : goal.returns-else-self
unfolding transferring_of
returns-else-self c = rw c.if-self.false
