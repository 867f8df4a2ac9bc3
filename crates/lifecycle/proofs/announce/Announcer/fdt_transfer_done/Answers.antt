use Rattle.lifecycle.specs.Announce.{current_done}
use Rattle.lifecycle.proofs.announce.Announcer.fdt_transfer_done.Goals as goal

pub returns-then-self : goal.returns-then-self
unfolding current_done
returns-then-self c = rw (c.end.ensures, c.if-self.true)

pub returns-else-self : goal.returns-else-self
unfolding current_done
returns-else-self c = rw c.if-self.false
