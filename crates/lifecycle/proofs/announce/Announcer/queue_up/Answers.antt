use Rattle.lifecycle.specs.Announce.{queued_of}
use Rattle.lifecycle.proofs.announce.Announcer.queue_up.Goals as goal

pub returns : goal.returns
unfolding queued_of
returns c = rw (c.new.ensures, c.at-self.ensures)
