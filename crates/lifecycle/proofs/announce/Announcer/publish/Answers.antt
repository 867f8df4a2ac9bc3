use borrow.Author.Tests.{lt-ltb, le-ltb}
use Rattle.lifecycle.specs.Announce.{published_of}
use Rattle.lifecycle.proofs.announce.Announcer.publish.Goals as goal

pub returns-then-self-lt-WAITING_FDTS : goal.returns-then-self-lt-WAITING_FDTS
unfolding published_of
returns-then-self-lt-WAITING_FDTS c = rw (lt-ltb _ _ c.if-self-lt-WAITING_FDTS.true) c.queue_up.ensures

pub returns-else-self-lt-WAITING_FDTS : goal.returns-else-self-lt-WAITING_FDTS
unfolding published_of
returns-else-self-lt-WAITING_FDTS c = rw (le-ltb _ _ c.if-self-lt-WAITING_FDTS.false)
