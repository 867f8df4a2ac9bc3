use Rattle.lifecycle.specs.Announce.{start_of}
use Rattle.lifecycle.proofs.announce.Announcer.start_current.Goals as goal
use Rattle.lifecycle.proofs.announce.Announcer.start_current.Goals.{then-not-self-via-then-not-self, then-not-self-via-else-not-self+then-not-may_start_now}

pub returns-then-not-self : goal.returns-then-not-self
unfolding start_of
returns-then-not-self c taken = elim c.then-not-self.branch [
  | then-not-self-via-then-not-self w ↦ rw w.if-not-self.true
  | then-not-self-via-else-not-self+then-not-may_start_now w ↦ rw (← w.may_start_now.ensures, w.if-not-self.false, w.if-not-may_start_now.true)
]

pub returns : goal.returns
unfolding start_of
returns c taken = rw (c.start.ensures, ← c.may_start_now.ensures, c.if-not-self.false, c.if-not-may_start_now.false)
