use borrow.Author.Tests.{eq-eqb, ne_eqb}
use Rattle.lifecycle.specs.Announce.{needs_new_of}
use Rattle.lifecycle.proofs.announce.Announcer.needs_new.Goals as goal
use Rattle.lifecycle.proofs.announce.Announcer.needs_new.Goals.{then-not-self-via-then-not-self, then-not-self-via-else-not-self+then-not-self-2}

pub returns-then-self-ne0 : goal.returns-then-self-ne0
unfolding needs_new_of
returns-then-self-ne0 c = rw (ne_eqb c.args.self.now.waiting 0 c.if-self-ne0.true)

pub returns-then-not-self : goal.returns-then-not-self
unfolding needs_new_of
returns-then-not-self c = elim c.then-not-self.branch [
  | then-not-self-via-then-not-self w ↦ rw (eq-eqb c.args.self.now.waiting 0 c.if-self-ne0.false, w.if-not-self.true)
  | then-not-self-via-else-not-self+then-not-self-2 w ↦ rw (eq-eqb c.args.self.now.waiting 0 c.if-self-ne0.false, w.if-not-self.false, w.if-not-self-2.true)
]

pub returns : goal.returns
unfolding needs_new_of
returns c = rw (c.will_expire.ensures, c.elapsed.ensures, eq-eqb c.args.self.now.waiting 0 c.if-self-ne0.false, c.if-not-self.false, c.if-not-self-2.false)
