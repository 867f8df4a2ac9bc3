use borrow.Author.Tests.{eq-eqb, ne_eqb}
use Rattle.lifecycle.specs.FileDesc.{started_life}
use Rattle.lifecycle.proofs.filedesc.Life.start.Goals as goal
use Rattle.lifecycle.proofs.filedesc.Life.start.Goals.{else-r-via-then-r+else-self-r, else-r-via-else-r}

pub returns-then-self-r : goal.returns-then-self-r
unfolding started_life
returns-then-self-r c = rw (c.at-self.ensures, c.if-r.true, eq-eqb _ _ c.if-self-r.true)

pub returns-else-r : goal.returns-else-r
unfolding started_life
returns-else-r c = elim c.else-r.branch [
  | else-r-via-then-r+else-self-r w ↦ rw (c.at-self.ensures, w.if-r.true, ne_eqb _ _ w.if-self-r.false)
  | else-r-via-else-r w ↦ rw (c.at-self.ensures, w.if-r.false)
]
