use Rattle.lifecycle.specs.FileDesc.{reset_life}
use Rattle.lifecycle.proofs.filedesc.Life.reset.Goals as goal

pub returns-then-start : goal.returns-then-start
unfolding reset_life
returns-then-start c = rw (c.if-start.true, c.none-self.ensures, c.none-self-2.ensures)

pub returns-else-start : goal.returns-else-start
unfolding reset_life
returns-else-start c = rw (c.if-start.false, c.none-self.ensures, c.none-self-2.ensures)
