use Rattle.lifecycle.specs.FileDesc.{done_life}
use Rattle.lifecycle.proofs.filedesc.Life.end.Goals as goal

pub returns : goal.returns
unfolding done_life
returns c = rw (c.saturating_add-self.ensures, c.saturating_add-self-2.ensures, c.at-self.ensures)
