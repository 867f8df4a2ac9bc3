use Rattle.lifecycle.specs.FileDesc.{plan_named}
use Rattle.lifecycle.proofs.filedesc.Plan.new.Goals as goal

pub returns : goal.returns
unfolding plan_named
returns c = rw (c.with_target.ensures, c.with_carousel.ensures)
