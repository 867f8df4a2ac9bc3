use Rattle.lifecycle.specs.FileDesc.{plan_named, with_carousel, with_target}
use Rattle.lifecycle.proofs.slots.no_slot.Goals as goal

pub returns : goal.returns
unfolding plan_named with_carousel with_target
returns c = rw (c.new.ensures, c.none.ensures, c.new-plan.ensures)
