use Rattle.lifecycle.specs.Setup.{sound_sizes}
use Rattle.lifecycle.proofs.SetupLaws.{both, not_first}
use Rattle.lifecycle.proofs.fdt.are_sound_sizes.Goals as goal

pub returns-then-is_within : goal.returns-then-is_within
unfolding sound_sizes
returns-then-is_within c = both c.is_within.ensures c.if-is_within.true c.is_within-then-is_within.ensures

pub returns-else-is_within : goal.returns-else-is_within
unfolding sound_sizes
returns-else-is_within c = not_first _ c.is_within.ensures c.if-is_within.false
