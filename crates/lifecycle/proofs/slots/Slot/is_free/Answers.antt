use mathlib.Core.Path.{refl}
use Rattle.lifecycle.specs.Slots.{is_free}
use Rattle.lifecycle.proofs.slots.Slot.is_free.Goals as goal

pub returns : goal.returns
unfolding is_free
returns c = refl
