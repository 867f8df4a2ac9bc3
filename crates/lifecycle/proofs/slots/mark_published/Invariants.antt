use mathlib.Core.Path.{◌≡◌}
use Rattle.sizes.proofs.Arrays.{mapped}
use Rattle.lifecycle.specs.Slots.{published_slot}
use Rattle.lifecycle.proofs.slots.mark_published.Given as goal

abbrev pub invariant-loop-s : goal.invariant-loop-s
invariant-loop-s l = l.slots ≡ mapped published_slot l.initial.slots l.s-index
