use native.Mathlib.Omega.{arith}
use Rattle.sizes.proofs.Arrays.{mapped_more}
use Rattle.lifecycle.specs.Slots.{no_slot, published_slot}
use Rattle.lifecycle.proofs.slots.mark_published.Goals as goal

pub loop-s-preserved : goal.loop-s-preserved
loop-s-preserved c = mapped_more published_slot c.args.slots.now c.loop-s.s-index no_slot (omega arith) c.loop-s.invariant c.publish.ensures
