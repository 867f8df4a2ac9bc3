use Rattle.lifecycle.specs.Slots.{published_slot}
use Rattle.lifecycle.proofs.slots.Slot.publish.Goals as goal

pub returns-then-self : goal.returns-then-self
unfolding published_slot
returns-then-self c = rw (c.set_published.ensures, c.if-self.true)

pub returns-else-self : goal.returns-else-self
unfolding published_slot
returns-else-self c = rw c.if-self.false
