use Rattle.lifecycle.specs.Slots.{is_listed_as}
use Rattle.lifecycle.proofs.slots.Slot.is_listed_as.Goals as goal

pub returns-then-self : goal.returns-then-self
unfolding is_listed_as
returns-then-self c = rw c.if-self.true

pub returns-else-self : goal.returns-else-self
unfolding is_listed_as
returns-else-self c = rw c.if-self.false
