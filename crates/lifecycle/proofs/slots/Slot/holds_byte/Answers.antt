use Rattle.lifecycle.specs.Slots.{holds_byte}
use Rattle.lifecycle.proofs.slots.Slot.holds_byte.Goals as goal

pub returns-then-not-is_free : goal.returns-then-not-is_free
unfolding holds_byte
returns-then-not-is_free c = rw (← c.is_free.ensures, c.if-not-is_free.true) c.shares.ensures

pub returns-else-not-is_free : goal.returns-else-not-is_free
unfolding holds_byte
returns-else-not-is_free c = rw (← c.is_free.ensures, c.if-not-is_free.false)
