use mathlib.Core.Bool.{and-true, and-false}
use Rattle.sender.specs.SessionCalls.{forced_slot}
use Rattle.sender.proofs.sendersession.is_forced.Goals as goal

pub returns-then-not-v : goal.returns-then-not-v
unfolding forced_slot
returns-then-not-v c = rw (c.if-not-v.true, and-true) c.can_transfer_be_stopped.ensures

pub returns-else-not-v : goal.returns-else-not-v
unfolding forced_slot
returns-else-not-v c = rw (c.if-not-v.false, and-false)
