use mathlib.Core.Path.{sym, ◌∙◌}
use Rattle.lifecycle.specs.Announce.{next_of}
use Rattle.lifecycle.proofs.announce.Announcer.get_next_fdt_transfer.Goals as goal

pub returns-then-is_transferring : goal.returns-then-is_transferring
unfolding next_of
returns-then-is_transferring c = rw (sym c.is_transferring.ensures ∙ c.if-is_transferring.true)

pub returns : goal.returns
unfolding next_of
returns c = rw (sym c.is_transferring.ensures ∙ c.if-is_transferring.false, ← c.republish-taken.ensures.taken, ← c.republish-taken.ensures.left, ← c.take_front.ensures) (c.start_current-starts.ensures c.republish-taken.result)
