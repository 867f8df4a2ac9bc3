use mathlib.Core.Path.{sym, ◌∙◌, ap}
use native.Mathlib.Omega.{arith}
use borrow.Author.Tests.{le-ltb}
use Rattle.std.proofs.lemmas.List.{get_or_default}
use Rattle.lifecycle.specs.FileDesc.{startable_file}
use Rattle.lifecycle.specs.Slots.{no_slot, queue_startable}
use Rattle.lifecycle.specs.declared.slots.Slot.{Slot}
use Rattle.lifecycle.proofs.FdtLaws.{past_starts}
use Rattle.lifecycle.proofs.fdt.Fdt.may_start.Goals as goal

pub returns-then-k-lt-OBJECT_SLOTS : goal.returns-then-k-lt-OBJECT_SLOTS
unfolding queue_startable
returns-then-k-lt-OBJECT_SLOTS c = c.should_transfer_now.ensures ∙ ap (λ (v : Slot). startable_file c.args.priority c.args.at v.file) (get_or_default c.args.self.now.slots c.args.k _ no_slot (omega arith))

pub returns-else-k-lt-OBJECT_SLOTS : goal.returns-else-k-lt-OBJECT_SLOTS
returns-else-k-lt-OBJECT_SLOTS c = le-ltb _ _ c.if-k-lt-OBJECT_SLOTS.false ∙ sym (past_starts c.args.self.now.slots c.args.priority c.args.at c.args.k (omega arith))
