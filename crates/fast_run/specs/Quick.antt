-- A packet in the middle of a transfer: only numbers of the session change.
use Rattle.std.specs.Prelude.{◌≡◌, Bool, false, not, ◌&&◌, ℕ, ◌+◌, ◌<◌, eqb, set, Option, None, Some}
use Rattle.sizes.specs.Words.{when◌then◌else◌, over}
use Rattle.sizes.specs.Limits.{largest_window}
use Rattle.sizes.specs.Partition.{esi}
use Rattle.sizes.specs.declared.numbers.Esi.{Esi}
use Rattle.lifecycle.specs.Lifecycle.{too_early}
use Rattle.lifecycle.specs.FileDesc.{pace_said, ticked_of}
use Rattle.lifecycle.specs.declared.slots.Slot.{Slot}
use Rattle.sender.specs.EncoderCalls.{open_at, glance_of}
use Rattle.sender.specs.SenderCalls.{answer_of}
use Rattle.sender.specs.declared.blockencoder.Visit.{Visit}
use Rattle.sender.specs.declared.blockencoder.BlockEncoder.{BlockEncoder}
use Rattle.sender.specs.declared.sendersession.SenderSession.{SenderSession}
use Rattle.sender.specs.declared.sendersession.Outcome.TheVariants as OutcomeV
use Rattle.host_structs.specs.Answers.{run_told}
use Rattle.fast_run.specs.Settle.{settled_of}
use Rattle.fast_run.specs.declared.quick.Numbers.{Numbers}

-- is a packet of a listed object due
unfoldable pub is_due : ℕ → ℕ → Slot → SenderSession → Bool
is_due waiting now t x = eqb waiting 0 && x.busy && t.listed && not (too_early now (pace_said x.pace))

-- the next symbol of the block that is read, the place after it, the due time after a tick, and the packet
abbrev pub numbers_by : ℕ → SenderSession → Visit → Numbers
numbers_by toi x v = record { place = v.place; esi = esi (v.symbol.esi.0 + 1); next = v.place + 1; due = (ticked_of x.pace).due; answer = run_told false (answer_of false toi 0 (OutcomeV.Sent v.symbol)) }

unfoldable pub numbers_of : ℕ → ℕ → Slot → SenderSession → Option Numbers
numbers_of waiting now t x = when is_due waiting now t x then over (numbers_by t.file.toi x) (glance_of x.encoder) else None

-- the encoder with another next symbol of the block at p; with another index
abbrev pub with_esi : BlockEncoder → ℕ → Esi → BlockEncoder
with_esi e p y = record { content = e.content; width = e.width; closable = e.closable; begun = e.begun; stopped = e.stopped; next = e.next; filled = e.filled; index = e.index; window = set e.window p (record { sbn = (open_at e p).sbn; esi = y }) }

abbrev pub with_index : BlockEncoder → ℕ → BlockEncoder
with_index e n = record { content = e.content; width = e.width; closable = e.closable; begun = e.begun; stopped = e.stopped; next = e.next; filled = e.filled; index = n; window = e.window }

-- the session with another encoder; with another due time
abbrev pub with_encoder : SenderSession → BlockEncoder → SenderSession
with_encoder x e = record { priority = x.priority; busy = x.busy; slot = x.slot; pace = x.pace; encoder = e }

abbrev pub with_due : SenderSession → ℕ → SenderSession
with_due x d = record { priority = x.priority; busy = x.busy; slot = x.slot; pace = record { paced = x.pace.paced; due = d; tick = x.pace.tick }; encoder = x.encoder }

-- with all three numbers
abbrev pub stepped : SenderSession → ℕ → Esi → ℕ → ℕ → SenderSession
stepped x p y n d = with_due (with_encoder x (with_index (with_esi x.encoder p y) n)) d

-- the run is settled, and these numbers say how
pub record Quick (waiting now : ℕ) (t : Slot) (x : SenderSession) (r : Numbers) : Type 0 where
  pub exact : settled_of waiting now t x ≡ Some record { answer = r.answer; session = stepped x r.place r.esi r.next r.due }
  pub place : r.place < largest_window

-- the numbers are exact, and where they say so the run is settled by them
pub record Glances (waiting now : ℕ) (t : Slot) (x : SenderSession) (r : Option Numbers) : Type 0 where
  pub exact : r ≡ numbers_of waiting now t x
  pub settles : (n : Numbers) → r ≡ Some n → Quick waiting now t x n
