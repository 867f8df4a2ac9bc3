-- The file sessions as the code has them: what they mean, and what each function makes of them.
use Rattle.std.specs.Prelude.{◌≡◌, Bool, true, false, not, ◌&&◌, ◌||◌, List, ℕ, ◌+◌, ◌<◌, ◌≤◌, replicate}
use Rattle.std.specs.Prelude.{Option, None, Some}
use Rattle.sizes.specs.Words.{when◌then◌else◌}
use Rattle.sizes.specs.Limits.{wide, object_slots, largest_window}
use Rattle.sizes.specs.Partition.{sbn, no_blocks}
use Rattle.lifecycle.specs.Setup.{bad_blocks}
use Rattle.lifecycle.specs.Lifecycle.{is_last, may_stop, too_early}
use Rattle.lifecycle.specs.FileDesc.{plan_of, life_of, pace_said, no_pace, pace_at, ticked_of}
use Rattle.lifecycle.specs.Slots.{slot_at}
use Rattle.lifecycle.specs.Announce.{waits_of}
use Rattle.lifecycle.specs.FdtCalls.{used, taken_of, done_of}
use Rattle.lifecycle.specs.FdtCalls.{ValidFdt}
use Rattle.lifecycle.specs.declared.filedesc.FileDesc.{FileDesc}
use Rattle.lifecycle.specs.declared.slots.Slot.{Slot}
use Rattle.lifecycle.specs.declared.fdt.Fdt.{Fdt}
use Rattle.definition.specs.Session as Def
use Rattle.sender.specs.EncoderCalls.{no_open, encoder_of, new_of, read_of}
use Rattle.sender.specs.EncoderCalls.{ValidEncoder}
use Rattle.sender.specs.declared.blockencoder.BlockEncoder.{BlockEncoder}
use Rattle.sender.specs.declared.blockencoder.Symbol.{Symbol}
use Rattle.sender.specs.declared.sendersession.SenderSession.{SenderSession}
use Rattle.sender.specs.declared.sendersession.Outcome.{Outcome}
use Rattle.sender.specs.declared.sendersession.Outcome.TheVariants.{Idle, Sent, Over}

-- ---- what the records mean

abbrev pub object_of : FileDesc → Def.Object
object_of o = record { toi = o.toi; priority = o.priority; part = o.part; sizes = o.sizes; plan = plan_of o.plan; life = life_of o.life }

-- what a session has in hand, of an object in a slot
abbrev pub hand_of : Slot → SenderSession → Def.Hand
hand_of v x = record { object = object_of v.file; listed = v.listed; encoder = encoder_of x.encoder; pace = pace_said x.pace }

abbrev pub session_of : List Slot → SenderSession → Def.Session
session_of t x = record { priority = x.priority; hand = when x.busy then Some (hand_of (slot_at t x.slot) x) else None }

-- ---- what every call keeps

-- an object's sizes were admitted, and its part lies in a store
pub record Good (o : FileDesc) : Type 0 where
  pub sizes : bad_blocks o.sizes o.part.size ≡ false
  pub fits : o.part.start + o.part.size < wide

-- the list's own state, with every held object good
pub record Holds (f : Fdt) : Type 0 where
  pub valid : ValidFdt f
  pub good : (k : ℕ) → used (slot_at f.slots k) ≡ true → Good (slot_at f.slots k).file

-- an object is in hand
pub record Ready (f : Fdt) (x : SenderSession) : Type 0 where
  pub valid : ValidFdt f
  pub slot : x.slot < object_slots
  pub encoder : ValidEncoder x.encoder

-- a session may be run: where an object is in hand, its encoder is one of it
pub record Runs (f : Fdt) (w : ℕ) (x : SenderSession) : Type 0 where
  pub holds : Holds f
  pub narrow : w ≤ largest_window
  pub busy : x.busy ≡ true → Ready f x

-- ---- what the functions make of them

pub record Serving : Type 0 where
  pub answer : Outcome
  pub session : SenderSession

pub record Turn : Type 0 where
  pub answer : Outcome
  pub fdt : Fdt
  pub session : SenderSession

-- no transfer: zeros
abbrev pub no_encoder : BlockEncoder
no_encoder = record {
  content = record { part = record { start = 0; size = 0 }; sizes = record { e = 0; b = 0 }; partition = no_blocks };
  width = 0;
  closable = false;
  begun = false;
  stopped = false;
  next = sbn 0;
  filled = 0;
  index = 0;
  window = replicate largest_window no_open;
}

-- with nothing in hand
abbrev pub idle_of : ℕ → SenderSession
idle_of p = record { priority = p; busy = false; slot = 0; pace = no_pace; encoder = no_encoder }

-- the object in slot k, whose transfer has started, is in hand
unfoldable pub begun_of : ℕ → ℕ → ℕ → ℕ → FileDesc → SenderSession
begun_of w now p k o = record {
  priority = p;
  busy = true;
  slot = k;
  pace = pace_at o.plan now o.part.size o.sizes.e;
  encoder = new_of o.part o.sizes w (is_last (plan_of o.plan) (life_of o.life));
}

-- is the transfer to be forced to its end
unfoldable pub forced_slot : Slot → Bool
forced_slot v = may_stop (plan_of v.file.plan) (life_of v.file.life) && not v.listed

-- after a read that left the encoder y: the transfer is over, or a symbol was sent and the due time has moved
abbrev pub service_by : SenderSession → BlockEncoder → Option Symbol → Serving
service_by x y None = record { answer = Over; session = x }
service_by x y (Some s) = record { answer = Sent s; session = record { priority = x.priority; busy = x.busy; slot = x.slot; pace = ticked_of x.pace; encoder = y } }

-- nothing while an FDT is queued or before the due time; else a read
unfoldable pub served_of : Bool → Bool → ℕ → SenderSession → Serving
served_of forced blocked now x =
    when blocked || too_early now (pace_said x.pace) then record { answer = Idle; session = x }
    else service_by x (read_of forced x.encoder).encoder (read_of forced x.encoder).answer

-- at the end of its transfer the object is done, and the hand is empty
abbrev pub ran_by : ℕ → Fdt → SenderSession → SenderSession → Outcome → Turn
ran_by now f x y Over = record { answer = Over; fdt = done_of now x.slot f; session = idle_of x.priority }
ran_by now f x y Idle = record { answer = Idle; fdt = f; session = y }
ran_by now f x y (Sent s) = record { answer = Sent s; fdt = f; session = y }

-- with an object in hand
unfoldable pub attended_of : ℕ → Fdt → SenderSession → Turn
attended_of now f x =
    let r = served_of (forced_slot (slot_at f.slots x.slot)) (waits_of f.announcer) now x in
    ran_by now f x r.session r.answer

-- with what was taken, if anything
abbrev pub taken_by : ℕ → ℕ → Fdt → SenderSession → Option ℕ → Turn
taken_by w now f x None = record { answer = Idle; fdt = f; session = x }
taken_by w now f x (Some k) = attended_of now f (begun_of w now x.priority k (slot_at f.slots k).file)

-- with nothing in hand: the first in the queue that may start is taken
unfoldable pub taken_on_of : ℕ → ℕ → Fdt → SenderSession → Turn
taken_on_of w now f x = let t = taken_of x.priority now f in taken_by w now t.fdt x t.answer

-- after the first round: a transfer that is over makes room for another
abbrev pub again_by : ℕ → ℕ → Turn → Outcome → Turn
again_by w now a Over = taken_on_of w now a.fdt a.session
again_by w now a Idle = a
again_by w now a (Sent s) = a

-- a run of a file session
unfoldable pub ran_of : ℕ → ℕ → Fdt → SenderSession → Turn
ran_of w now f x =
    when x.busy then again_by w now (attended_of now f x) (attended_of now f x).answer
    else taken_on_of w now f x
