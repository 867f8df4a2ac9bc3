-- The FDT session as the code has it: what it means, and what each function makes of it.
use Rattle.std.specs.Prelude.{◌≡◌, Bool, true, false, ◌||◌, ℕ, ◌+◌, ◌<◌, ◌≤◌, get_or}
use Rattle.std.specs.Prelude.{Option, None, Some}
use Rattle.sizes.specs.Words.{when◌then◌else◌}
use Rattle.sizes.specs.Limits.{wide, largest_window}
use Rattle.sizes.specs.declared.partition.Sizes.{Sizes}
use Rattle.lifecycle.specs.Setup.{bad_blocks}
use Rattle.lifecycle.specs.Announce.{no_instance}
use Rattle.lifecycle.specs.FdtCalls.{next_fdt_of, fdt_done_of}
use Rattle.lifecycle.specs.FdtCalls.{ValidFdt}
use Rattle.lifecycle.specs.declared.parts.Part.{Part}
use Rattle.lifecycle.specs.declared.fdt.Fdt.{Fdt}
use Rattle.definition.specs.FdtSession as Def
use Rattle.sender.specs.EncoderCalls.{encoder_of, new_of, read_of}
use Rattle.sender.specs.EncoderCalls.{ValidEncoder}
use Rattle.sender.specs.SessionCalls.{no_encoder}
use Rattle.sender.specs.declared.blockencoder.BlockEncoder.{BlockEncoder}
use Rattle.sender.specs.declared.blockencoder.Symbol.{Symbol}
use Rattle.sender.specs.declared.sendersession.Outcome.{Outcome}
use Rattle.sender.specs.declared.sendersession.Outcome.TheVariants.{Idle, Sent, Over}
use Rattle.sender.specs.declared.fdtsession.FdtSession.{FdtSession}

-- ---- what the record means

-- the part of what is in hand is the encoder's
abbrev pub fdt_hand_of : FdtSession → Option Def.FdtHand
fdt_hand_of x = when x.busy then Some record { id = x.id; part = x.encoder.content.part; encoder = encoder_of x.encoder } else None

-- ---- what every call keeps

-- the session may send: where an FDT is in hand, its encoder is one of it
pub record FdtRuns (f : Fdt) (x : FdtSession) : Type 0 where
  pub valid : ValidFdt f
  pub busy : x.busy ≡ true → ValidEncoder x.encoder

-- a part whose block count was admitted, and which lies in a store
pub record GoodPart (z : Sizes) (c : Part) : Type 0 where
  pub sizes : bad_blocks z c.size ≡ false
  pub fits : c.start + c.size < wide

-- every FDT that waits, and the current one, has such a part
pub record FdtHolds (f : Fdt) : Type 0 where
  pub valid : ValidFdt f
  pub waiting : (i : ℕ) → i < f.announcer.waiting → GoodPart f.settings.sizes (get_or f.announcer.queue i no_instance).part
  pub current : f.announcer.has_current ≡ true → GoodPart f.settings.sizes f.announcer.current.part

-- a draft that was looked at
abbrev pub GoodDraft : Sizes → Option Part → Type 0
GoodDraft z (Some c) = GoodPart z c
GoodDraft z None = Unit {0}

-- the session may be run with a draft
pub record FdtTries (f : Fdt) (w : ℕ) (draft : Option Part) (x : FdtSession) : Type 0 where
  pub holds : FdtHolds f
  pub narrow : w ≤ largest_window
  pub looked : GoodDraft f.settings.sizes draft
  pub busy : x.busy ≡ true → ValidEncoder x.encoder

-- ---- what the functions make of it

-- was the draft taken, what the session comes to, and the list and the session after it
pub record FdtTurn : Type 0 where
  pub taken : Bool
  pub answer : Outcome
  pub fdt : Fdt
  pub session : FdtSession

-- a draft that was taken is not there any more
abbrev pub left_of : Option Part → Bool → Option Part
left_of draft taken = when taken then None else draft

-- with nothing in hand
abbrev pub fdt_idle_of : FdtSession
fdt_idle_of = record { busy = false; id = 0; encoder = no_encoder }

-- the FDT that starts is in hand
unfoldable pub fdt_begun_of : ℕ → ℕ → Part → Sizes → FdtSession
fdt_begun_of w id c z = record { busy = true; id = id; encoder = new_of c z w false }

-- after a read that left the encoder y: the transfer is over, or a symbol was sent
abbrev pub fdt_sent_by : ℕ → Bool → Fdt → FdtSession → BlockEncoder → Option Symbol → FdtTurn
fdt_sent_by now taken f x y None = record { taken = taken; answer = Over; fdt = fdt_done_of now f; session = fdt_idle_of }
fdt_sent_by now taken f x y (Some s) = record { taken = taken; answer = Sent s; fdt = f; session = record { busy = x.busy; id = x.id; encoder = y } }

unfoldable pub fdt_sent_of : ℕ → Bool → Fdt → FdtSession → FdtTurn
fdt_sent_of now taken f x =
    when x.busy then fdt_sent_by now taken f x (read_of false x.encoder).encoder (read_of false x.encoder).answer
    else record { taken = taken; answer = Idle; fdt = f; session = x }

-- with nothing in hand, ask for the next; a draft that was taken is not there any more. Then send
unfoldable pub fdt_attempted_of : ℕ → ℕ → Option Part → Bool → Fdt → FdtSession → FdtTurn
fdt_attempted_of w now draft taken f x =
    when x.busy then fdt_sent_of now taken f x
    else (let n = next_fdt_of now (left_of draft taken) f in
    let i = n.fdt.announcer.current in
    fdt_sent_of now (taken || n.taken) n.fdt (when n.starts then fdt_begun_of w i.id i.part f.settings.sizes else x))

-- after the first round
abbrev pub fdt_again_by : ℕ → ℕ → Option Part → FdtTurn → Outcome → FdtTurn
fdt_again_by w now draft a Over = fdt_attempted_of w now draft a.taken a.fdt a.session
fdt_again_by w now draft a Idle = a
fdt_again_by w now draft a (Sent s) = a

-- a run of the FDT session
unfoldable pub fdt_ran_of : ℕ → ℕ → Option Part → Fdt → FdtSession → FdtTurn
fdt_ran_of w now draft f x = let a = fdt_attempted_of w now draft false f x in fdt_again_by w now draft a a.answer
