-- What a run of the FDT session means in the definition's words.
use mathlib.Core.Path.{◌≡◌, refl}
use mathlib.Core.Bool.{true, false, false≢true}
use Rattle.std.specs.Prelude.{Option, None, Some}
use Prim.Native.Nat.{ℕ, ◌≤◌}
use Rattle.sizes.specs.Limits.{largest_window}
use Rattle.lifecycle.specs.Setup.{Setup}
use Rattle.lifecycle.specs.declared.fdt.Settings.{Settings}
use Rattle.lifecycle.specs.declared.fdt.Fdt.{Fdt}
use Rattle.lifecycle.proofs.AnnounceKeep.{SameObjects, marked_slots}
use Rattle.definition.specs.FdtSession.{Packet}
use Rattle.definition.specs.FdtSession as Def
use Rattle.sender.specs.EncoderCalls.{symbol_said}
use Rattle.sender.specs.FdtSessionCalls.{FdtHolds, GoodDraft, FdtTries, fdt_idle_of, FdtTurn}
use Rattle.sender.specs.SessionMeans.{FdtInHand, fdt_carousel_of, fdt_of}
use Rattle.sender.specs.declared.sendersession.Outcome.{Outcome}
use Rattle.sender.specs.declared.sendersession.Outcome.TheVariants.{Idle, Sent, Over}
use Rattle.sender.specs.declared.fdtsession.FdtSession.{FdtSession}
use Rattle.lifecycle.specs.declared.parts.Part.{Part}

-- ---- between two calls

-- an FDT is in hand, or nothing is
pub record FdtStands (f : Fdt) (w : ℕ) (x : FdtSession) : Type 0 where
  pub busy : x.busy ≡ true → FdtInHand f w x
  pub idle : x.busy ≡ false → x ≡ fdt_idle_of

-- a session that stands may be run
pub stands_tries : (f : Fdt) (w : ℕ) (draft : Option Part) (x : FdtSession) → FdtHolds f → w ≤ largest_window → GoodDraft f.settings.sizes draft → FdtStands f w x → FdtTries f w draft x
stands_tries f w draft x h n d s = record { holds = h; narrow = n; looked = d; busy = λ b. (s.busy b).encoder }

-- nothing in hand
pub fdt_idle_stands : (f : Fdt) (w : ℕ) → FdtStands f w fdt_idle_of
fdt_idle_stands f w = record { busy = λ b. absurd (false≢true b); idle = λ b. refl }

-- ---- its run

-- the definition's set-up says what the settings say
pub record SetFor (u : Setup) (w : ℕ) (z : Settings) : Type 0 where
  pub window : u.window ≡ w
  pub sizes : u.sizes ≡ z.sizes
  pub validity : u.validity ≡ z.validity
  pub carousel : u.carousel ≡ fdt_carousel_of z

-- the packet of an answer, for the FDT with this id
abbrev pub fdt_packet_said : ℕ → Outcome → Option Packet
fdt_packet_said id Idle = None
fdt_packet_said id (Sent s) = Some record { id = Some id; toi = 0; symbol = symbol_said s }
fdt_packet_said id Over = None

-- what a run comes to
abbrev pub fdt_turn_of : FdtTurn → Def.FdtTurn
fdt_turn_of r = record { taken = r.taken; packet = fdt_packet_said r.session.id r.answer; fdt = fdt_of r.fdt r.session }

-- a run from list f is the definition's turn m; what it leaves in hand, what it marks, and what stays
pub record FdtTurns (w : ℕ) (f : Fdt) (m : Def.FdtTurn) (r : FdtTurn) : Type 0 where
  pub view : m ≡ fdt_turn_of r
  pub holds : FdtHolds r.fdt
  pub stands : FdtStands r.fdt w r.session
  pub slots : r.fdt.slots ≡ marked_slots r.taken f.slots
  pub same : SameObjects f r.fdt
