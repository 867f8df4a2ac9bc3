-- What a session stands at between two calls, and the definition's words for the list and for the FDT side.
use Rattle.std.specs.Prelude.{◌≡◌, true, false, List, map, ℕ, ◌<◌}
use Rattle.sizes.specs.Words.{when◌then◌else◌}
use Rattle.sizes.specs.Limits.{object_slots}
use Rattle.lifecycle.specs.Lifecycle.{Carousel}
use Rattle.lifecycle.specs.Slots.{slot_at}
use Rattle.lifecycle.specs.Announce.{state_of}
use Rattle.lifecycle.specs.FdtCalls.{file_at, files, sends}
use Rattle.lifecycle.specs.declared.fdt.Settings.{Settings}
use Rattle.lifecycle.specs.declared.fdt.Fdt.{Fdt}
use Rattle.definition.specs.FdtSession as DefFdt
use Rattle.definition.specs.Session as Def
use Rattle.sender.specs.EncoderCalls.{ValidEncoder}
use Rattle.sender.specs.SessionCalls.{object_of, idle_of}
use Rattle.sender.specs.FdtSessionCalls.{fdt_hand_of}
use Rattle.sender.specs.declared.sendersession.SenderSession.{SenderSession}
use Rattle.sender.specs.declared.fdtsession.FdtSession.{FdtSession}

-- ---- a file session between two calls

-- the object in hand is in transfer, and the encoder is one of it
pub record InHand (f : Fdt) (w : ℕ) (x : SenderSession) : Type 0 where
  pub slot : x.slot < object_slots
  pub sent : sends (slot_at f.slots x.slot) ≡ true
  pub encoder : ValidEncoder x.encoder
  pub part : x.encoder.content.part ≡ (file_at f.slots x.slot).part
  pub sizes : x.encoder.content.sizes ≡ (file_at f.slots x.slot).sizes
  pub width : x.encoder.width ≡ w

-- an object is in hand, or nothing is
pub record Stands (f : Fdt) (w : ℕ) (x : SenderSession) : Type 0 where
  pub busy : x.busy ≡ true → InHand f w x
  pub idle : x.busy ≡ false → x ≡ idle_of x.priority

-- the objects that wait, in order
abbrev pub queue_of : Fdt → List Def.Object
queue_of f = map object_of (files f)

-- ---- the FDT session between two calls

-- the encoder is one of an FDT
pub record FdtInHand (f : Fdt) (w : ℕ) (x : FdtSession) : Type 0 where
  pub encoder : ValidEncoder x.encoder
  pub sizes : x.encoder.content.sizes ≡ f.settings.sizes
  pub width : x.encoder.width ≡ w

-- ---- the FDT side

-- the carousel of the FDTs
abbrev pub fdt_carousel_of : Settings → Carousel
fdt_carousel_of z = when z.from_start then Carousel.interval z.interval else Carousel.delay z.interval

-- the FDT side, with what is in hand
abbrev pub fdt_of : Fdt → FdtSession → DefFdt.Fdt
fdt_of f x = record { state = state_of f.announcer; hand = fdt_hand_of x }
