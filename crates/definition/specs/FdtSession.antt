-- The FDT session: what it sends, and its run.
use Rattle.std.specs.Prelude.{Bool, false, ◌||◌, ℕ}
use Rattle.std.specs.Prelude.{Option, None, Some}
use Rattle.sizes.specs.Words.{when◌then◌else◌, given}
use Rattle.lifecycle.specs.declared.parts.Part.{Part}
use Rattle.lifecycle.specs.Setup.{Setup}
use Rattle.lifecycle.specs.Fdt.{FdtState, Instance, queued, next_fdt, fdt_done}
use Rattle.definition.specs.Encoder.{Encoder, Symbol, fresh, read}

-- a packet: an FDT's has an id and object number 0
pub record Packet : Type 0 where
  pub id : Option ℕ
  pub toi : ℕ
  pub symbol : Symbol

-- the FDT that the session has in hand
pub record FdtHand : Type 0 where
  pub id : ℕ
  pub part : Part
  pub encoder : Encoder

pub record Fdt : Type 0 where
  pub state : FdtState
  pub hand : Option FdtHand

-- publish
unfoldable pub fdt_published : ℕ → Part → Fdt → Fdt
fdt_published now c f = record { state = queued now c f.state; hand = f.hand }

-- what a run comes to
pub record FdtTurn : Type 0 where
  pub taken : Bool  -- was the draft taken
  pub packet : Option Packet
  pub fdt : Fdt

-- no packet
abbrev pub fdt_idle : Bool → Fdt → FdtTurn
fdt_idle taken f = record { taken = taken; packet = None; fdt = f }

-- the packet of a symbol, and the encoder after it
unfoldable pub fdt_sent : Bool → FdtState → FdtHand → Encoder → Symbol → FdtTurn
fdt_sent taken f h x y = record {
  taken = taken;
  packet = Some record { id = Some h.id; toi = 0; symbol = y };
  fdt = record { state = f; hand = Some record { id = h.id; part = h.part; encoder = x } };
}

-- what one round comes to: the run is over, or only the transfer is, and the session goes round again. The draft was taken, or not
pub data FdtRound : Type 0 where
  over : FdtTurn → FdtRound
  again : Bool → Fdt → FdtRound

-- the FDT that starts, in hand
abbrev pub fdt_begun : Option Instance → Option FdtHand
fdt_begun None = None
fdt_begun (Some i) = Some record { id = i.id; part = i.part; encoder = fresh false }

-- what is in hand; with nothing in hand, the next FDT is asked for. A draft that was taken is not there any more
unfoldable pub fdt_in_hand_or_next : Setup → ℕ → Option Part → Bool → Fdt → Bool × Fdt
fdt_in_hand_or_next s now draft taken f =
    when given f.hand then (taken, f)
    else (let n = next_fdt s now (when taken then None else draft) f.state in (taken || n.taken, record { state = n.state; hand = fdt_begun n.starts }))

-- nothing without an FDT in hand; else read, never by force, and on none it is done
unfoldable pub fdt_round_with : Setup → ℕ → Bool → FdtState → Option FdtHand → FdtRound
fdt_round_with s now taken f None = over (fdt_idle taken (record { state = f; hand = None }))
fdt_round_with s now taken f (Some h) =
    let r = read s.window h.part s.sizes false h.encoder in
    elim r.0 [ None ↦ again taken (record { state = fdt_done now f; hand = None }) | Some y ↦ over (fdt_sent taken f h r.1 y) ]

-- one round
unfoldable pub fdt_round : Setup → ℕ → Option Part → Bool → Fdt → FdtRound
fdt_round s now draft taken f = let t = fdt_in_hand_or_next s now draft taken f in fdt_round_with s now t.0 t.1.state t.1.hand

-- the last round of a run: what it asks for anew has a symbol to send, so it does not go round again (Promises.FdtNoThird)
abbrev pub last_fdt_round : FdtRound → FdtTurn
last_fdt_round (over t) = t
last_fdt_round (again taken f) = fdt_idle taken f

-- the FDT session's run: at the end of the transfer in hand, one round more
unfoldable pub fdt_run : Setup → ℕ → Option Part → Fdt → FdtTurn
fdt_run s now draft f = elim (fdt_round s now draft false f) [ over t ↦ t | again taken f' ↦ last_fdt_round (fdt_round s now draft taken f') ]
