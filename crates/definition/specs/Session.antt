-- Session: what a file session sends (src/sender/sendersession.rs). It owns the object that it has in hand; the queue owns the others.
use Rattle.std.specs.Prelude.{Bool, true, not, ◌&&◌, List, [], ◌∷◌, ◌++◌, ℕ, eqb}
use Rattle.std.specs.Prelude.{Option, None, Some}
use Rattle.sizes.specs.Words.{when◌then◌else◌, maybe, find, drop_first}
use Rattle.sizes.specs.declared.partition.Sizes.{Sizes}
use Rattle.lifecycle.specs.declared.parts.Part.{Part}
use Rattle.lifecycle.specs.Lifecycle.{Plan, Life, Pace, started, finished, expired, is_last, may_start, may_stop, pace_of, paced, too_early}
use Rattle.lifecycle.specs.Setup.{Setup}
use Rattle.definition.specs.Encoder.{Encoder, Symbol, fresh, read}
use Rattle.definition.specs.FdtSession.{Packet}

-- an admitted object
pub record Object : Type 0 where
  pub toi : ℕ
  pub priority : ℕ
  pub part : Part
  pub sizes : Sizes
  pub plan : Plan
  pub life : Life

-- an object that a session has in hand: it is transferring
pub record Hand : Type 0 where
  pub object : Object
  pub listed : Bool  -- false once it was removed
  pub encoder : Encoder
  pub pace : Option Pace

pub record Session : Type 0 where
  pub priority : ℕ
  pub hand : Option Hand

-- the object with another life
abbrev pub living : Life → Object → Object
living x o = record { toi = o.toi; priority = o.priority; part = o.part; sizes = o.sizes; plan = o.plan; life = x }

-- may a session of priority p start it; it waits in the queue, so it is not transferring
unfoldable pub startable : ℕ → ℕ → Object → Bool
startable p now o = eqb o.priority p && may_start o.plan now o.life

-- the object, taken by a session
unfoldable pub begin : ℕ → Object → Hand
begin now o = let x = started o.plan now o.life in record {
  object = living x o;
  listed = true;
  encoder = fresh (is_last o.plan x);
  pace = pace_of o.plan.target now o.part.size o.sizes.e;
}

-- done: a removed object is dropped, an expired one leaves the list, any other goes to the queue's end
unfoldable pub put_back : ℕ → Hand → List Object → List Object
put_back now h q =
    let o = living (finished now h.object.life) h.object in
    when h.listed && not (expired o.plan o.life) then q ++ (o ∷ []) else q

-- is the transfer to be forced to its end: it may be stopped, and is not listed
unfoldable pub forced : Hand → Bool
forced h = may_stop h.object.plan h.object.life && not h.listed

-- what a run comes to
pub record Turn : Type 0 where
  pub packet : Option Packet
  pub queue : List Object
  pub hand : Option Hand

-- no packet
abbrev pub idle : List Object → Option Hand → Turn
idle q h = record { packet = None; queue = q; hand = h }

-- the packet of a symbol, and the encoder and the due time after it
unfoldable pub sent : List Object → Hand → Encoder → Symbol → Turn
sent q h x y = record {
  packet = Some record { id = None; toi = h.object.toi; symbol = y };
  queue = q;
  hand = Some record { object = h.object; listed = h.listed; encoder = x; pace = maybe None (λ c. Some (paced c)) h.pace };
}

-- what one round comes to: the run is over, or only the transfer is, and the session goes round again with this queue
pub data Round : Type 0 where
  over : Turn → Round
  again : List Object → Round

-- what is in hand; with nothing in hand, the first in the queue that may start is taken
unfoldable pub in_hand_or_next : ℕ → ℕ → List Object → Option Hand → Option Hand × List Object
in_hand_or_next p now q (Some h) = (Some h, q)
in_hand_or_next p now q None = elim (find (startable p now) q) [ None ↦ (None, q) | Some o ↦ (Some (begin now o), drop_first (startable p now) q) ]

-- with an object in hand: nothing while an FDT is queued, nothing before the due time; else read, and on none the object is done
unfoldable pub round_with : Setup → ℕ → Bool → List Object → Hand → Round
round_with s now fdt_queued q h =
    when fdt_queued then over (idle q (Some h))
    else when too_early now h.pace then over (idle q (Some h))
    else (let r = read s.window h.object.part h.object.sizes (forced h) h.encoder in
    elim r.0 [ None ↦ again (put_back now h q) | Some y ↦ over (sent q h r.1 y) ])

-- one round; it is over where there is nothing to take
unfoldable pub round : Setup → ℕ → ℕ → Bool → List Object → Option Hand → Round
round s p now fdt_queued q hand =
    let t = in_hand_or_next p now q hand in
    elim t.0 [ None ↦ over (idle t.1 None) | Some h ↦ round_with s now fdt_queued t.1 h ]

-- the last round of a run: what it takes anew has a symbol to send, so it does not go round again (Promises.NoThird)
abbrev pub last_round : Round → Turn
last_round (over t) = t
last_round (again q) = idle q None

-- a file session's run: at the end of the transfer in hand, one round more
unfoldable pub file_run : Setup → ℕ → ℕ → Bool → List Object → Option Hand → Turn
file_run s p now fdt_queued q None = last_round (round s p now fdt_queued q None)
file_run s p now fdt_queued q (Some h) =
    elim (round s p now fdt_queued q (Some h)) [ over t ↦ t | again q' ↦ last_round (round s p now fdt_queued q' None) ]
