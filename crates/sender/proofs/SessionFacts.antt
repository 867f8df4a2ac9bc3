-- What a run of a file session means in the definition's words, and what stays in it.
use mathlib.Core.Path.{◌≡◌, refl, ◌∙◌}
use mathlib.Core.Bool.{Bool, true, false, not, ◌&&◌, ◌||◌, false≢true}
use Rattle.std.specs.Prelude.{Option, None, Some}
use Prim.Native.Nat.{ℕ, ◌≤◌}
use lib.Dec.{eqb}
use Rattle.sizes.specs.Limits.{largest_window}
use Rattle.sizes.specs.Allocator as Alloc
use Rattle.lifecycle.specs.Slots.{slot_at}
use Rattle.lifecycle.specs.FdtCalls.{file_at, sends, taken_of, done_of}
use Rattle.lifecycle.specs.FdtCalls.{ValidFdt}
use Rattle.lifecycle.specs.declared.fdt.Fdt.{Fdt}
use Rattle.lifecycle.proofs.FdtKeeps.{ObjectsOnly, SameNumbers, taken_keeps, done_keeps}
use Rattle.lifecycle.proofs.TakesKeep.{taken_numbers, done_numbers}
use Rattle.definition.specs.FdtSession.{Packet}
use Rattle.definition.specs.Session as Def
use Rattle.sender.specs.EncoderCalls.{symbol_said}
use Rattle.sender.specs.SessionCalls.{session_of, Holds, Runs, idle_of, Turn}
use Rattle.sender.specs.SessionMeans.{Stands, queue_of}
use Rattle.sender.specs.declared.sendersession.SenderSession.{SenderSession}
use Rattle.sender.specs.declared.sendersession.Outcome.{Outcome}
use Rattle.sender.specs.declared.sendersession.Outcome.TheVariants.{Idle, Sent, Over}

-- ---- between two calls

-- a session that stands may be run
pub stands_runs : (f : Fdt) (w : ℕ) (x : SenderSession) → Holds f → w ≤ largest_window → Stands f w x → Runs f w x
stands_runs f w x g n s = record { holds = g; narrow = n; busy = λ b. (let h = s.busy b in record { valid = g.valid; slot = h.slot; encoder = h.encoder }) }

-- nothing in hand
pub idle_stands : (f : Fdt) (w p : ℕ) → Stands f w (idle_of p)
idle_stands f w p = record { busy = λ b. absurd (false≢true b); idle = λ b. refl }

-- is slot j in its hand
abbrev pub has_slot : SenderSession → ℕ → Bool
has_slot x j = x.busy && eqb x.slot j

-- ---- its run

-- the packet of an answer, for the object with number t
abbrev pub packet_said : ℕ → Outcome → Option Packet
packet_said t Idle = None
packet_said t (Sent s) = Some record { id = None; toi = t; symbol = symbol_said s }
packet_said t Over = None

-- what a run comes to
abbrev pub turn_of : Turn → Def.Turn
turn_of r = record {
  packet = packet_said (file_at r.fdt.slots r.session.slot).toi r.answer;
  queue = queue_of r.fdt;
  hand = (session_of r.fdt.slots r.session).hand;
}

-- what no run of a file session changes
pub record SameSide (f r : Fdt) : Type 0 where
  pub settings : r.settings ≡ f.settings
  pub complete : r.complete ≡ f.complete
  pub announcer : r.announcer ≡ f.announcer
  pub next : r.tois.next ≡ f.tois.next
  pub loose : Alloc.loose r.tois ≡ Alloc.loose f.tois

-- a run of session x is the definition's turn m; what it leaves in hand, what is in transfer after it, and what stays
pub record FileRuns (w : ℕ) (f : Fdt) (x : SenderSession) (m : Def.Turn) (r : Turn) : Type 0 where
  pub view : m ≡ turn_of r
  pub holds : Holds r.fdt
  pub stands : Stands r.fdt w r.session
  pub priority : r.session.priority ≡ x.priority
  -- in transfer from now on: what it has in hand now, and all that it had not in hand before
  pub sent : (j : ℕ) → sends (slot_at r.fdt.slots j) ≡ (has_slot r.session j || (not (has_slot x j) && sends (slot_at f.slots j)))
  -- what it has in hand anew was not
  pub new : (j : ℕ) → has_slot r.session j ≡ true → has_slot x j ≡ false → sends (slot_at f.slots j) ≡ false
  -- what others have in hand stays as it was
  pub others : (j : ℕ) → sends (slot_at f.slots j) ≡ true → has_slot x j ≡ false → slot_at r.fdt.slots j ≡ slot_at f.slots j
  pub same : SameSide f r.fdt

-- ---- what stays

pub same_side : (f : Fdt) → SameSide f f
same_side f = record { settings = refl; complete = refl; announcer = refl; next = refl; loose = refl }

pub same_on : {f g r : Fdt} → SameSide f g → SameSide g r → SameSide f r
same_on a b = record {
  settings = b.settings ∙ a.settings;
  complete = b.complete ∙ a.complete;
  announcer = b.announcer ∙ a.announcer;
  next = b.next ∙ a.next;
  loose = b.loose ∙ a.loose;
}

-- only objects have changed, and the numbers stay
pub same_by : {f r : Fdt} → ObjectsOnly f r → SameNumbers f r → SameSide f r
same_by o n = record { settings = o.settings; complete = o.complete; announcer = o.announcer; next = n.next; loose = n.loose }

pub taken_side : (f : Fdt) (p now : ℕ) → SameSide f (taken_of p now f).fdt
taken_side f p now = same_by (taken_keeps f p now) (taken_numbers f p now)

pub done_side : (f : Fdt) → ValidFdt f → (now k : ℕ) → SameSide f (done_of now k f)
done_side f v now k = same_by (done_keeps f now k) (done_numbers f v now k)
