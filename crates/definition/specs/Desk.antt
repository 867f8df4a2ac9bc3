-- The desk: its state, its calls, what it answers and what it says no to (src/sender/sender.rs, fdt.rs).
use Rattle.std.specs.Prelude.{Bool, true, false, not, ◌&&◌, ◌||◌, List, [], ◌∷◌, ◌++◌, map, ℕ, eqb, leb, length, set}
use Rattle.std.specs.Prelude.{Option, None, Some}
use Rattle.sizes.specs.Words.{when◌then◌else◌, maybe, given, collect, keep, any, at, has, find, first_of}
use Rattle.sizes.specs.declared.refusal.Refusal.{Refusal}
use Rattle.sizes.specs.declared.refusal.Refusal.TheVariants as Because
use Rattle.sizes.specs.Limits.{toi_entries, object_slots, waiting_fdts}
use Rattle.sizes.specs.declared.partition.Sizes.{Sizes}
use Rattle.sizes.specs.Toi.{first_toi, next_toi}
use Rattle.lifecycle.specs.Parts.{shares, past_store}
use Rattle.lifecycle.specs.declared.parts.Part.{Part}
use Rattle.lifecycle.specs.Lifecycle.{Plan, unborn, announced, triggered}
use Rattle.lifecycle.specs.Setup.{Setup, bad_blocks, sound}
use Rattle.lifecycle.specs.Fdt.{bad_fdt_part}
use Rattle.definition.specs.FdtSession.{Fdt, Packet, fdt_published, fdt_run}
use Rattle.definition.specs.Session.{Object, Hand, Session, living, file_run}

-- a listed object waits in the queue, or one session has it in hand; one that was removed while it was sent stays in that hand
pub record Desk : Type 0 where
  pub complete : Bool
  pub next : ℕ  -- the next object number
  pub loose : List ℕ  -- the numbers of reservations that no object has, oldest first
  pub queue : List Object  -- listed, and not transferring
  pub sessions : List Session
  pub fdt : Fdt

-- what an add asks for
pub record Request : Type 0 where
  pub priority : ℕ
  pub part : Part
  pub own : Option Sizes  -- its own E and B, or the set-up's
  pub plan : Plan
  pub named_start : Option ℕ

-- what is done to a listed object; each answers whether there is one
pub data Touch : Type 0 where
  remove : Touch
  trigger : Option ℕ → Touch  -- and a named start, if any

-- what only asks
pub data Question : Type 0 where
  listed : ℕ → Question
  transfers : ℕ → Question

pub data Call : Type 0 where
  reserve : Call
  release : ℕ → Call
  add : Option ℕ → Request → Call  -- the reservation it names, if any
  touch : ℕ → Touch → Call  -- of the listed object with that number
  ask : Question → Call
  complete : Call
  publish : ℕ → Part → Call  -- clock, content
  run_fdt : ℕ → Option Part → Call  -- clock, draft
  run_file : ℕ → ℕ → Call  -- session, clock

pub data Answer : Type 0 where
  refused : Refusal → Answer
  number : ℕ → Answer
  done : Answer
  truth : Bool → Answer
  transferred : Option ℕ → Answer  -- total transfers, or none for an object that is not listed
  fdt_output : Bool → Option Packet → Answer  -- was the draft taken, the packet
  output : Option Packet → Answer

-- the desk after an accepted set-up
unfoldable pub opening : Setup → Desk
opening s = record {
  complete = false;
  next = first_toi s.width s.first;
  loose = [];
  queue = [];
  sessions = map (λ p. record { priority = p; hand = None }) s.priorities;
  fdt = record { state = record { next_id = s.first_id; last = None; waiting = []; current = None }; hand = None };
}

-- set-up: refusal 1, and no desk, where a number is out of its range
unfoldable pub set_up : Setup → Answer × Option Desk
set_up s = when sound s then (done, Some (opening s)) else (refused Because.SetUp, None)

-- the objects that sessions have in hand
unfoldable pub in_hands : List Session → List Object
in_hands = collect (λ (x : Session). maybe None (λ (h : Hand). Some h.object) x.hand)

-- all objects that are held
unfoldable pub objects : Desk → List Object
objects d = d.queue ++ in_hands d.sessions

-- all numbers that are held: an entry each
unfoldable pub numbers : Desk → List ℕ
numbers d = d.loose ++ map (λ (o : Object). o.toi) (objects d)

-- has the object this number
unfoldable pub is : ℕ → Object → Bool
is t o = eqb o.toi t

-- the listed objects that sessions have in hand
unfoldable pub listed_in_hands : List Session → List Object
listed_in_hands = collect (λ (x : Session). maybe None (λ (h : Hand). when h.listed then Some h.object else None) x.hand)

-- the listed object with this number
unfoldable pub listed_as : Desk → ℕ → Option Object
listed_as d t = find (is t) (d.queue ++ listed_in_hands d.sessions)

-- the desk with other objects
unfoldable pub moved : Desk → List Object → List Session → Desk
moved d q x = record { complete = d.complete; next = d.next; loose = d.loose; queue = q; sessions = x; fdt = d.fdt }

-- the desk with other numbers
unfoldable pub numbered : Desk → ℕ → List ℕ → Desk
numbered d n l = record { complete = d.complete; next = n; loose = l; queue = d.queue; sessions = d.sessions; fdt = d.fdt }

-- the desk with another FDT side
unfoldable pub with_fdt : Desk → Fdt → Desk
with_fdt d f = record { complete = d.complete; next = d.next; loose = d.loose; queue = d.queue; sessions = d.sessions; fdt = f }

-- a change to what a session has in hand
unfoldable pub in_hand : (Hand → Hand) → Session → Session
in_hand f x = record { priority = x.priority; hand = maybe None (λ h. Some (f h)) x.hand }

-- publish marks every listed object, waiting or in hand
unfoldable pub marked : Object → Object
marked o = living (announced o.life) o

unfoldable pub marked_hand : Hand → Hand
marked_hand h = when h.listed then record { object = marked h.object; listed = true; encoder = h.encoder; pace = h.pace } else h

unfoldable pub all_published : Desk → Desk
all_published d = moved d (map marked d.queue) (map (in_hand marked_hand) d.sessions)

-- what becomes of an object that waits: a removed one is gone
abbrev pub waiting_after : Touch → Object → Option Object
waiting_after remove o = None
waiting_after (trigger f) o = Some (living (triggered f o.life) o)

-- what becomes of one that a session has in hand: removed, it stays in hand; trigger touches none in transfer
abbrev pub hand_after : Touch → Hand → Hand
hand_after remove h = record { object = h.object; listed = false; encoder = h.encoder; pace = h.pace }
hand_after (trigger f) h = h

-- only the object with the number is touched
unfoldable pub touched_waiting : ℕ → Touch → Object → Option Object
touched_waiting t x o = when is t o then waiting_after x o else Some o

unfoldable pub touched_hand : ℕ → Touch → Hand → Hand
touched_hand t x h = when is t h.object then hand_after x h else h

unfoldable pub touched : ℕ → Touch → Desk → Desk
touched t x d = moved d (collect (touched_waiting t x) d.queue) (map (in_hand (touched_hand t x)) d.sessions)

-- what a question is answered
abbrev pub answer_to : Desk → Question → Answer
answer_to d (listed t) = truth (given (listed_as d t))
answer_to d (transfers t) = transferred (maybe None (λ (o : Object). Some o.life.total) (listed_as d t))

-- the next number is given: it is held as a loose reservation, and the next after it that is not held comes next
unfoldable pub reserved : Setup → Desk → Desk
reserved s d = numbered d (next_toi s.width (d.next ∷ numbers d) d.next) (d.loose ++ (d.next ∷ []))

-- a reservation is no longer loose
unfoldable pub unloosed : ℕ → List ℕ → List ℕ
unloosed t = keep (λ u. not (eqb u t))

-- the number that an add gets: the one it names, or the next
unfoldable pub toi_for : Desk → Option ℕ → ℕ
toi_for d = maybe d.next (λ t. t)

-- the E and B of a request: its own, or the set-up's
unfoldable pub own_sizes : Setup → Request → Sizes
own_sizes s q = maybe s.sizes (λ z. z) q.own

-- the object of a request
unfoldable pub made : Setup → ℕ → Request → Object
made s t q = record {
  toi = t;
  priority = q.priority;
  part = q.part;
  sizes = own_sizes s q;
  plan = q.plan;
  life = unborn false q.named_start;
}

-- the object goes to the queue's end, and its number is no longer a loose reservation
unfoldable pub admitted : Setup → ℕ → Request → Desk → Desk
admitted s t q d = record {
  complete = d.complete;
  next = d.next;
  loose = unloosed t d.loose;
  queue = d.queue ++ (made s t q ∷ []);
  sessions = d.sessions;
  fdt = d.fdt;
}

-- no file session has that priority
unfoldable pub no_session : Desk → ℕ → Bool
no_session d p = not (any (λ (x : Session). eqb x.priority p) d.sessions)

-- the part ends past its store, or shares a byte with a held one
unfoldable pub bad_object_part : Setup → Desk → Part → Bool
bad_object_part s d c = past_store s.object_store c || any (λ (o : Object). shares c o.part) (objects d)

-- a number is named that is no loose reservation
unfoldable pub not_loose : Desk → Option ℕ → Bool
not_loose d = maybe false (λ t. not (has t d.loose))

-- no TOI entry is free
unfoldable pub full : Desk → Bool
full d = leb toi_entries (length (numbers d))

-- no object slot is free, or no TOI entry where one is needed
unfoldable pub no_room : Desk → Option ℕ → Bool
no_room d named = leb object_slots (length (objects d)) || (not (given named) && full d)

-- why a reservation is refused
unfoldable pub reserve_refusal : Desk → Option Refusal
reserve_refusal d = first_of ((Because.Full, full d) ∷ [])

-- why a release is refused
unfoldable pub release_refusal : Desk → ℕ → Option Refusal
release_refusal d t = first_of ((Because.NotLoose, not_loose d (Some t)) ∷ [])

-- why an add is refused
unfoldable pub add_refusal : Setup → Desk → Option ℕ → Request → Option Refusal
add_refusal s d named q = first_of
    ((Because.NoPriority, no_session d q.priority)
    ∷ (Because.Complete, d.complete)
    ∷ (Because.Sizes, bad_blocks (own_sizes s q) q.part.size)
    ∷ (Because.Part, bad_object_part s d q.part)
    ∷ (Because.NotLoose, not_loose d named)
    ∷ (Because.Full, no_room d named)
    ∷ [])

-- why a publish is refused; the FDT queue holds 4
unfoldable pub publish_refusal : Setup → Fdt → Part → Option Refusal
publish_refusal s f c = first_of
    ((Because.Sizes, bad_blocks s.sizes c.size)
    ∷ (Because.Part, bad_fdt_part s f.state c || eqb c.size 0)
    ∷ (Because.Full, leb waiting_fdts (length f.state.waiting))
    ∷ [])

-- a draft of length 0 is no draft
unfoldable pub draft_of : Option Part → Option Part
draft_of = maybe None (λ c. when eqb c.size 0 then None else Some c)

-- why an FDT run is refused: its draft is bad, whether or not it would be taken
unfoldable pub draft_refusal : Setup → Fdt → Option Part → Option Refusal
draft_refusal s f draft = maybe None (λ c. first_of ((Because.Sizes, bad_blocks s.sizes c.size) ∷ (Because.Part, bad_fdt_part s f.state c) ∷ [])) (draft_of draft)

-- is an FDT queued: then file sessions answer nothing
unfoldable pub fdt_queued : Desk → Bool
fdt_queued d = not (eqb (length d.fdt.state.waiting) 0)

abbrev pub Result : Type 0
Result = Answer × Desk

-- the refusal, with the desk as it was; or the result
abbrev pub unless : Option Refusal → Desk → Result → Result
unless None d r = r
unless (Some why) d r = (refused why, d)

-- the run of file session x, which is session i
unfoldable pub ran : Setup → ℕ → ℕ → Desk → Session → Result
ran s now i d x =
    let r = file_run s x.priority now (fdt_queued d) d.queue x.hand in
    (output r.packet, moved d r.queue (set d.sessions i (record { priority = x.priority; hand = r.hand })))

-- the run of the FDT session: a draft that is taken is published, and so marks every listed object
unfoldable pub fdt_ran : Setup → ℕ → Option Part → Desk → Result
fdt_ran s now draft d =
    let r = fdt_run s now draft d.fdt in
    (fdt_output r.taken r.packet, when r.taken then all_published (with_fdt d r.fdt) else with_fdt d r.fdt)

-- one call
unfoldable pub step : Setup → Desk → Call → Result
step s d reserve = unless (reserve_refusal d) d (number d.next, reserved s d)
step s d (release t) = unless (release_refusal d t) d (done, numbered d d.next (unloosed t d.loose))
step s d (add named q) =
    unless (add_refusal s d named q) d
    (number (toi_for d named), admitted s (toi_for d named) q (when given named then d else reserved s d))
step s d (touch t x) = (truth (given (listed_as d t)), touched t x d)
step s d (ask q) = (answer_to d q, d)
step s d complete = (done, record { complete = true; next = d.next; loose = d.loose; queue = d.queue; sessions = d.sessions; fdt = d.fdt })
step s d (publish now c) = unless (publish_refusal s d.fdt c) d (done, all_published (with_fdt d (fdt_published now c d.fdt)))
step s d (run_fdt now draft) = unless (draft_refusal s d.fdt draft) d (fdt_ran s now (draft_of draft) d)
step s d (run_file i now) = maybe (refused Because.NoSession, d) (ran s now i d) (at d.sessions i)

-- a run of calls: each call's answer, and the desk at the end
unfoldable pub run : Setup → Desk → List Call → List Answer × Desk
run s d [] = ([], d)
run s d (c ∷ l) = let r = step s d c in let rest = run s r.1 l in (r.0 ∷ rest.0, rest.1)
