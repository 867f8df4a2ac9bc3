-- What each call of fdt.rt makes of the records, and what every call keeps.
use Rattle.std.specs.Prelude.{◌≡◌, Bool, true, false, not, ◌&&◌, ◌||◌, List, [], ◌∷◌, map, ℕ, ◌+◌, ◌-◌, ◌≤◌, eqb, ltb, leb, length, get_or, take, set, replicate}
use Rattle.std.specs.Prelude.{Option, None, Some, Result, Ok, Err}
use Rattle.sizes.specs.Words.{when◌then◌else◌, maybe, given, any, has, place, shut, collect, one_if, times, first_of}
use Rattle.sizes.specs.Limits.{object_slots, toi_entries, waiting_fdts}
use Rattle.sizes.specs.declared.refusal.Refusal.{Refusal}
use Rattle.sizes.specs.declared.refusal.Refusal.TheVariants as Because
use Rattle.sizes.specs.Allocator as Alloc
use Rattle.sizes.specs.declared.partition.Sizes.{Sizes}
use Rattle.sizes.specs.declared.toiallocator.ToiAllocator.{ToiAllocator}
use Rattle.lifecycle.specs.Lifecycle.{expired}
use Rattle.lifecycle.specs.Parts.{past_store}
use Rattle.lifecycle.specs.Setup.{bad_blocks}
use Rattle.lifecycle.specs.FileDesc.{plan_of, life_of, with_life, started_life, done_life, reset_life, file_new}
use Rattle.lifecycle.specs.Slots.{no_slot, slot_at, is_free, is_listed_as, holds_byte, queue_startable, published_slot}
use Rattle.lifecycle.specs.declared.parts.Part.{Part}
use Rattle.lifecycle.specs.declared.filedesc.Time.{Time}
use Rattle.lifecycle.specs.declared.filedesc.FileDesc.{FileDesc}
use Rattle.lifecycle.specs.declared.slots.Slot.{Slot}
use Rattle.lifecycle.specs.declared.fdt.Fdt.{Fdt}
use Rattle.lifecycle.specs.declared.fdt.Request.{Request}
use Rattle.lifecycle.specs.declared.fdt.Settings.{Settings}
use Rattle.lifecycle.specs.declared.announce.Announcer.{Announcer}
use Rattle.lifecycle.specs.Announce as Ann
use Rattle.lifecycle.specs.Announce.{ValidAnnouncer, fdt_plan_of, queued_of, next_of, bad_fdt_of, new_announcer}

-- ---- what the records mean

-- the slots of the objects that wait, in order
abbrev pub waiting : Fdt → List ℕ
waiting f = take f.queued f.queue

-- the object in a slot
abbrev pub file_at : List Slot → ℕ → FileDesc
file_at t k = (slot_at t k).file

-- the objects that wait, in order
abbrev pub files : Fdt → List FileDesc
files f = map (file_at f.slots) (waiting f)

-- is it transferring; does someone hold it; does it wait
abbrev pub sends : Slot → Bool
sends v = v.file.life.transferring

abbrev pub used : Slot → Bool
used v = v.listed || sends v

abbrev pub waits : Slot → Bool
waits v = v.listed && not (sends v)

-- the numbers of held objects
abbrev pub used_tois : List Slot → List ℕ
used_tois = collect (λ (v : Slot). when used v then Some v.file.toi else None)

-- as many hold it as should, and a free one is all zeros
pub record Tidy (v : Slot) : Type 0 where
  pub count : v.holders ≡ one_if v.listed + one_if (sends v)
  pub zeroed : used v ≡ false → v ≡ no_slot

-- what set-up and every call give back, and the only premise of a call
pub record ValidFdt (f : Fdt) : Type 0 where
  pub tois : Alloc.ValidAllocator f.tois
  pub slots_long : length f.slots ≡ object_slots
  pub queue_long : length f.queue ≡ object_slots
  pub queued : f.queued ≤ object_slots
  -- each object that waits stands once in the queue, and nothing else does
  pub in_queue : (k : ℕ) → times k (waiting f) ≡ one_if (waits (slot_at f.slots k))
  -- zeros past the queue's end
  pub clear : (i : ℕ) → f.queued ≤ i → get_or f.queue i 0 ≡ 0
  pub tidy : (k : ℕ) → Tidy (slot_at f.slots k)
  -- the numbers that objects hold are those of the held objects
  pub owned : (n : ℕ) → times n (Alloc.bound f.tois) ≡ times n (used_tois f.slots)
  pub fdts : ValidAnnouncer f.announcer

-- ---- what a call answers, and the list after it

-- the number of an admitted object, or why it is refused
pub record Added : Type 0 where
  pub answer : Result ℕ Refusal
  pub fdt : Fdt

pub record Reserved : Type 0 where
  pub answer : Result ℕ Refusal
  pub fdt : Fdt

pub record Released : Type 0 where
  pub answer : Result (Unit {0}) Refusal
  pub fdt : Fdt

-- yes or no
pub record Touched : Type 0 where
  pub yes : Bool
  pub fdt : Fdt

-- the slot that a session takes, if any
pub record Taken : Type 0 where
  pub answer : Option ℕ
  pub fdt : Fdt

-- a publish that was done, or why it was not
pub record Published : Type 0 where
  pub answer : Result (Unit {0}) Refusal
  pub fdt : Fdt

-- was the draft taken, and does the current FDT start now
pub record NextFdt : Type 0 where
  pub taken : Bool
  pub starts : Bool
  pub fdt : Fdt

-- ---- changes

abbrev pub with_tois : Fdt → ToiAllocator → Fdt
with_tois f a = record { settings = f.settings; complete = f.complete; tois = a; slots = f.slots; queue = f.queue; queued = f.queued; announcer = f.announcer }

abbrev pub with_slots : Fdt → List Slot → Fdt
with_slots f l = record { settings = f.settings; complete = f.complete; tois = f.tois; slots = l; queue = f.queue; queued = f.queued; announcer = f.announcer }

abbrev pub with_objects : Fdt → ToiAllocator → List Slot → List ℕ → ℕ → Fdt
with_objects f a l q n = record { settings = f.settings; complete = f.complete; tois = a; slots = l; queue = q; queued = n; announcer = f.announcer }

abbrev pub completed_of : Fdt → Fdt
completed_of f = record { settings = f.settings; complete = true; tois = f.tois; slots = f.slots; queue = f.queue; queued = f.queued; announcer = f.announcer }

-- ---- numbers

unfoldable pub reserved_of : Fdt → Reserved
reserved_of f = let r = Alloc.allocated_of true f.tois in record { answer = r.answer; fdt = with_tois f r.allocator }

unfoldable pub released_of : ℕ → Fdt → Released
released_of t f = let r = Alloc.dropped_of true t f.tois in record { answer = r.answer; fdt = with_tois f r.allocator }

-- ---- add

unfoldable pub own_of : Option Sizes → Sizes → Sizes
own_of (Some y) z = y
own_of None z = z

-- refusal 5: past the store, or a byte shared with a held object
unfoldable pub bad_part_of : Fdt → Part → Bool
bad_part_of f c = past_store f.settings.object_store c || any (holds_byte c) f.slots

-- the slot of a new object with number t
abbrev pub new_slot : Request → Sizes → ℕ → Slot
new_slot q z t = record { holders = 1; listed = true; file = file_new t q.priority q.part z q.plan q.start }

-- a new object in slot k, at the queue's end
unfoldable pub put_of : Fdt → ℕ → ℕ → Request → Sizes → Fdt
put_of f k toi q z = with_objects f f.tois
    (set f.slots k (new_slot q z toi))
    (set f.queue f.queued k) (f.queued + 1)

abbrev pub refuses : Fdt → Refusal → Added
refuses f why = record { answer = Err why; fdt = f }

-- with the first free slot; refused (7) where there is none
abbrev pub in_slot : Fdt → (ℕ → Added) → Added
in_slot f go = maybe (refuses f Because.Full) go (place is_free f.slots)

-- an add that names a reservation: it is to be loose (6), and there is to be a slot (7)
unfoldable pub named_of : Fdt → Request → Sizes → ℕ → Added
named_of f q z t =
    when has t (Alloc.loose f.tois)
    then in_slot f (λ k. record { answer = Ok t; fdt = put_of (with_tois f (Alloc.claimed_of t f.tois).allocator) k t q z })
    else refuses f Because.NotLoose

-- one that names none: there is to be a slot and a TOI entry (7)
unfoldable pub fresh_of : Fdt → Request → Sizes → Added
fresh_of f q z =
    in_slot f (λ k. when ltb f.tois.entered toi_entries
    then record { answer = Ok f.tois.next; fdt = put_of (with_tois f (Alloc.allocated_of false f.tois).allocator) k f.tois.next q z }
    else refuses f Because.Full)

unfoldable pub numbered_of : Fdt → Request → Sizes → Option ℕ → Added
numbered_of f q z (Some t) = named_of f q z t
numbered_of f q z None = fresh_of f q z

-- add, refusals 3 to 7 in their order
unfoldable pub added_of : Fdt → Request → Option ℕ → Added
added_of f q named =
    let z = own_of q.own f.settings.sizes in
    when f.complete then refuses f Because.Complete
    else when bad_blocks z q.part.size then refuses f Because.Sizes
    else when bad_part_of f q.part then refuses f Because.Part
    else numbered_of f q z named

-- ---- by number

abbrev pub listed_place : ℕ → Fdt → Option ℕ
listed_place t f = place (is_listed_as t) f.slots

unfoldable pub is_added_of : ℕ → Fdt → Bool
is_added_of t f = given (listed_place t f)

unfoldable pub transfers_of : ℕ → Fdt → Option ℕ
transfers_of t f = maybe None (λ k. Some (slot_at f.slots k).file.life.total) (listed_place t f)

-- the slot in transfer, once its object is off the list
abbrev pub unlisted_slot : Slot → Slot
unlisted_slot y = record { holders = y.holders - 1; listed = false; file = y.file }

-- a session sends it: it keeps slot, part and number, and the list lets go
unfoldable pub unlisted_of : Fdt → ℕ → Fdt
unlisted_of f k = with_slots f (set f.slots k (unlisted_slot (slot_at f.slots k)))

-- it waits at place n of the queue: slot, part and number are free
unfoldable pub freed_of : Fdt → ℕ → ℕ → ℕ → Fdt
freed_of f t k n = with_objects f (Alloc.dropped_of false t f.tois).allocator (set f.slots k no_slot) (shut 0 f.queue n) (f.queued - 1)

unfoldable pub removed_of : ℕ → Fdt → Touched
removed_of t f = maybe (record { yes = false; fdt = f }) (λ k. record {
  yes = true;
  fdt = when sends (slot_at f.slots k) then unlisted_of f k else maybe f (freed_of f t k) (place (λ j. eqb j k) (waiting f));
}) (listed_place t f)

-- trigger touches an object that is not in transfer
unfoldable pub triggered_of : ℕ → Time → Fdt → Touched
triggered_of t start f = maybe (record { yes = false; fdt = f }) (λ k. record {
  yes = true;
  fdt =
      when sends (slot_at f.slots k) then f
      else with_slots f (set f.slots k (let v = slot_at f.slots k in record { holders = v.holders; listed = v.listed; file = with_life v.file (reset_life start v.file.life) }));
}) (listed_place t f)

-- ---- transfers

-- the slot once its transfer has started
abbrev pub started_slot : ℕ → Slot → Slot
started_slot now y = record { holders = y.holders + 1; listed = y.listed; file = with_life y.file (started_life y.file.plan now y.file.life) }

-- slot k, at place n of the queue, is taken by a session
unfoldable pub taken_at : ℕ → Fdt → ℕ → ℕ → Fdt
taken_at now f n k = with_objects f f.tois
    (set f.slots k (started_slot now (slot_at f.slots k)))
    (shut 0 f.queue n) (f.queued - 1)

-- the first in the queue that a session of priority p may start
unfoldable pub taken_of : ℕ → ℕ → Fdt → Taken
taken_of p now f = maybe (record { answer = None; fdt = f }) (λ n. record { answer = Some (get_or f.queue n 0); fdt = taken_at now f n (get_or f.queue n 0) }) (place (queue_startable f.slots p now) (waiting f))

-- the object in a slot once its transfer has ended
abbrev pub ended_file : ℕ → Slot → FileDesc
ended_file now v = with_life v.file (done_life now v.file.life)

-- is it sent again: still listed, and not expired
unfoldable pub goes_back : ℕ → Slot → Bool
goes_back now v = v.listed && not (expired (plan_of v.file.plan) (life_of (ended_file now v).life))

-- the slot once its transfer has ended
abbrev pub ended_slot : ℕ → Slot → Slot
ended_slot now y = record { holders = y.holders - 1; listed = y.listed; file = ended_file now y }

-- it goes to the queue's end
unfoldable pub back_of : ℕ → Fdt → ℕ → Fdt
back_of now f k = with_objects f f.tois
    (set f.slots k (ended_slot now (slot_at f.slots k)))
    (set f.queue f.queued k) (f.queued + 1)

-- or it is let go: slot, part and number are free
unfoldable pub let_go_of : Fdt → ℕ → Fdt
let_go_of f k = with_objects f (Alloc.dropped_of false (slot_at f.slots k).file.toi f.tois).allocator (set f.slots k no_slot) f.queue f.queued

-- the session that sends slot k is done with it; a slot that is not in transfer stays as it is
unfoldable pub done_of : ℕ → ℕ → Fdt → Fdt
done_of now k f =
    when sends (slot_at f.slots k) then (when goes_back now (slot_at f.slots k) then back_of now f k else let_go_of f k)
    else f

-- ---- the FDT side

-- a new FDT side; a publish marks every listed object
abbrev pub with_published : Fdt → Announcer → Fdt
with_published f a = record { settings = f.settings; complete = f.complete; tois = f.tois; slots = map published_slot f.slots; queue = f.queue; queued = f.queued; announcer = a }

abbrev pub with_announcer : Fdt → Announcer → Fdt
with_announcer f a = record { settings = f.settings; complete = f.complete; tois = f.tois; slots = f.slots; queue = f.queue; queued = f.queued; announcer = a }

-- why an add is refused; none where the object was admitted
abbrev pub refusal : Result ℕ Refusal → Option Refusal
refusal (Ok t) = None
refusal (Err why) = Some why

-- publish, refusals 4, 5 and 7 in their order
unfoldable pub publish_of : ℕ → Part → Fdt → Published
publish_of now c f =
    when bad_blocks f.settings.sizes c.size then record { answer = Err Because.Sizes; fdt = f }
    else when bad_fdt_of f.settings.fdt_store c f.announcer || eqb c.size 0 then record { answer = Err Because.Part; fdt = f }
    else when leb waiting_fdts f.announcer.waiting then record { answer = Err Because.Full; fdt = f }
    else record { answer = Ok tt; fdt = with_published f (queued_of now c f.announcer) }

-- what the test of a draft says
abbrev pub draft_said : Result (Unit {0}) Refusal → Option Refusal
draft_said (Ok u) = None
draft_said (Err why) = Some why

-- a draft of length 0 is none, and is not looked at
unfoldable pub real_draft : Option Part → Option Part
real_draft (Some c) = when eqb c.size 0 then None else Some c
real_draft None = None

unfoldable pub draft_test_of : Option Part → Fdt → Option Refusal
draft_test_of None f = None
draft_test_of (Some c) f = first_of ((Because.Sizes, bad_blocks f.settings.sizes c.size) ∷ (Because.Part, bad_fdt_of f.settings.fdt_store c f.announcer) ∷ [])

-- the next FDT; a draft that is taken is published, and so marks every listed object
unfoldable pub next_fdt_of : ℕ → Option Part → Fdt → NextFdt
next_fdt_of now draft f =
    let r = next_of (fdt_plan_of f.settings.from_start f.settings.interval) f.settings.validity now draft f.announcer in
    record { taken = r.taken; starts = r.starts; fdt = when r.taken then with_published f r.announcer else with_announcer f r.announcer }

unfoldable pub fdt_done_of : ℕ → Fdt → Fdt
fdt_done_of now f = with_announcer f (Ann.current_done now f.announcer)

-- before the first call
unfoldable pub opening_fdt : Settings → ToiAllocator → ℕ → Fdt
opening_fdt z a id = record {
  settings = z;
  complete = false;
  tois = a;
  slots = replicate object_slots no_slot;
  queue = replicate object_slots 0;
  queued = 0;
  announcer = new_announcer id;
}
