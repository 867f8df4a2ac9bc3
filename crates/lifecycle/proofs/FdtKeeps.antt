-- What each call leaves as it was, and, where that is short, all that it does: the layer above cites these laws and unfolds none of the calls.
use mathlib.Core.Path.{◌≡◌, refl, sym, ap}
use mathlib.Core.Bool.{Bool, true, false, ◌||◌}
use Rattle.std.specs.Prelude.{Option, None, Some, Ok, Err}
use mathlib.Core.List.{List, [], ◌∷◌}
use Prim.Native.Nat.{ℕ, zero, suc, ◌<◌}
use lib.Dec.{eqb, ltb, leb}
use lib.ListN.{replicate}
use borrow.Author.Tests.{leb-false}
use Rattle.sizes.specs.Words.{when◌then◌else◌, maybe, given, has, place, first_of}
use Rattle.sizes.specs.Limits.{object_slots, toi_entries, waiting_fdts}
use Rattle.sizes.specs.declared.refusal.Refusal.{Refusal}
use Rattle.sizes.specs.declared.refusal.Refusal.TheVariants as Because
use Rattle.sizes.specs.Allocator as Alloc
use Rattle.sizes.specs.declared.partition.Sizes.{Sizes}
use Rattle.sizes.specs.declared.toiallocator.ToiAllocator.{ToiAllocator}
use Rattle.sizes.proofs.Tests.{none≢some, or_left, or_right, if_on, maybe_on}
use Rattle.sizes.proofs.AllocatorViews.{allocated_width, claimed_width, dropped_width}
use Rattle.lifecycle.specs.Setup.{bad_blocks}
use Rattle.lifecycle.specs.Slots.{no_slot, slot_at, is_free, queue_startable, published_slot}
use Rattle.lifecycle.specs.Announce.{state_of, queued_of, bad_fdt_of}
use Rattle.lifecycle.specs.FdtCalls.{Added, Touched, Taken, Published, waiting, files, sends, ValidFdt, with_tois, with_objects, reserved_of, released_of, own_of, bad_part_of, put_of, named_of, fresh_of, numbered_of, added_of, listed_place, is_added_of, unlisted_of, freed_of, removed_of, triggered_of, taken_at, taken_of, goes_back, back_of, let_go_of, done_of, with_published, publish_of, real_draft, draft_test_of, opening_fdt}
use Rattle.lifecycle.proofs.FdtMeans.{Removal, nobody, sent, waited, published_file}
use Rattle.lifecycle.specs.declared.parts.Part.{Part}
use Rattle.lifecycle.specs.declared.filedesc.Time.{Time}
use Rattle.lifecycle.specs.declared.slots.Slot.{Slot}
use Rattle.lifecycle.specs.declared.announce.Announcer.{Announcer}
use Rattle.lifecycle.specs.declared.fdt.Fdt.{Fdt}
use Rattle.lifecycle.specs.declared.fdt.Settings.{Settings}
use Rattle.lifecycle.specs.declared.fdt.Request.{Request}
use Rattle.lifecycle.proofs.FdtByNumber.{removed_cases}

-- ---- calls on the objects and their numbers

-- nothing but slots, queue and numbers has changed
pub record ObjectsOnly (f r : Fdt) : Type 0 where
  pub settings : r.settings ≡ f.settings
  pub complete : r.complete ≡ f.complete
  pub announcer : r.announcer ≡ f.announcer
  pub width : r.tois.width ≡ f.tois.width

-- the next number and the loose reservations stay
pub record SameNumbers (f r : Fdt) : Type 0 where
  pub next : r.tois.next ≡ f.tois.next
  pub loose : Alloc.loose r.tois ≡ Alloc.loose f.tois

module _ (f : Fdt) where
  nothing_changed : ObjectsOnly f f
  nothing_changed = record { settings = refl; complete = refl; announcer = refl; width = refl }

  -- other slots, another queue, and other numbers of the same width
  pub objects_only : (a : ToiAllocator) (l : List Slot) (q : List ℕ) (n : ℕ) → a.width ≡ f.tois.width → ObjectsOnly f (with_objects f a l q n)
  objects_only a l q n e = record { settings = refl; complete = refl; announcer = refl; width = e }

  -- reserve and release: all that they do
  pub reserved_as : reserved_of f ≡ record { answer = (Alloc.allocated_of true f.tois).answer; fdt = with_tois f (Alloc.allocated_of true f.tois).allocator }
  unfolding reserved_of
  reserved_as = refl

  pub released_as : (t : ℕ) → released_of t f ≡ record { answer = (Alloc.dropped_of true t f.tois).answer; fdt = with_tois f (Alloc.dropped_of true t f.tois).allocator }
  unfolding released_of
  released_as t = refl

  pub reserved_keeps : ObjectsOnly f (reserved_of f).fdt
  unfolding reserved_of
  reserved_keeps = objects_only _ _ _ _ (allocated_width f.tois true)

  pub released_keeps : (t : ℕ) → ObjectsOnly f (released_of t f).fdt
  unfolding released_of
  released_keeps t = objects_only _ _ _ _ (dropped_width f.tois true t)

  -- add
  numbered_keeps : (q : Request) (z : Sizes) (named : Option ℕ) → ObjectsOnly f (numbered_of f q z named).fdt
  unfolding numbered_of named_of fresh_of put_of
  numbered_keeps q z (Some t) =
      if_on (λ (r : Added). ObjectsOnly f r.fdt) (has t (Alloc.loose f.tois))
      (λ l. maybe_on (λ (r : Added). ObjectsOnly f r.fdt) (place is_free f.slots) (λ e. nothing_changed) (λ k e. objects_only _ _ _ _ (claimed_width f.tois t)))
      (λ l. nothing_changed)
  numbered_keeps q z None =
      maybe_on (λ (r : Added). ObjectsOnly f r.fdt) (place is_free f.slots) (λ e. nothing_changed)
      (λ k e. if_on (λ (r : Added). ObjectsOnly f r.fdt) (ltb f.tois.entered toi_entries) (λ l. objects_only _ _ _ _ (allocated_width f.tois false)) (λ l. nothing_changed))

  pub added_keeps : (q : Request) (named : Option ℕ) → ObjectsOnly f (added_of f q named).fdt
  unfolding added_of
  added_keeps q named =
      let z = own_of q.own f.settings.sizes in
      if_on (λ (r : Added). ObjectsOnly f r.fdt) f.complete (λ e. nothing_changed) (λ e.
      if_on (λ (r : Added). ObjectsOnly f r.fdt) (bad_blocks z q.part.size) (λ e. nothing_changed) (λ e.
      if_on (λ (r : Added). ObjectsOnly f r.fdt) (bad_part_of f q.part) (λ e. nothing_changed) (λ e. numbered_keeps q z named)))

  -- remove
  pub removed_keeps : (t : ℕ) → ObjectsOnly f (removed_of t f).fdt
  unfolding removed_of unlisted_of freed_of
  removed_keeps t = maybe_on (λ (r : Touched). ObjectsOnly f r.fdt) (listed_place t f) (λ e. nothing_changed)
      (λ k e. if_on (ObjectsOnly f) (sends (slot_at f.slots k)) (λ s. objects_only _ _ _ _ refl)
      (λ s. maybe_on (ObjectsOnly f) (place (λ j. eqb j k) (waiting f)) (λ q. nothing_changed) (λ n q. objects_only _ _ _ _ (dropped_width f.tois false t))))

  pub removed_numbers : (t : ℕ) → ValidFdt f → SameNumbers f (removed_of t f).fdt
  removed_numbers t v = by (removed_of t f) (removed_cases t f v)
    where
      by : (r : Touched) → Removal t f r → SameNumbers f r.fdt
      by r (nobody h) = record { next = ap (λ (x : Touched). x.fdt.tois.next) h.unchanged; loose = ap (λ (x : Touched). Alloc.loose x.fdt.tois) h.unchanged }
      by r (sent k h) = record { next = ap (λ (a : ToiAllocator). a.next) h.tois; loose = ap Alloc.loose h.tois }
      by r (waited k n h) = record { next = h.number.next_same; loose = h.number.loose_same }

  -- trigger
  pub triggered_keeps : (t : ℕ) (start : Time) → ObjectsOnly f (triggered_of t start f).fdt
  unfolding triggered_of
  triggered_keeps t start = maybe_on (λ (r : Touched). ObjectsOnly f r.fdt) (listed_place t f) (λ e. nothing_changed)
      (λ k e. if_on (ObjectsOnly f) (sends (slot_at f.slots k)) (λ s. nothing_changed) (λ s. objects_only _ _ _ _ refl))

  pub triggered_numbers : (t : ℕ) (start : Time) → SameNumbers f (triggered_of t start f).fdt
  unfolding triggered_of
  triggered_numbers t start = maybe_on (λ (r : Touched). SameNumbers f r.fdt) (listed_place t f) (λ e. record { next = refl; loose = refl })
      (λ k e. if_on (SameNumbers f) (sends (slot_at f.slots k)) (λ s. record { next = refl; loose = refl }) (λ s. record { next = refl; loose = refl }))

  -- a session takes an object, and is done with it
  pub taken_keeps : (p now : ℕ) → ObjectsOnly f (taken_of p now f).fdt
  unfolding taken_of taken_at
  taken_keeps p now = maybe_on (λ (r : Taken). ObjectsOnly f r.fdt) (place (queue_startable f.slots p now) (waiting f)) (λ e. nothing_changed) (λ n e. objects_only _ _ _ _ refl)

  pub done_keeps : (now k : ℕ) → ObjectsOnly f (done_of now k f)
  unfolding done_of back_of let_go_of
  done_keeps now k =
      let y = slot_at f.slots k in
      if_on (ObjectsOnly f) (sends y)
      (λ s. if_on (ObjectsOnly f) (goes_back now y) (λ g. objects_only _ _ _ _ refl) (λ g. objects_only _ _ _ _ (dropped_width f.tois false y.file.toi)))
      (λ s. nothing_changed)

-- ---- what an add asks for

-- its own sizes, or those of the set-up
pub own_given : (y z : Sizes) → own_of (Some y) z ≡ y
unfolding own_of
own_given y z = refl

pub own_set_up : (z : Sizes) → own_of None z ≡ z
unfolding own_of
own_set_up z = refl

-- is there a listed object with the number
pub is_added_as : (t : ℕ) (f : Fdt) → is_added_of t f ≡ given (listed_place t f)
unfolding is_added_of
is_added_as t f = refl

-- ---- publish

-- a listed slot is marked: its object is published, and all else of it stays
pub record MarksSlot (y z : Slot) : Type 0 where
  pub listed : z.listed ≡ y.listed
  pub file : z.file ≡ (when y.listed then published_file y.file else y.file)
  pub sent : sends z ≡ sends y
  pub part : z.file.part ≡ y.file.part
  pub sizes : z.file.sizes ≡ y.file.sizes

pub marks_slot : (y : Slot) → MarksSlot y (published_slot y)
unfolding published_slot
marks_slot y = by y.listed refl
  where
    by : (b : Bool) → y.listed ≡ b → MarksSlot y (when b then record { holders = y.holders; listed = y.listed; file = published_file y.file } else y)
    by true e = record { listed = refl; file = sym (ap (λ b. when b then published_file y.file else y.file) e); sent = refl; part = refl; sizes = refl }
    by false e = record { listed = refl; file = sym (ap (λ b. when b then published_file y.file else y.file) e); sent = refl; part = refl; sizes = refl }

module _ (c : Part) (f : Fdt) where
  -- refusals 4, 5 and 7 in their order
  abbrev pub publish_refusal_of : Option Refusal
  publish_refusal_of = first_of
      ((Because.Sizes, bad_blocks f.settings.sizes c.size)
      ∷ (Because.Part, bad_fdt_of f.settings.fdt_store c f.announcer || eqb c.size 0)
      ∷ (Because.Full, leb waiting_fdts f.announcer.waiting)
      ∷ [])

  -- what is not refused has passed each test
  pub record Publishable : Type 0 where
    pub sizes : bad_blocks f.settings.sizes c.size ≡ false
    pub part : bad_fdt_of f.settings.fdt_store c f.announcer ≡ false
    pub nonempty : eqb c.size 0 ≡ false
    pub room : f.announcer.waiting < waiting_fdts

  pub publishable : publish_refusal_of ≡ None → Publishable
  publishable = by (bad_blocks f.settings.sizes c.size) (bad || eqb c.size 0) (leb waiting_fdts f.announcer.waiting) refl refl refl
    where
      bad : Bool
      bad = bad_fdt_of f.settings.fdt_store c f.announcer

      by : (x y z : Bool) → bad_blocks f.settings.sizes c.size ≡ x → (bad || eqb c.size 0) ≡ y → leb waiting_fdts f.announcer.waiting ≡ z
          → first_of ((Because.Sizes, x) ∷ (Because.Part, y) ∷ (Because.Full, z) ∷ []) ≡ None → Publishable
      by true y z p q r e = absurd (none≢some (sym e))
      by false true z p q r e = absurd (none≢some (sym e))
      by false false true p q r e = absurd (none≢some (sym e))
      by false false false p q r e = record { sizes = p; part = or_left bad (eqb c.size 0) q; nonempty = or_right bad (eqb c.size 0) q; room = leb-false waiting_fdts f.announcer.waiting r }

  -- refused, it changes nothing; else the FDT is queued, and every listed object is marked
  abbrev pub published_by : ℕ → Option Refusal → Published
  published_by now (Some why) = record { answer = Err why; fdt = f }
  published_by now None = record { answer = Ok tt; fdt = with_published f (queued_of now c f.announcer) }

  pub publish_as : (now : ℕ) → publish_of now c f ≡ published_by now publish_refusal_of
  unfolding publish_of
  publish_as now = by (bad_blocks f.settings.sizes c.size) (bad_fdt_of f.settings.fdt_store c f.announcer || eqb c.size 0) (leb waiting_fdts f.announcer.waiting)
    where
      by : (x y z : Bool) → (when x then published_by now (Some Because.Sizes) else when y then published_by now (Some Because.Part) else when z then published_by now (Some Because.Full) else published_by now None)
          ≡ published_by now (first_of ((Because.Sizes, x) ∷ (Because.Part, y) ∷ (Because.Full, z) ∷ []))
      by true y z = refl
      by false true z = refl
      by false false true = refl
      by false false false = refl

-- one that is queued leaves the current FDT as it is
pub queued_current : (now : ℕ) (c : Part) (a : Announcer) → (queued_of now c a).current ≡ a.current
unfolding queued_of
queued_current now c a = refl

-- ---- a draft

-- one of length 0 is none
pub real_given : (draft : Option Part) → real_draft draft ≡ maybe None (λ (c : Part). when eqb c.size 0 then None else Some c) draft
unfolding real_draft
real_given None = refl
real_given (Some c) = refl

-- refusals 4 and 5 in their order
pub draft_test_as : (draft : Option Part) (f : Fdt) → draft_test_of draft f
    ≡ maybe None (λ (c : Part). first_of ((Because.Sizes, bad_blocks f.settings.sizes c.size) ∷ (Because.Part, bad_fdt_of f.settings.fdt_store c f.announcer) ∷ [])) draft
unfolding draft_test_of
draft_test_as None f = refl
draft_test_as (Some c) f = refl

-- ---- before the first call

-- nothing waits, no slot is held, and there is no FDT
pub record OpeningList (z : Settings) (a : ToiAllocator) (id : ℕ) (f : Fdt) : Type 0 where
  pub settings : f.settings ≡ z
  pub complete : f.complete ≡ false
  pub tois : f.tois ≡ a
  pub queue : files f ≡ []
  pub slots : (k : ℕ) → slot_at f.slots k ≡ no_slot
  pub side : state_of f.announcer ≡ record { next_id = id; last = None; waiting = []; current = None }
  pub none_waits : f.announcer.waiting ≡ 0
  pub no_current : f.announcer.has_current ≡ false
  pub none_sent : f.announcer.current.life.transferring ≡ false

pub opening_list : (z : Settings) (a : ToiAllocator) (id : ℕ) → OpeningList z a id (opening_fdt z a id)
unfolding opening_fdt state_of
opening_list z a id = record { settings = refl; complete = refl; tois = refl; queue = refl; slots = free object_slots; side = refl; none_waits = refl; no_current = refl; none_sent = refl }
  where
    free : (m k : ℕ) → slot_at (replicate m no_slot) k ≡ no_slot
    free zero k = refl
    free (suc m) zero = refl
    free (suc m) (suc k) = free m k
