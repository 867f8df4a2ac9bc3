-- Laws of the calls of fdt.rt: what a valid list tells of slots and queue, and what each call comes to in each of its cases.
use mathlib.Core.Path.{◌≡◌, refl, sym, ◌∙◌, ap, subst}
use mathlib.Core.Bool.{Bool, true, false, not, and-false, ◌&&◌}
use Rattle.std.specs.Prelude.{Option, None, Some, Ok, Err}
use mathlib.Core.List.{List, [], ◌∷◌}
use Prim.Native.Nat.{ℕ, ◌+◌, ◌≤◌, ◌<◌}
use native.Mathlib.Omega.{arith}
use lib.Dec.{eqb, ltb}
use borrow.Author.Tests.{eq-eqb, eqb-true}
use lib.ListN.{length, get_or, set, get_or-eq_default}
use lib.Seq.{get_or-set_same, set-set}
use Rattle.sizes.specs.declared.refusal.Refusal.{Refusal}
use Rattle.sizes.specs.declared.refusal.Refusal.TheVariants as Because
use Rattle.sizes.specs.Words.{has, place, Each, one_if, times}
use Rattle.sizes.specs.Limits.{object_slots, toi_entries}
use Rattle.sizes.specs.Allocator as Alloc
use Rattle.sizes.specs.Allocator.{Allocated, claimed_of}
use Rattle.sizes.specs.declared.partition.Sizes.{Sizes}
use Rattle.sizes.specs.declared.toiallocator.ToiAllocator.{ToiAllocator}
use Rattle.sizes.proofs.Lists.{found_first, at_take, at_get}
use Rattle.sizes.proofs.Arrays.{each_get}
use Rattle.sizes.proofs.Tables.{one_true, inside}
use Rattle.sizes.proofs.AllocatorViews.{allocated_cases}
use Rattle.lifecycle.proofs.FdtFacts as Facts
use Rattle.lifecycle.specs.Lifecycle.{expired, may_start}
use Rattle.lifecycle.specs.FileDesc.{plan_of, life_of, with_life, reset_life, startable_file}
use Rattle.lifecycle.specs.Slots.{no_slot, slot_at, is_free, is_listed_as, queue_startable}
use Rattle.lifecycle.specs.Setup.{bad_blocks}
use Rattle.lifecycle.specs.FdtCalls.{waiting, sends, waits, ValidFdt, with_tois, with_slots, own_of, bad_part_of, put_of, refuses, named_of, fresh_of, numbered_of, added_of, transfers_of, unlisted_of, freed_of, removed_of, triggered_of, taken_at, taken_of, ended_file, goes_back, back_of, let_go_of, done_of}
use Rattle.lifecycle.specs.declared.filedesc.Time.{Time}
use Rattle.lifecycle.specs.declared.slots.Slot.{Slot}
use Rattle.lifecycle.specs.declared.fdt.Fdt.{Fdt}
use Rattle.lifecycle.specs.declared.fdt.Request.{Request}

-- what holds of each number that stands in a list
each_in : (P : ℕ → Type 0) (l : List ℕ) → ((k : ℕ) → 1 ≤ times k l → P k) → Each P l
each_in P [] h = tt
each_in P (k ∷ l) h = (h k (let r = ap one_if (eq-eqb k k refl) in omega arith), each_in P l (λ j u. h j (omega arith)))

-- ---- what a valid list tells

module _ (f : Fdt) (v : ValidFdt f) where
  -- one that a session sends has a holder
  pub sends_held : (k : ℕ) → sends (slot_at f.slots k) ≡ true → 0 < (slot_at f.slots k).holders
  sends_held k e = let a = (v.tidy k).count in let b = ap one_if e in omega arith

  -- what passes a test that a free slot fails is a slot
  slot_inside : (p : Slot → Bool) (k : ℕ) → p no_slot ≡ false → p (slot_at f.slots k) ≡ true → k < object_slots
  slot_inside p k n e = let h = inside no_slot p f.slots k n e in let g = v.slots_long in omega arith

  -- a number in the queue is that of a slot
  pub queue_inside : Each (λ k. k < object_slots) (waiting f)
  queue_inside = each_in (λ k. k < object_slots) (waiting f) (λ k h. slot_inside waits k refl (one_true (waits (slot_at f.slots k)) (let r = v.in_queue k in omega arith)))

  -- where a slot does not wait, there is room in the queue
  pub room : (k : ℕ) → k < object_slots → waits (slot_at f.slots k) ≡ false → f.queued < object_slots
  room k h e = let l = v.slots_long in let q = v.queue_long in let r = Facts.room f v k (omega arith) e in omega arith

  -- so where a session sends it
  pub sends_room : (k : ℕ) → k < object_slots → sends (slot_at f.slots k) ≡ true → f.queued < object_slots
  sends_room k h e = room k h (subst (λ b. ((slot_at f.slots k).listed && not b) ≡ false) (sym e) (and-false (slot_at f.slots k).listed))

  -- what a search of the slots says of the one that it found
  pub found_slot : (p : Slot → Bool) (k : ℕ) → place p f.slots ≡ Some k → (k < object_slots) × (p (slot_at f.slots k) ≡ true)
  found_slot p k e =
      let h = found_first p f.slots k e in
      let g = at_get no_slot f.slots k h.0 h.1.stands in
      let l = v.slots_long in
      (omega arith, subst (λ x. p x ≡ true) (sym g.0) h.1.passes)

  -- a free slot does not wait
  free_waits : (k : ℕ) → is_free (slot_at f.slots k) ≡ true → waits (slot_at f.slots k) ≡ false
  unfolding is_free
  free_waits k e = go (slot_at f.slots k).listed (sends (slot_at f.slots k)) (let r = (v.tidy k).count in let h = eqb-true (slot_at f.slots k).holders 0 e in omega arith)
    where
      go : (a b : Bool) → one_if a + one_if b ≡ 0 → (a && not b) ≡ false
      go true b h = absurd (omega arith)
      go false b h = refl

  pub free_found : (k : ℕ) → place is_free f.slots ≡ Some k → (k < object_slots) × (f.queued < object_slots)
  free_found k e = let h = found_slot is_free k e in (h.0, room k h.0 (free_waits k h.1))

  -- what a search of the queue says of the place that it found
  pub queue_found : (p : ℕ → Bool) (n : ℕ) → place p (waiting f) ≡ Some n → (n < f.queued) × (n < object_slots) × (get_or f.queue n 0 < object_slots)
  queue_found p n e =
      let h = found_first p (waiting f) n e in
      let g = at_take f.queue f.queued n h.0 h.1.stands in
      let a = v.queued in let b = v.queue_long in
      (g, omega arith, each_get (λ k. k < object_slots) f.queued f.queue (omega arith) n 0 g queue_inside)

-- past the last slot there is nothing to start
pub past_starts : (l : List Slot) (p now k : ℕ) → length l ≤ k → queue_startable l p now k ≡ false
unfolding queue_startable startable_file may_start
past_starts l p now k h = ap (λ (v : Slot). startable_file p now v.file) (get_or-eq_default l no_slot h) ∙ and-false (eqb 0 p)

-- slot k is written twice
pub twice : (l : List Slot) (k : ℕ) → k < length l → (v : Slot) (g : Slot → Slot) → set (set l k v) k (g (slot_at (set l k v) k)) ≡ set l k (g v)
twice l k h v g = set-set l k v (g (slot_at (set l k v) k)) ∙ ap (λ w. set l k (g w)) (get_or-set_same l k v no_slot h)

-- ---- add

module _ (f : Fdt) (q : Request) (z : Sizes) (t : ℕ) where
  pub named_unknown : has t (Alloc.loose f.tois) ≡ false → named_of f q z t ≡ refuses f Because.NotLoose
  unfolding named_of
  named_unknown h = rw h

  module _ (h : has t (Alloc.loose f.tois) ≡ true) where
    pub named_none : place is_free f.slots ≡ None → named_of f q z t ≡ refuses f Because.Full
    unfolding named_of
    named_none p = rw (h, p)

    pub named_some : (k : ℕ) → place is_free f.slots ≡ Some k
        → named_of f q z t ≡ record { answer = Ok t; fdt = put_of (with_tois f (Alloc.claimed_of t f.tois).allocator) k t q z }
    unfolding named_of
    named_some k p = rw (h, p)

-- what the allocator says tells whether it is full, and which number it gave
allocated_full : (flag : Bool) (a : ToiAllocator) (why : Refusal) → (Alloc.allocated_of flag a).answer ≡ Err why
    → (ltb a.entered toi_entries ≡ false) × (why ≡ Because.Full) × ((Alloc.allocated_of flag a).allocator ≡ a)
allocated_full flag a why = allocated_cases (λ (x : Allocated). x.answer ≡ Err why → (ltb a.entered toi_entries ≡ false) × (why ≡ Because.Full) × (x.allocator ≡ a)) flag a
    (λ q e. let z : ◌≡◌ {A = ℕ} 0 1 = cc in absurd (omega arith)) (λ q e. (q, cc, refl))

allocated_some : (flag : Bool) (a : ToiAllocator) (t : ℕ) → (Alloc.allocated_of flag a).answer ≡ Ok t → (ltb a.entered toi_entries ≡ true) × (a.next ≡ t)
allocated_some flag a t = allocated_cases (λ (x : Allocated). x.answer ≡ Ok t → (ltb a.entered toi_entries ≡ true) × (a.next ≡ t)) flag a
    (λ q e. (q, cc)) (λ q e. let z : ◌≡◌ {A = ℕ} 0 1 = cc in absurd (omega arith))

module _ (f : Fdt) (q : Request) (z : Sizes) where
  pub fresh_none : place is_free f.slots ≡ None → fresh_of f q z ≡ refuses f Because.Full
  unfolding fresh_of
  fresh_none p = rw p

  module _ (k : ℕ) (p : place is_free f.slots ≡ Some k) where
    pub fresh_full : (why : Refusal) → (Alloc.allocated_of false f.tois).answer ≡ Err why
        → fresh_of f q z ≡ record { answer = Err why; fdt = with_tois f (Alloc.allocated_of false f.tois).allocator }
    unfolding fresh_of
    fresh_full why e = let r = allocated_full false f.tois why e in rw (p, r.0, r.1, r.2)

    pub fresh_some : (t : ℕ) → (Alloc.allocated_of false f.tois).answer ≡ Ok t
        → fresh_of f q z ≡ record { answer = Ok t; fdt = put_of (with_tois f (Alloc.allocated_of false f.tois).allocator) k t q z }
    unfolding fresh_of
    fresh_some t e = let r = allocated_some false f.tois t e in rw (p, r.0, r.1)

module _ (f : Fdt) (q : Request) (named : Option ℕ) where
  pub added_complete : f.complete ≡ true → added_of f q named ≡ refuses f Because.Complete
  unfolding added_of
  added_complete e = rw e

  module _ (o : f.complete ≡ false) where
    pub added_sizes : bad_blocks (own_of q.own f.settings.sizes) q.part.size ≡ true → added_of f q named ≡ refuses f Because.Sizes
    unfolding added_of
    added_sizes b = rw (b, o)

    module _ (b : bad_blocks (own_of q.own f.settings.sizes) q.part.size ≡ false) where
      pub added_part : bad_part_of f q.part ≡ true → added_of f q named ≡ refuses f Because.Part
      unfolding added_of
      added_part p = rw (p, b, o)

      pub added_numbered : bad_part_of f q.part ≡ false → added_of f q named ≡ numbered_of f q (own_of q.own f.settings.sizes) named
      unfolding added_of
      added_numbered p = rw (p, b, o)

-- ---- by number

module _ (t : ℕ) (f : Fdt) where
  pub transfers_none : place (is_listed_as t) f.slots ≡ None → transfers_of t f ≡ None
  unfolding transfers_of
  transfers_none p = rw p

  pub removed_none : place (is_listed_as t) f.slots ≡ None → removed_of t f ≡ record { yes = false; fdt = f }
  unfolding removed_of
  removed_none p = rw p

  pub triggered_none : (start : Time) → place (is_listed_as t) f.slots ≡ None → triggered_of t start f ≡ record { yes = false; fdt = f }
  unfolding triggered_of
  triggered_none start p = rw p

  module _ (k : ℕ) (p : place (is_listed_as t) f.slots ≡ Some k) where
    pub transfers_some : transfers_of t f ≡ Some (slot_at f.slots k).file.life.total
    unfolding transfers_of
    transfers_some = rw p

    pub removed_sent : sends (slot_at f.slots k) ≡ true → removed_of t f ≡ record { yes = true; fdt = unlisted_of f k }
    unfolding removed_of
    removed_sent e = rw (p, e)

    pub triggered_sent : (start : Time) → sends (slot_at f.slots k) ≡ true → triggered_of t start f ≡ record { yes = true; fdt = f }
    unfolding triggered_of
    triggered_sent start e = rw (p, e)

    module _ (e : sends (slot_at f.slots k) ≡ false) where
      pub removed_stays : place (λ j. eqb j k) (waiting f) ≡ None → removed_of t f ≡ record { yes = true; fdt = f }
      unfolding removed_of
      removed_stays m = rw (p, e, m)

      pub removed_freed : (n : ℕ) → place (λ j. eqb j k) (waiting f) ≡ Some n → removed_of t f ≡ record { yes = true; fdt = freed_of f t k n }
      unfolding removed_of
      removed_freed n m = rw (p, e, m)

      pub triggered_some : (start : Time) → triggered_of t start f ≡ record {
        yes = true;
        fdt = with_slots f (set f.slots k (let v = slot_at f.slots k in record { holders = v.holders; listed = v.listed; file = with_life v.file (reset_life start v.file.life) }));
      }
      unfolding triggered_of
      triggered_some start = rw (p, e)

-- ---- transfers

module _ (p now : ℕ) (f : Fdt) where
  pub taken_none : place (queue_startable f.slots p now) (waiting f) ≡ None → taken_of p now f ≡ record { answer = None; fdt = f }
  unfolding taken_of
  taken_none e = rw e

  module _ {n : ℕ} (e : place (queue_startable f.slots p now) (waiting f) ≡ Some n) where
    pub startable_found : ValidFdt f → (n < f.queued) × (n < object_slots) × (get_or f.queue n 0 < object_slots)
    startable_found v = queue_found f v (queue_startable f.slots p now) n e

    pub taken_some : taken_of p now f ≡ record { answer = Some (get_or f.queue n 0); fdt = taken_at now f n (get_or f.queue n 0) }
    unfolding taken_of
    taken_some = rw e

module _ (now k : ℕ) (f : Fdt) where
  -- a slot that is not in transfer stays as it is
  pub done_still : sends (slot_at f.slots k) ≡ false → done_of now k f ≡ f
  unfolding done_of
  done_still e = rw e

  -- past the end there is none
  pub done_past : ValidFdt f → object_slots ≤ k → done_of now k f ≡ f
  done_past v h = done_still (ap sends (get_or-eq_default f.slots no_slot (let g = v.slots_long in omega arith)))

  module _ (e : sends (slot_at f.slots k) ≡ true) where
    pub done_unlisted : (slot_at f.slots k).listed ≡ false → done_of now k f ≡ let_go_of f k
    unfolding done_of goes_back
    done_unlisted u = rw (e, u)

    module _ (u : (slot_at f.slots k).listed ≡ true) where
      pub done_expired : expired (plan_of (slot_at f.slots k).file.plan) (life_of (ended_file now (slot_at f.slots k)).life) ≡ true → done_of now k f ≡ let_go_of f k
      unfolding done_of goes_back
      done_expired x = rw (x, e, u)

      pub done_back : expired (plan_of (slot_at f.slots k).file.plan) (life_of (ended_file now (slot_at f.slots k)).life) ≡ false → done_of now k f ≡ back_of now f k
      unfolding done_of goes_back
      done_back x = rw (x, e, u)
