-- What is known of a slot that waits, of one that is sent, of one that is free; a slot changed, and the queue with it.
use mathlib.Core.Path.{◌≡◌, refl, sym, ◌∙◌, ap, subst}
use mathlib.Core.Bool.{Bool, true, false, not, ◌&&◌, ◌||◌}
use Rattle.std.specs.Prelude.{Option, None, Some}
use mathlib.Core.List.{List, [], ◌∷◌, ◌++◌}
use Prim.Native.Nat.{ℕ, suc, ◌+◌, ◌-◌, ◌≤◌, ◌<◌}
use native.Mathlib.Omega.{arith}
use native.Mathlib.Numerals.{add-one}
use lib.Dec.{eqb}
use borrow.Author.Tests.{eqb-true, not-true, eq-eqb}
use lib.ListN.{length, set, get_or, take, length-set, length-take}
use lib.Seq.{get_or-set_other, get_or-take, take-suc-set}
use Rattle.sizes.specs.Words.{when◌then◌else◌, at, cut, place, shut, one_if, times, Counts}
use Rattle.sizes.specs.Limits.{object_slots}
use Rattle.sizes.specs.Allocator as Alloc
use Rattle.sizes.specs.declared.toiallocator.ToiAllocator.{ToiAllocator}
use Rattle.sizes.proofs.Tests.{and_left, and_right}
use Rattle.sizes.proofs.Lists.{found_first, at_get, at_take}
use Rattle.sizes.proofs.Arrays.{getD_shut, take_shut, length_shut}
use Rattle.sizes.proofs.Tables.{one_true, times_at, times_cut, inside, set_all, tally_lt, counts_length}
use Rattle.sizes.proofs.Collects.{adds, at_inside, collect_set, collect_at}
use Rattle.lifecycle.specs.Slots.{no_slot, slot_at, is_free, is_listed_as}
use Rattle.lifecycle.specs.FdtCalls.{waiting, sends, used, waits, Tidy, ValidFdt, with_objects, listed_place}
use Rattle.lifecycle.proofs.FdtMeans.{Waits, Free, Listed}
use Rattle.lifecycle.specs.declared.slots.Slot.{Slot}
use Rattle.lifecycle.specs.declared.fdt.Fdt.{Fdt}

and_not : (a b : Bool) → b ≡ true → (a && not b) ≡ false
and_not true b e = ap not e
and_not false b e = refl

or_yes : (a b : Bool) → b ≡ true → (a || b) ≡ true
or_yes true b e = refl
or_yes false b e = e

-- ---- the number of a slot

-- the number that a slot holds
abbrev pub toi_in : Slot → Option ℕ
toi_in v = when used v then Some v.file.toi else None

pub toi_used : (v : Slot) → used v ≡ true → toi_in v ≡ Some v.file.toi
toi_used v e = rw e

pub used_listed : (v : Slot) → v.listed ≡ true → used v ≡ true
used_listed v e = ap (λ b. b || sends v) e

pub used_sends : (v : Slot) → sends v ≡ true → used v ≡ true
used_sends v e = or_yes v.listed (sends v) e

pub waits_not : (v : Slot) → sends v ≡ true → waits v ≡ false
waits_not v e = and_not v.listed (sends v) e

-- ---- a slot in its place

pub listed_at : (t : ℕ) (f : Fdt) (k : ℕ) → listed_place t f ≡ Some k → Listed t f k
unfolding is_listed_as
listed_at t f k e =
    let h = found_first (is_listed_as t) f.slots k e in
    let a = at_get no_slot f.slots k h.0 h.1.stands in
    let y = slot_at f.slots k in
    let o : is_listed_as t y ≡ true = subst (λ (z : Slot). is_listed_as t z ≡ true) (sym a.0) h.1.passes in
    record { inn = a.1; is_listed = and_left y.listed (eqb y.file.toi t) o; number = eqb-true y.file.toi t (and_right y.listed (eqb y.file.toi t) o) }

pub free_slot : (v : Slot) → Tidy v → is_free v ≡ true → Free v
unfolding is_free
free_slot v t e =
    let h = eqb-true v.holders 0 e in
    let c = t.count in
    let l = none_if v.listed (omega arith) in
    let s = none_if (sends v) (omega arith) in
    let u : used v ≡ false = (λ i. l i || s i) in
    record { blank = t.zeroed u; unused = u }
  where
    none_if : (b : Bool) → one_if b ≤ 0 → b ≡ false
    none_if true h = absurd (omega arith)
    none_if false h = refl

module _ (f : Fdt) (v : ValidFdt f) where
  pub waits_at : (n k : ℕ) → at (waiting f) n ≡ Some k → Waits f n k
  waits_at n k e =
      let y = slot_at f.slots k in
      let a = times_at (waiting f) n k e in
      let b = v.in_queue k in
      let w : waits y ≡ true = one_true (waits y) (omega arith) in
      let c = times_cut k (waiting f) n k e in
      let d = ap one_if w in
      let r = ap one_if (eq-eqb k k refl) in
      let early = at_take f.queue f.queued n k e in
      record {
        inn = inside no_slot waits f.slots k refl w;
        is_listed = and_left y.listed (not (sends y)) w;
        unsent = not-true (sends y) (and_right y.listed (not (sends y)) w);
        early = early;
        here = sym (get_or-take f.queued f.queue n 0 early) ∙ (at_get 0 (waiting f) n k e).0;
        gone = omega arith;
      }

  -- one that does not wait is not in the queue, and leaves room in it
  pub absent : (k : ℕ) → waits (slot_at f.slots k) ≡ false → times k (waiting f) ≡ 0
  absent k e = v.in_queue k ∙ ap one_if e

  pub room : (k : ℕ) → k < length f.slots → waits (slot_at f.slots k) ≡ false → f.queued < length f.queue
  room k inn e =
      let c = counts_length no_slot waits f.slots (waiting f) refl v.in_queue in
      let d = tally_lt no_slot waits f.slots k inn e in
      let g = length-take f.queued f.queue in
      let a = v.slots_long in let b = v.queue_long in let h = v.queued in omega arith

  -- the number of a held object is an object's
  pub number_held : (k : ℕ) → k < length f.slots → used (slot_at f.slots k) ≡ true → 1 ≤ times (slot_at f.slots k).file.toi (Alloc.bound f.tois)
  number_held k inn u =
      let y = slot_at f.slots k in
      let a = v.owned y.file.toi in
      let b = collect_at toi_in f.slots k y y.file.toi (at_inside no_slot f.slots k inn) (toi_used y u) in omega arith

  -- what the searches by slot number and for a free slot found
  pub queue_place : (k n : ℕ) → place (λ j. eqb j k) (waiting f) ≡ Some n → at (waiting f) n ≡ Some k
  queue_place k n e =
      let h = found_first (λ j. eqb j k) (waiting f) n e in
      h.1.stands ∙ ap Some (eqb-true h.0 k h.1.passes)

  pub free_at : (k : ℕ) → place is_free f.slots ≡ Some k → (k < length f.slots) × Free (slot_at f.slots k)
  free_at k e =
      let h = found_first is_free f.slots k e in
      let a = at_get no_slot f.slots k h.0 h.1.stands in
      (a.1, free_slot (slot_at f.slots k) (v.tidy k) (subst (λ (z : Slot). is_free z ≡ true) (sym a.0) h.1.passes))

-- ---- the queue

-- what is kept of the array and its length
pub record Queue (q : List ℕ) (m : ℕ) : Type 0 where
  pub long : length q ≡ object_slots
  pub within : m ≤ object_slots
  pub clear : (i : ℕ) → m ≤ i → get_or q i 0 ≡ 0

module _ (f : Fdt) (v : ValidFdt f) where
  pub queue_same : Queue f.queue f.queued
  queue_same = record { long = v.queue_long; within = v.queued; clear = v.clear }

  -- a place is left out
  pub queue_shut : (n : ℕ) → n < f.queued → Queue (shut 0 f.queue n) (f.queued - 1)
  queue_shut n h =
      let a = v.queue_long in let b = v.queued in
      record {
        long = length_shut 0 f.queue n (omega arith) ∙ a;
        within = omega arith;
        clear = λ i g. getD_shut 0 f.queue n i (omega arith) ∙ v.clear (suc i) (omega arith);
      }

  pub waiting_shut : (n : ℕ) → n < f.queued → take (f.queued - 1) (shut 0 f.queue n) ≡ cut (waiting f) n
  waiting_shut n h = take_shut 0 f.queue n f.queued h (let a = v.queue_long in let b = v.queued in omega arith)

  -- one comes in at the end
  pub queue_push : (k : ℕ) → f.queued < length f.queue → Queue (set f.queue f.queued k) (f.queued + 1)
  queue_push k h =
      let a = v.queue_long in
      record {
        long = length-set f.queue f.queued k ∙ a;
        within = omega arith;
        clear = λ i g. get_or-set_other f.queue f.queued i k 0 (λ q. absurd (omega arith)) ∙ v.clear i (omega arith);
      }

  pub waiting_push : (k : ℕ) → f.queued < length f.queue → take (f.queued + 1) (set f.queue f.queued k) ≡ waiting f ++ (k ∷ [])
  waiting_push k h = rw (add-one f.queued) (take-suc-set f.queue f.queued k h)

  -- ---- slot k is changed, and the numbers, the queue and its length may be
  pub valid_changed : (k : ℕ) → k < length f.slots → (w : Slot) (a : ToiAllocator) (q : List ℕ) (m : ℕ) → Tidy w → Alloc.ValidAllocator a → Queue q m → Counts no_slot waits (set f.slots k w) (take m q)
      → ((n : ℕ) → times n (Alloc.bound a) + adds n (toi_in (slot_at f.slots k)) ≡ times n (Alloc.bound f.tois) + adds n (toi_in w))
      → ValidFdt (with_objects f a (set f.slots k w) q m)
  valid_changed k inn w a q m t va qu c o = record {
    tois = va;
    slots_long = length-set f.slots k w ∙ v.slots_long;
    queue_long = qu.long;
    queued = qu.within;
    in_queue = c;
    clear = qu.clear;
    tidy = set_all no_slot Tidy f.slots k w inn v.tidy t;
    fdts = v.fdts;
    owned = λ n. (
        let x = v.owned n in
        let y = o n in
        let z = collect_set toi_in n f.slots k (slot_at f.slots k) w (at_inside no_slot f.slots k inn) in omega arith);
  }
