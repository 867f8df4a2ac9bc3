-- After every call the list is valid again.
use mathlib.Core.Path.{◌≡◌, refl, sym, ◌∙◌, ap, subst}
use mathlib.Core.Bool.{true, false, not, ◌&&◌, true≢false}
use Rattle.std.specs.Prelude.{Option, None, Some}
use mathlib.Core.List.{[], ◌∷◌, ◌++◌, map}
use Prim.Native.Nat.{ℕ, zero, suc, ◌+◌, ◌-◌, ◌≤◌, ◌<◌}
use native.Mathlib.Omega.{arith}
use lib.Dec.{eqb, ltb}
use borrow.Author.Tests.{ltb-true, ltb-false}
use lib.ListN.{length, set, get_or, take, replicate, length-map, length-replicate, get_or-map}
use Rattle.sizes.specs.Words.{has, at, cut, place, shut, one_if, times, Counts}
use Rattle.sizes.specs.Limits.{object_slots, toi_entries}
use Rattle.sizes.specs.Allocator as Alloc
use Rattle.sizes.specs.declared.partition.Sizes.{Sizes}
use Rattle.sizes.specs.declared.toiallocator.ToiAllocator.{ToiAllocator}
use Rattle.sizes.proofs.Tests.{Tested, pass, fail, tested, and_left, or_left, if_on, maybe_on}
use Rattle.sizes.proofs.Lists.{found_first, times_append}
use Rattle.sizes.proofs.Tables.{times_cut, inside, leaves, joins, stays}
use Rattle.sizes.proofs.Collects.{adds, collect_same}
use Rattle.sizes.proofs.AllocatorLaws.{valid_allocated, valid_claimed, valid_dropped}
use Rattle.sizes.proofs.AllocatorViews.{bound_reserved, bound_given, allocated_room, allocated_full, released_view, claimed_view, freed_view}
use Rattle.lifecycle.specs.Lifecycle.{expired}
use Rattle.lifecycle.specs.Setup.{bad_blocks}
use Rattle.lifecycle.specs.FileDesc.{plan_of, life_of, with_life, started_life, done_life, reset_life, file_new}
use Rattle.lifecycle.specs.Announce.{ValidAnnouncer}
use Rattle.lifecycle.specs.Slots.{no_slot, slot_at, is_free, queue_startable, published_slot}
use Rattle.lifecycle.specs.FdtCalls.{Touched, Taken, Added, waiting, sends, used, waits, used_tois, Tidy, ValidFdt, with_tois, with_slots, completed_of, reserved_of, released_of, own_of, bad_part_of, put_of, named_of, fresh_of, numbered_of, added_of, listed_place, unlisted_of, freed_of, removed_of, triggered_of, taken_at, taken_of, ended_file, goes_back, back_of, let_go_of, done_of}
use Rattle.lifecycle.proofs.FdtMeans.{Listed}
use Rattle.lifecycle.specs.declared.filedesc.Time.{Time}
use Rattle.lifecycle.specs.declared.slots.Slot.{Slot}
use Rattle.lifecycle.specs.declared.fdt.Fdt.{Fdt}
use Rattle.lifecycle.specs.declared.fdt.Request.{Request}
use Rattle.lifecycle.proofs.FdtFacts.{toi_in, toi_used, used_listed, used_sends, waits_not, listed_at, waits_at, room, number_held, queue_place, free_at, queue_same, queue_shut, queue_push, waiting_shut, waiting_push, valid_changed}

-- ---- set-up

-- nothing is held
pub opening : (f : Fdt) → Alloc.ValidAllocator f.tois → Alloc.bound f.tois ≡ [] → f.slots ≡ replicate object_slots no_slot → f.queue ≡ replicate object_slots 0 → f.queued ≡ 0 → ValidAnnouncer f.announcer → ValidFdt f
opening f a b s q n d = record {
  tois = a;
  slots_long = ap length s ∙ length-replicate object_slots no_slot;
  queue_long = ap length q ∙ length-replicate {A = ℕ} object_slots 0;
  queued = omega arith;
  in_queue = λ k. ap (λ m. times k (take m f.queue)) n ∙ sym (ap (λ v. one_if (waits v)) (free k));
  clear = λ i h. ap (λ l. get_or l i 0) q ∙ blank object_slots i 0;
  tidy = λ k. subst Tidy (sym (free k)) (record { count = refl; zeroed = λ e. refl });
  owned = λ m. ap (times m) b ∙ sym (ap (λ l. times m (used_tois l)) s ∙ ap (times m) (none_used object_slots));
  fdts = d;
}
  where
    blank : {A : Type 0} (m i : ℕ) (z : A) → get_or (replicate m z) i z ≡ z
    blank zero i z = refl
    blank (suc m) zero z = refl
    blank (suc m) (suc i) z = blank m i z

    free : (k : ℕ) → slot_at f.slots k ≡ no_slot
    free k = ap (λ l. slot_at l k) s ∙ blank object_slots k no_slot

    none_used : (m : ℕ) → used_tois (replicate m no_slot) ≡ []
    none_used zero = refl
    none_used (suc m) = none_used m

-- publishing keeps the flags, the count and the number
abbrev Same : Slot → Slot → Type 0
Same y w = (waits w ≡ waits y) × (toi_in w ≡ toi_in y) × (Tidy y → Tidy w)

published_same : (y : Slot) → Same y (published_slot y)
unfolding published_slot
published_same y = if_on (Same y) y.listed
    (λ e. (refl, refl, λ t. record { count = t.count; zeroed = λ z. absurd (true≢false (sym e ∙ or_left y.listed (sends y) z)) }))
    (λ e. (refl, refl, λ t. t))

module _ (f : Fdt) (v : ValidFdt f) where
  -- ---- numbers

  -- the allocator is changed, and no object's number is
  valid_tois : (a : ToiAllocator) → Alloc.ValidAllocator a → Alloc.bound a ≡ Alloc.bound f.tois → ValidFdt (with_tois f a)
  valid_tois a va e = record {
    tois = va;
    slots_long = v.slots_long;
    queue_long = v.queue_long;
    queued = v.queued;
    in_queue = v.in_queue;
    clear = v.clear;
    tidy = v.tidy;
    owned = λ n. ap (times n) e ∙ v.owned n;
    fdts = v.fdts;
  }

  pub valid_reserved : ValidFdt (reserved_of f).fdt
  unfolding reserved_of
  valid_reserved = valid_tois (Alloc.allocated_of true f.tois).allocator (valid_allocated f.tois v.tois true) (go (tested (ltb f.tois.entered toi_entries)))
    where
      go : Tested (ltb f.tois.entered toi_entries) → Alloc.bound (Alloc.allocated_of true f.tois).allocator ≡ Alloc.bound f.tois
      go (pass e) = let h = ltb-true f.tois.entered toi_entries e in ap Alloc.bound (allocated_room f.tois true h) ∙ bound_reserved f.tois v.tois h
      go (fail e) = ap Alloc.bound (allocated_full f.tois true (ltb-false f.tois.entered toi_entries e))

  pub valid_released : (t : ℕ) → ValidFdt (released_of t f).fdt
  unfolding released_of
  valid_released t = valid_tois (Alloc.dropped_of true t f.tois).allocator (valid_dropped f.tois v.tois true t) (released_view f.tois v.tois t).bound_same

  pub valid_completed : ValidFdt (completed_of f)
  valid_completed = record {
    tois = v.tois;
    slots_long = v.slots_long;
    queue_long = v.queue_long;
    queued = v.queued;
    in_queue = v.in_queue;
    clear = v.clear;
    tidy = v.tidy;
    owned = v.owned;
    fdts = v.fdts;
  }

  -- ---- trigger and publish

  pub valid_triggered : (t : ℕ) (start : Time) → ValidFdt (triggered_of t start f).fdt
  unfolding triggered_of reset_life
  valid_triggered t start = maybe_on (λ (x : Touched). ValidFdt x.fdt) (listed_place t f) (λ e. v) (λ k e.
      if_on ValidFdt (sends (slot_at f.slots k)) (λ s. v) (λ s.
      let y = slot_at f.slots k in
      let li = listed_at t f k e in
      let w : Slot = record { holders = y.holders; listed = y.listed; file = with_life y.file (reset_life start y.file.life) } in
      valid_changed f v k li.inn w f.tois f.queue f.queued
      (record { count = (v.tidy k).count; zeroed = λ z. absurd (true≢false (sym (used_listed y li.is_listed) ∙ z)) })
      v.tois (queue_same f v)
      (stays no_slot waits f.slots k w li.inn (waiting f) (waiting f) v.in_queue (λ j. refl) refl)
      (λ n. refl)))

  pub valid_published : ValidFdt (with_slots f (map published_slot f.slots))
  unfolding published_slot
  valid_published =
      let there : (k : ℕ) → slot_at (map published_slot f.slots) k ≡ published_slot (slot_at f.slots k) = λ k. get_or-map published_slot f.slots k no_slot in
      record {
        tois = v.tois;
        slots_long = length-map f.slots published_slot ∙ v.slots_long;
        queue_long = v.queue_long;
        queued = v.queued;
        in_queue = λ k. v.in_queue k ∙ sym (ap (λ y. one_if (waits y)) (there k) ∙ ap one_if (published_same (slot_at f.slots k)).0);
        clear = v.clear;
        tidy = λ k. subst Tidy (sym (there k)) ((published_same (slot_at f.slots k)).2 (v.tidy k));
        owned = λ n. v.owned n ∙ sym (ap (times n) (collect_same toi_in published_slot (λ y. (published_same y).1) f.slots));
        fdts = v.fdts;
      }

  -- ---- take

  pub valid_taken_at : (now n k : ℕ) → at (waiting f) n ≡ Some k → ValidFdt (taken_at now f n k)
  unfolding taken_at started_life
  valid_taken_at now n k e =
      let y = slot_at f.slots k in
      let w = waits_at f v n k e in
      let new : Slot = record { holders = y.holders + 1; listed = y.listed; file = with_life y.file (started_life y.file.plan now y.file.life) } in
      let used-new = used_sends new refl in
      let used-old = used_listed y w.is_listed in
      valid_changed f v k w.inn new f.tois (shut 0 f.queue n) (f.queued - 1)
      (record { count = (let a = (v.tidy k).count in let b = ap one_if w.unsent in omega arith); zeroed = λ z. absurd (true≢false (sym used-new ∙ z)) })
      v.tois (queue_shut f v n w.early)
      (subst (Counts no_slot waits (set f.slots k new)) (sym (waiting_shut f v n w.early))
      (leaves no_slot waits f.slots k new w.inn (waiting f) (cut (waiting f) n) v.in_queue (λ j. times_cut j (waiting f) n k e) (waits_not new refl)))
      (λ m. ap (λ o. times m (Alloc.bound f.tois) + adds m o) (toi_used y used-old ∙ sym (toi_used new used-new)))

  pub valid_taken : (p now : ℕ) → ValidFdt (taken_of p now f).fdt
  unfolding taken_of
  valid_taken p now = maybe_on (λ (x : Taken). ValidFdt x.fdt) (place (queue_startable f.slots p now) (waiting f)) (λ e. v) (λ n e.
      let h = found_first (queue_startable f.slots p now) (waiting f) n e in
      let w = waits_at f v n h.0 h.1.stands in
      subst (λ k. ValidFdt (taken_at now f n k)) (sym w.here) (valid_taken_at now n h.0 h.1.stands))

  -- ---- done

  module _ (k : ℕ) (s : sends (slot_at f.slots k) ≡ true) where
    inn : k < length f.slots
    inn = inside no_slot sends f.slots k refl s

    no_wait : waits (slot_at f.slots k) ≡ false
    no_wait = waits_not (slot_at f.slots k) s

    in_use : used (slot_at f.slots k) ≡ true
    in_use = used_sends (slot_at f.slots k) s

    pub valid_back : (now : ℕ) → (slot_at f.slots k).listed ≡ true → ValidFdt (back_of now f k)
    unfolding back_of done_life
    valid_back now li =
        let y = slot_at f.slots k in
        let new : Slot = record { holders = y.holders - 1; listed = y.listed; file = ended_file now y } in
        let r = room f v k inn no_wait in
        valid_changed f v k inn new f.tois (set f.queue f.queued k) (f.queued + 1)
        (record {
          count = (let a = (v.tidy k).count in let b = ap one_if s in omega arith);
          zeroed = λ z. absurd (true≢false (sym (used_listed new li) ∙ z));
        })
        v.tois (queue_push f v k r)
        (subst (Counts no_slot waits (set f.slots k new)) (sym (waiting_push f v k r))
        (joins no_slot waits f.slots k new inn (waiting f) (waiting f ++ (k ∷ [])) v.in_queue (λ j. let a = times_append j (waiting f) (k ∷ []) in omega arith) no_wait (ap (λ b. b && true) li)))
        (λ m. ap (λ o. times m (Alloc.bound f.tois) + adds m o) (toi_used y in_use ∙ sym (toi_used new (used_listed new li))))

    pub valid_let_go : ValidFdt (let_go_of f k)
    unfolding let_go_of
    valid_let_go =
        let y = slot_at f.slots k in
        let fr = freed_view f.tois v.tois y.file.toi (number_held f v k inn in_use) in
        valid_changed f v k inn no_slot (Alloc.dropped_of false y.file.toi f.tois).allocator f.queue f.queued
        (record { count = refl; zeroed = λ z. refl })
        (valid_dropped f.tois v.tois false y.file.toi) (queue_same f v)
        (stays no_slot waits f.slots k no_slot inn (waiting f) (waiting f) v.in_queue (λ j. refl) (sym no_wait))
        (λ m. let a = fr.one_less m in let b = ap (adds m) (toi_used y in_use) in omega arith)

  pub valid_done : (now k : ℕ) → ValidFdt (done_of now k f)
  unfolding done_of goes_back
  valid_done now k =
      let y = slot_at f.slots k in
      if_on ValidFdt (sends y)
      (λ s. if_on ValidFdt (goes_back now y)
      (λ g. valid_back k s now (and_left y.listed (not (expired (plan_of y.file.plan) (life_of (ended_file now y).life))) g))
      (λ g. valid_let_go k s))
      (λ s. v)

  -- ---- remove

  pub valid_unlisted : (t k : ℕ) → Listed t f k → sends (slot_at f.slots k) ≡ true → ValidFdt (unlisted_of f k)
  unfolding unlisted_of
  valid_unlisted t k li s =
      let y = slot_at f.slots k in
      let new : Slot = record { holders = y.holders - 1; listed = false; file = y.file } in
      valid_changed f v k li.inn new f.tois f.queue f.queued
      (record {
        count = (let a = (v.tidy k).count in let b = ap one_if li.is_listed in omega arith);
        zeroed = λ z. absurd (true≢false (sym s ∙ z));
      })
      v.tois (queue_same f v)
      (stays no_slot waits f.slots k new li.inn (waiting f) (waiting f) v.in_queue (λ j. refl) (sym (waits_not y s)))
      (λ m. ap (λ o. times m (Alloc.bound f.tois) + adds m o) (toi_used y (used_sends y s) ∙ sym (toi_used new s)))

  pub valid_freed : (t k n : ℕ) → Listed t f k → at (waiting f) n ≡ Some k → ValidFdt (freed_of f t k n)
  unfolding freed_of
  valid_freed t k n li e =
      let y = slot_at f.slots k in
      let w = waits_at f v n k e in
      let in_use = used_listed y li.is_listed in
      let fr = freed_view f.tois v.tois t (subst (λ m. 1 ≤ times m (Alloc.bound f.tois)) li.number (number_held f v k w.inn in_use)) in
      valid_changed f v k w.inn no_slot (Alloc.dropped_of false t f.tois).allocator (shut 0 f.queue n) (f.queued - 1)
      (record { count = refl; zeroed = λ z. refl })
      (valid_dropped f.tois v.tois false t) (queue_shut f v n w.early)
      (subst (Counts no_slot waits (set f.slots k no_slot)) (sym (waiting_shut f v n w.early))
      (leaves no_slot waits f.slots k no_slot w.inn (waiting f) (cut (waiting f) n) v.in_queue (λ j. times_cut j (waiting f) n k e) refl))
      (λ m. let a = fr.one_less m in let b = ap (adds m) (toi_used y in_use) in let c = ap (λ r. one_if (eqb r m)) li.number in omega arith)

  pub valid_removed : (t : ℕ) → ValidFdt (removed_of t f).fdt
  unfolding removed_of
  valid_removed t = maybe_on (λ (x : Touched). ValidFdt x.fdt) (listed_place t f) (λ e. v) (λ k e.
      if_on ValidFdt (sends (slot_at f.slots k))
      (λ s. valid_unlisted t k (listed_at t f k e) s)
      (λ s. maybe_on ValidFdt (place (λ j. eqb j k) (waiting f)) (λ q. v) (λ n q. valid_freed t k n (listed_at t f k e) (queue_place f v k n q))))

  -- ---- add

  -- a free slot takes a new object with a number that the allocator has bound to it
  pub valid_put : (a : ToiAllocator) (k toi : ℕ) (q : Request) (z : Sizes) → Alloc.ValidAllocator a → ((n : ℕ) → times n (Alloc.bound a) ≡ times n (Alloc.bound f.tois) + one_if (eqb toi n))
      → place is_free f.slots ≡ Some k → ValidFdt (put_of (with_tois f a) k toi q z)
  unfolding put_of
  valid_put a k toi q z va b e =
      let h = free_at f v k e in
      let new : Slot = record { holders = 1; listed = true; file = file_new toi q.priority q.part z q.plan q.start } in
      let y = slot_at f.slots k in
      let no_wait : waits y ≡ false = ap waits h.1.blank in
      let r = room f v k h.0 no_wait in
      valid_changed f v k h.0 new a (set f.queue f.queued k) (f.queued + 1)
      (record { count = refl; zeroed = λ z. absurd (true≢false z) })
      va (queue_push f v k r)
      (subst (Counts no_slot waits (set f.slots k new)) (sym (waiting_push f v k r))
      (joins no_slot waits f.slots k new h.0 (waiting f) (waiting f ++ (k ∷ [])) v.in_queue (λ j. let a = times_append j (waiting f) (k ∷ []) in omega arith) no_wait refl))
      (λ m. let c = b m in let d = ap (λ x. adds m (toi_in x)) h.1.blank in omega arith)

  pub valid_named : (q : Request) (z : Sizes) (t : ℕ) → ValidFdt (named_of f q z t).fdt
  unfolding named_of
  valid_named q z t =
      if_on (λ (x : Added). ValidFdt x.fdt) (has t (Alloc.loose f.tois))
      (λ l. maybe_on (λ (x : Added). ValidFdt x.fdt) (place is_free f.slots) (λ e. v)
      (λ k e. valid_put (Alloc.claimed_of t f.tois).allocator k t q z (valid_claimed f.tois v.tois t) (claimed_view f.tois v.tois t l).one_more e))
      (λ l. v)

  -- a fresh number is bound
  bound_more : f.tois.entered < toi_entries → (n : ℕ) → times n (Alloc.bound (Alloc.allocated_of false f.tois).allocator) ≡ times n (Alloc.bound f.tois) + one_if (eqb f.tois.next n)
  bound_more h n =
      let a = ap (λ b. times n (Alloc.bound b)) (allocated_room f.tois false h) in
      let b = ap (times n) (bound_given f.tois v.tois h) in
      let c = times_append n (Alloc.bound f.tois) (f.tois.next ∷ []) in omega arith

  pub valid_fresh : (q : Request) (z : Sizes) → ValidFdt (fresh_of f q z).fdt
  unfolding fresh_of
  valid_fresh q z =
      maybe_on (λ (x : Added). ValidFdt x.fdt) (place is_free f.slots) (λ e. v)
      (λ k e. if_on (λ (x : Added). ValidFdt x.fdt) (ltb f.tois.entered toi_entries)
      (λ l. valid_put (Alloc.allocated_of false f.tois).allocator k f.tois.next q z (valid_allocated f.tois v.tois false) (bound_more (ltb-true f.tois.entered toi_entries l)) e)
      (λ l. v))

  valid_numbered : (q : Request) (z : Sizes) (named : Option ℕ) → ValidFdt (numbered_of f q z named).fdt
  unfolding numbered_of
  valid_numbered q z (Some t) = valid_named q z t
  valid_numbered q z None = valid_fresh q z

  pub valid_added : (q : Request) (named : Option ℕ) → ValidFdt (added_of f q named).fdt
  unfolding added_of
  valid_added q named =
      let z = own_of q.own f.settings.sizes in
      if_on (λ (x : Added). ValidFdt x.fdt) f.complete (λ e. v) (λ e.
      if_on (λ (x : Added). ValidFdt x.fdt) (bad_blocks z q.part.size) (λ e. v) (λ e.
      if_on (λ (x : Added). ValidFdt x.fdt) (bad_part_of f q.part) (λ e. v) (λ e. valid_numbered q z named)))
