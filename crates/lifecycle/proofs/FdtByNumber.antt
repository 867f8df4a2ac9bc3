-- The calls by number for the layer above: each finds a listed object by its number, and no other held object has that number.
use mathlib.Core.Path.{◌≡◌, refl, sym, ◌∙◌, ap, subst}
use mathlib.Core.Bool.{Bool, true, false, not, ◌&&◌, true≢false, false≢true}
use Rattle.std.specs.Prelude.{Option, None, Some}
use mathlib.Core.List.{List, [], ◌∷◌, ◌++◌}
use Prim.Native.Nat.{ℕ, ◌≤◌}
use native.Mathlib.Omega.{arith}
use lib.Dec.{eqb}
use borrow.Author.Tests.{eqb-true, eq-eqb}
use lib.ListN.{set}
use lib.Seq.{get_or-set_same}
use Rattle.sizes.specs.Words.{when◌then◌else◌, maybe, over, given, keep, find, at, cut, place, one_if, times, Counts}
use Rattle.sizes.specs.Allocator as Alloc
use Rattle.sizes.proofs.Tests.{and_left, and_right, if_on, maybe_on}
use Rattle.sizes.proofs.Lists.{Sought, hit, miss, sought, found_none, at_get, any_map, map_cut}
use Rattle.sizes.proofs.Tables.{one_true, times_at, times_cut, keep_all, keep_cut, find_map, find_any, any_in, any_none, other}
use Rattle.sizes.proofs.Collects.{at_inside}
use Rattle.sizes.proofs.AllocatorViews.{freed_view}
use Rattle.lifecycle.specs.FileDesc.{life_of, with_life, reset_life}
use Rattle.lifecycle.specs.Slots.{no_slot, slot_at, is_listed_as}
use Rattle.lifecycle.specs.FdtCalls.{Touched, file_at, waiting, files, sends, used, waits, ValidFdt, listed_place, transfers_of, unlisted_of, freed_of, removed_of, triggered_of}
use Rattle.lifecycle.specs.FdtCalls.{unlisted_slot}
use Rattle.lifecycle.proofs.FdtMeans.{is_not, Listed, listed_files, Removal, nobody, sent, waited, listed_but, ListRemoves, reset_file, Triggers}
use Rattle.lifecycle.specs.declared.filedesc.Time.{Time}
use Rattle.lifecycle.specs.declared.filedesc.FileDesc.{FileDesc}
use Rattle.lifecycle.specs.declared.slots.Slot.{Slot}
use Rattle.lifecycle.specs.declared.fdt.Fdt.{Fdt}
use Rattle.lifecycle.proofs.FdtFacts.{used_listed, used_sends, waits_not, listed_at, waits_at, absent, number_held, queue_place}
use Rattle.lifecycle.proofs.FdtViews.{differs, map_two, not_in, none_at, no_right, apart, others, in_waiting, waiting_used, at_each, seen_aside, seen_leaves}

-- ---- a number that is looked for

-- it was not found: no listed object has it
pub none_listed : (t : ℕ) (f : Fdt) → listed_place t f ≡ None → (k : ℕ) → is_listed_as t (slot_at f.slots k) ≡ false
unfolding is_listed_as
none_listed t f e = none_at no_slot (is_listed_as t) f.slots e refl

module _ (t : ℕ) (f : Fdt) (v : ValidFdt f) where
  -- so no object that waits has it
  none_waits : listed_place t f ≡ None → (j : ℕ) → 1 ≤ times j (waiting f) → eqb (file_at f.slots j).toi t ≡ false
  unfolding is_listed_as
  none_waits e j u =
      let y = slot_at f.slots j in
      no_right y.listed (eqb y.file.toi t) (none_listed t f e j) (and_left y.listed (not (sends y)) (in_waiting f v j u))

  -- it was found in transfer: no object that waits has it
  sent_waits : (k : ℕ) → Listed t f k → sends (slot_at f.slots k) ≡ true → (j : ℕ) → 1 ≤ times j (waiting f) → eqb (file_at f.slots j).toi t ≡ false
  sent_waits k li s j u = others f v t k li j (waiting_used f v j u) (differs k j (waiting f) (absent f v k (waits_not (slot_at f.slots k) s)) u)

  -- a listed object that is not in transfer stands in the queue
  in_queue : (k : ℕ) → Listed t f k → sends (slot_at f.slots k) ≡ false → place (λ j. eqb j k) (waiting f) ≡ None → ⊥
  in_queue k li s e =
      let a = not_in k (waiting f) e in
      let b = v.in_queue k in
      let c : waits (slot_at f.slots k) ≡ true = (λ i. li.is_listed i && not (s i)) in
      let d = ap one_if c in omega arith

  -- its place left out is its number left out
  pub cut_keep : (k n : ℕ) → Listed t f k → at (waiting f) n ≡ Some k → cut (files f) n ≡ keep (is_not t) (files f)
  cut_keep k n li e =
      let w = waits_at f v n k e in
      let h = keep_cut (is_not t) (file_at f.slots) (waiting f) n k e (ap not (eq-eqb (file_at f.slots k).toi t li.number))
      (λ j u. ap not (others f v t k li j (waiting_used f v j (let a = times_cut j (waiting f) n k e in omega arith)) (differs k j (cut (waiting f) n) w.gone u))) in
      sym (h ∙ map_cut (file_at f.slots) (waiting f) n)

  keep_none : ((j : ℕ) → 1 ≤ times j (waiting f) → eqb (file_at f.slots j).toi t ≡ false) → files f ≡ keep (is_not t) (files f)
  keep_none h = sym (keep_all (is_not t) (file_at f.slots) (waiting f) (λ j u. ap not (h j u)))

-- ---- remove

pub removed_cases : (t : ℕ) (f : Fdt) → ValidFdt f → Removal t f (removed_of t f)
unfolding removed_of unlisted_of freed_of
removed_cases t f v = maybe_on (Removal t f) (listed_place t f)
    (λ e. nobody (record { unlisted = none_listed t f e; queue = keep_none t f v (none_waits t f v e); unchanged = refl }))
    (λ k e.
    let li = listed_at t f k e in
    let y = slot_at f.slots k in
    if_on (λ g. Removal t f (record { yes = true; fdt = g })) (sends y)
    (λ s. sent k (record {
      found = li;
      is_sent = s;
      queue = keep_none t f v (sent_waits t f v k li s);
      answer = refl;
      tois = refl;
      view = seen_aside f v k li.inn (unlisted_slot y) f.tois (waits_not y s);
    }))
    (λ s. maybe_on (λ g. Removal t f (record { yes = true; fdt = g })) (place (λ j. eqb j k) (waiting f))
    (λ q. absurd (in_queue t f v k li s q))
    (λ n q.
    let st = queue_place f v k n q in
    let nu = subst (λ m. 1 ≤ times m (Alloc.bound f.tois)) li.number (number_held f v k li.inn (used_listed y li.is_listed)) in
    waited k n (record {
      found = li;
      waits = waits_at f v n k st;
      queue = cut_keep t f v k n li st;
      answer = refl;
      number = freed_view f.tois v.tois t nu;
      view = seen_leaves f v k li.inn no_slot (Alloc.dropped_of false t f.tois).allocator n st;
    }))))

-- the answer
pub removed_answer : (t : ℕ) (f : Fdt) → (removed_of t f).yes ≡ given (listed_place t f)
unfolding removed_of
removed_answer t f = maybe_on (λ (x : Touched). x.yes ≡ given (listed_place t f)) (listed_place t f) (λ e. sym (ap given e)) (λ k e. sym (ap given e))

still : (a b : Bool) → (a && b) ≡ false → a ≡ (a && not b)
still true b e = sym (ap not e)
still false b e = refl

kept : (a b : Bool) → b ≡ false → a ≡ (a && not b)
kept true b e = sym (ap not e)
kept false b e = refl

dropped : (a b : Bool) → b ≡ true → false ≡ (a && not b)
dropped true b e = sym (ap not e)
dropped false b e = refl

pub removed_view : (t : ℕ) (f : Fdt) → ValidFdt f → ListRemoves t f (removed_of t f).fdt
unfolding is_listed_as
removed_view t f v = go (removed_of t f) (removed_cases t f v)
  where
    go : (r : Touched) → Removal t f r → ListRemoves t f r.fdt
    go r (nobody h) = subst (λ (x : Touched). ListRemoves t f x.fdt) (sym h.unchanged) (record {
      queue = h.queue;
      sent_same = λ j. refl;
      file_same = λ j s. refl;
      unlists = λ j s. (let y = slot_at f.slots j in still y.listed (eqb y.file.toi t) (h.unlisted j));
    })
    go r (sent k h) = record {
      queue = h.view.queue ∙ h.queue;
      sent_same = at_each (λ j. sends (slot_at r.fdt.slots j) ≡ sends (slot_at f.slots j)) k (ap sends h.view.new) (λ j n. ap sends (h.view.same j n));
      file_same = at_each (λ j. sends (slot_at f.slots j) ≡ true → file_at r.fdt.slots j ≡ file_at f.slots j) k
          (λ z. ap (λ (x : Slot). x.file) h.view.new) (λ j n z. ap (λ (x : Slot). x.file) (h.view.same j n));
      unlists = at_each (λ j. sends (slot_at f.slots j) ≡ true → (slot_at r.fdt.slots j).listed ≡ listed_but t (slot_at f.slots j)) k
          (λ z. ap (λ (x : Slot). x.listed) h.view.new ∙ dropped (slot_at f.slots k).listed (eqb (file_at f.slots k).toi t) (eq-eqb (file_at f.slots k).toi t h.found.number))
          (λ j n z. ap (λ (x : Slot). x.listed) (h.view.same j n) ∙ kept (slot_at f.slots j).listed (eqb (file_at f.slots j).toi t) (others f v t k h.found j (used_sends (slot_at f.slots j) z) n));
    }
    go r (waited k m h) = record {
      queue = h.view.queue ∙ h.queue;
      sent_same = at_each (λ j. sends (slot_at r.fdt.slots j) ≡ sends (slot_at f.slots j)) k (ap sends h.view.new ∙ sym h.waits.unsent) (λ j n. ap sends (h.view.same j n));
      file_same = at_each (λ j. sends (slot_at f.slots j) ≡ true → file_at r.fdt.slots j ≡ file_at f.slots j) k
          (λ z. absurd (false≢true (sym h.waits.unsent ∙ z))) (λ j n z. ap (λ (x : Slot). x.file) (h.view.same j n));
      unlists = at_each (λ j. sends (slot_at f.slots j) ≡ true → (slot_at r.fdt.slots j).listed ≡ listed_but t (slot_at f.slots j)) k
          (λ z. absurd (false≢true (sym h.waits.unsent ∙ z)))
          (λ j n z. ap (λ (x : Slot). x.listed) (h.view.same j n) ∙ kept (slot_at f.slots j).listed (eqb (file_at f.slots j).toi t) (others f v t k h.found j (used_sends (slot_at f.slots j) z) n));
    }

-- ---- trigger

module _ (t : ℕ) (start : Time) (f : Fdt) (v : ValidFdt f) where
  reset_other : (o : FileDesc) → eqb o.toi t ≡ false → o ≡ reset_file t start o
  reset_other o e = rw e

  reset_own : (o : FileDesc) → o.toi ≡ t → with_life o (reset_life start o.life) ≡ reset_file t start o
  reset_own o e = rw (eq-eqb o.toi t e)

  -- no object that waits has the number
  triggers_none : ((j : ℕ) → 1 ≤ times j (waiting f) → eqb (file_at f.slots j).toi t ≡ false) → Triggers t start f f
  triggers_none h = record {
    queue = map_two (file_at f.slots) (file_at f.slots) (reset_file t start) (waiting f) (λ j u. reset_other (file_at f.slots j) (h j u));
    sent_same = λ j. refl;
    same = λ j s. refl;
  }

  pub triggered_view : Triggers t start f (triggered_of t start f).fdt
  unfolding triggered_of reset_life
  triggered_view = maybe_on (λ (x : Touched). Triggers t start f x.fdt) (listed_place t f)
      (λ e. triggers_none (none_waits t f v e))
      (λ k e.
      let li = listed_at t f k e in
      let y = slot_at f.slots k in
      if_on (Triggers t start f) (sends y)
      (λ s. triggers_none (sent_waits t f v k li s))
      (λ s.
      let new : Slot = record { holders = y.holders; listed = y.listed; file = with_life y.file (reset_life start y.file.life) } in
      let l = set f.slots k new in
      let here = get_or-set_same f.slots k new no_slot li.inn in
      record {
        queue = map_two (file_at l) (file_at f.slots) (reset_file t start) (waiting f)
            (at_each (λ j. 1 ≤ times j (waiting f) → file_at l j ≡ reset_file t start (file_at f.slots j)) k
            (λ u. ap (λ (x : Slot). x.file) here ∙ reset_own y.file li.number)
            (λ j n u. ap (λ (x : Slot). x.file) (other no_slot f.slots k new j n) ∙ reset_other (file_at f.slots j) (others f v t k li j (waiting_used f v j u) n)));
        sent_same = at_each (λ j. sends (slot_at l j) ≡ sends (slot_at f.slots j)) k (ap sends here) (λ j n. ap sends (other no_slot f.slots k new j n));
        same = at_each (λ j. sends (slot_at f.slots j) ≡ true → slot_at l j ≡ slot_at f.slots j) k
            (λ z. absurd (false≢true (sym s ∙ z))) (λ j n z. other no_slot f.slots k new j n);
      }))

  -- the answer
  pub triggered_answer : (triggered_of t start f).yes ≡ given (listed_place t f)
  unfolding triggered_of
  triggered_answer = maybe_on (λ (x : Touched). x.yes ≡ given (listed_place t f)) (listed_place t f) (λ e. sym (ap given e)) (λ k e. sym (ap given e))

-- ---- the object with a number

pub given_none : {A : Type 0} (o : Option A) → given o ≡ false → o ≡ None
given_none None e = refl
given_none (Some a) e = absurd (true≢false e)

-- a search of two lists, one after the other
find_append : {A : Type 0} (ok : A → Bool) (a b : List A) → find ok (a ++ b) ≡ maybe (find ok b) Some (find ok a)
find_append ok [] b = refl
find_append ok (x ∷ a) b = elim (ok x) as (λ y. (when y then Some x else find ok (a ++ b)) ≡ maybe (find ok b) Some (when y then Some x else find ok a))
    [ true ↦ refl | false ↦ find_append ok a b ]

-- the only number of a list that passes is found
find_only : (ok : ℕ → Bool) (l : List ℕ) (k : ℕ) → 1 ≤ times k l → ok k ≡ true → ((j : ℕ) → 1 ≤ times j l → ok j ≡ true → j ≡ k) → find ok l ≡ Some k
find_only ok l k h e only = go (sought ok l)
  where
    go : Sought ok l → find ok l ≡ Some k
    go (hit m j r) = r.first ∙ ap Some (only j (times_at l m j r.stands) r.passes)
    go (miss p u) = absurd (false≢true (sym (ap given (found_none ok l p).0) ∙ find_any ok l ∙ sym (any_map ok (λ j. j) l) ∙ any_in ok (λ j. j) l k h e))

-- none passes, so none is found
find_nothing : (ok : ℕ → Bool) (l : List ℕ) → ((j : ℕ) → ok j ≡ false) → find ok l ≡ None
find_nothing ok [] h = refl
find_nothing ok (k ∷ l) h = rw (h k) (find_nothing ok l h)

find_listed : (t : ℕ) (s : List Slot) (l : List ℕ) → find (λ (o : FileDesc). eqb o.toi t) (listed_files s l) ≡ over (file_at s) (find (λ k. is_listed_as t (slot_at s k)) l)
unfolding is_listed_as
find_listed t s [] = refl
find_listed t s (k ∷ l) = go (slot_at s k).listed (eqb (file_at s k).toi t) refl (find_listed t s l)
  where
    ok : FileDesc → Bool
    ok o = eqb o.toi t

    go : (a b : Bool) → eqb (file_at s k).toi t ≡ b → find ok (listed_files s l) ≡ over (file_at s) (find (λ k. is_listed_as t (slot_at s k)) l)
        → find ok (maybe (listed_files s l) (λ o. o ∷ listed_files s l) (when a then Some (file_at s k) else None)) ≡ over (file_at s) (when a && b then Some k else find (λ k. is_listed_as t (slot_at s k)) l)
    go false b e r = r
    go true true e r = rw e
    go true false e r = rw e r

module _ (t : ℕ) (f : Fdt) (v : ValidFdt f) where
  is_toi : FileDesc → Bool
  is_toi o = eqb o.toi t

  -- a held object with the number of a listed one is that one
  own : (k : ℕ) → Listed t f k → (j : ℕ) → used (slot_at f.slots j) ≡ true → eqb (file_at f.slots j).toi t ≡ true → j ≡ k
  own k li j u h = apart f v j k u (used_listed (slot_at f.slots k) li.is_listed) (eqb-true (file_at f.slots j).toi t h ∙ sym li.number)

  find_none : ((j : ℕ) → 1 ≤ times j (waiting f) → eqb (file_at f.slots j).toi t ≡ false) → find is_toi (files f) ≡ None
  unfolding is_toi
  find_none h = given_none (find is_toi (files f)) (find_any is_toi (files f) ∙ any_none is_toi (file_at f.slots) (waiting f) h)

  find_own : (k n : ℕ) → Listed t f k → at (waiting f) n ≡ Some k → find is_toi (files f) ≡ Some (file_at f.slots k)
  unfolding is_toi
  find_own k n li e = find_map is_toi (file_at f.slots) (waiting f)
      ∙ ap (over (file_at f.slots))
      (find_only (λ j. is_toi (file_at f.slots j)) (waiting f) k (times_at (waiting f) n k e) (eq-eqb (file_at f.slots k).toi t li.number)
      (λ j u h. own k li j (waiting_used f v j u) h))

  -- it is the one in the slot that is found, if that waits
  pub find_view : find (λ (o : FileDesc). eqb o.toi t) (files f) ≡ maybe None (λ k. when sends (slot_at f.slots k) then None else Some (file_at f.slots k)) (listed_place t f)
  unfolding is_toi
  find_view = maybe_on (λ o. find is_toi (files f) ≡ o) (listed_place t f)
      (λ e. find_none (none_waits t f v e))
      (λ k e.
      let li = listed_at t f k e in
      if_on (λ o. find is_toi (files f) ≡ o) (sends (slot_at f.slots k))
      (λ s. find_none (sent_waits t f v k li s))
      (λ s. maybe_on (λ o. find is_toi (files f) ≡ Some (file_at f.slots k)) {d = 0} {g = λ n. n} (place (λ j. eqb j k) (waiting f))
      (λ q. absurd (in_queue t f v k li s q))
      (λ n q. find_own k n li (queue_place f v k n q))))

  -- the listed slot in transfer with the number is the one that is found, if that is in transfer
  pub find_sent : find (λ (y : Slot). sends y && is_listed_as t y) f.slots ≡ maybe None (λ k. when sends (slot_at f.slots k) then Some (slot_at f.slots k) else None) (listed_place t f)
  unfolding is_listed_as
  find_sent = go (sought sent_as f.slots)
    where
      sent_as : Slot → Bool
      sent_as y = sends y && is_listed_as t y

      go : Sought sent_as f.slots → find sent_as f.slots ≡ maybe None (λ k. when sends (slot_at f.slots k) then Some (slot_at f.slots k) else None) (listed_place t f)
      go (hit m x h) = (
          let y = slot_at f.slots m in
          let a = (at_get no_slot f.slots m x h.stands).0 in
          let o : (sends y && is_listed_as t y) ≡ true = subst (λ z. sent_as z ≡ true) (sym a) h.passes in
          let s = and_left (sends y) (is_listed_as t y) o in
          let g = and_right (sends y) (is_listed_as t y) o in
          h.first ∙ ap Some (sym a) ∙ maybe_on (λ z. Some y ≡ z) (listed_place t f)
          (λ e. absurd (false≢true (sym (none_listed t f e m) ∙ g)))
          (λ k e.
          let q = own k (listed_at t f k e) m (used_sends y s) (and_right y.listed (eqb y.file.toi t) g) in
          subst (λ j. Some y ≡ (when sends (slot_at f.slots j) then Some (slot_at f.slots j) else None)) q (rw s)))
      go (miss p u) = (found_none sent_as f.slots p).0 ∙ maybe_on (λ (z : Option Slot). None ≡ z) (listed_place t f) (λ e. refl) (λ k e.
          let y = slot_at f.slots k in
          let li = listed_at t f k e in
          if_on (λ (z : Option Slot). None ≡ z) (sends y)
          (λ s. absurd (false≢true (sym (u k y (at_inside no_slot f.slots k li.inn)) ∙ (λ i. s i && (li.is_listed i && eq-eqb y.file.toi t li.number i)))))
          (λ s. refl))

  -- the total of the object that waits with the number, else of the listed one in transfer, else none
  pub transfers_view : transfers_of t f ≡ maybe
      (over (λ (y : Slot). y.file.life.total) (find (λ (y : Slot). sends y && is_listed_as t y) f.slots))
      (λ (o : FileDesc). Some (life_of o.life).total)
      (find (λ (o : FileDesc). eqb o.toi t) (files f))
  unfolding transfers_of
  transfers_view = both (listed_place t f) ∙ (λ i. maybe (over (λ (y : Slot). y.file.life.total) (sym find_sent i)) (λ (o : FileDesc). Some (life_of o.life).total) (sym find_view i))
    where
      both : (o : Option ℕ) → maybe None (λ k. Some (slot_at f.slots k).file.life.total) o ≡ maybe
          (over (λ (y : Slot). y.file.life.total) (maybe None (λ k. when sends (slot_at f.slots k) then Some (slot_at f.slots k) else None) o))
          (λ (o : FileDesc). Some (life_of o.life).total)
          (maybe None (λ k. when sends (slot_at f.slots k) then None else Some (file_at f.slots k)) o)
      both None = refl
      both (Some k) = elim (sends (slot_at f.slots k)) as (λ b. Some (slot_at f.slots k).file.life.total ≡ maybe
          (over (λ (y : Slot). y.file.life.total) (when b then Some (slot_at f.slots k) else None))
          (λ (o : FileDesc). Some (life_of o.life).total)
          (when b then None else Some (file_at f.slots k))) [ true ↦ refl | false ↦ refl ]

  -- with any list that has each slot in transfer once: the listed objects are those that wait, then the listed ones of that list
  module _ (l : List ℕ) (c : Counts no_slot sends f.slots l) where
    pub listed_view : find (λ (o : FileDesc). eqb o.toi t) (files f ++ listed_files f.slots l) ≡ over (file_at f.slots) (listed_place t f)
    unfolding is_listed_as
    listed_view =
        find_append (λ (o : FileDesc). eqb o.toi t) (files f) (listed_files f.slots l)
        ∙ (λ i. maybe (find_listed t f.slots l i) Some (find_view i))
        ∙ go (listed_place t f) refl
      where
        ok : ℕ → Bool
        ok k = is_listed_as t (slot_at f.slots k)

        in_list : (j : ℕ) → 1 ≤ times j l → sends (slot_at f.slots j) ≡ true
        in_list j u = one_true (sends (slot_at f.slots j)) (let a = c j in omega arith)

        found : (k : ℕ) → Listed t f k → (b : Bool) → sends (slot_at f.slots k) ≡ b → maybe (over (file_at f.slots) (find ok l)) Some (when b then None else Some (file_at f.slots k)) ≡ Some (file_at f.slots k)
        found k li true s = ap (over (file_at f.slots))
            (find_only ok l k (let a = c k in let b = ap one_if s in omega arith) (λ i. li.is_listed i && eq-eqb (file_at f.slots k).toi t li.number i)
            (λ j u h. let y = slot_at f.slots j in own k li j (used_sends y (in_list j u)) (and_right y.listed (eqb y.file.toi t) h)))
        found k li false s = refl

        go : (o : Option ℕ) → listed_place t f ≡ o
            → maybe (over (file_at f.slots) (find ok l)) Some (maybe None (λ k. when sends (slot_at f.slots k) then None else Some (file_at f.slots k)) o) ≡ over (file_at f.slots) o
        go None e = ap (over (file_at f.slots)) (find_nothing ok l (none_listed t f e))
        go (Some k) e = found k (listed_at t f k e) (sends (slot_at f.slots k)) refl

    -- is one listed with the number
    pub listed_given : given (listed_place t f) ≡ given (find (λ (o : FileDesc). eqb o.toi t) (files f ++ listed_files f.slots l))
    listed_given = go (listed_place t f) ∙ sym (ap given listed_view)
      where
        go : (o : Option ℕ) → given o ≡ given (over (file_at f.slots) o)
        go None = refl
        go (Some k) = refl

    -- its total
    pub transfers_listed : transfers_of t f ≡ maybe None (λ (o : FileDesc). Some (life_of o.life).total) (find (λ (o : FileDesc). eqb o.toi t) (files f ++ listed_files f.slots l))
    unfolding transfers_of
    transfers_listed = go (listed_place t f) ∙ sym (ap (maybe None (λ (o : FileDesc). Some (life_of o.life).total)) listed_view)
      where
        go : (o : Option ℕ) → maybe None (λ k. Some (slot_at f.slots k).file.life.total) o ≡ maybe None (λ (o : FileDesc). Some (life_of o.life).total) (over (file_at f.slots) o)
        go None = refl
        go (Some k) = refl
