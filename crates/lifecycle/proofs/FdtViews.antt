-- Take, done and publish for the layer above: the objects that wait, in order, and the slots in transfer.
use mathlib.Core.Path.{◌≡◌, refl, sym, ◌∙◌, ap, subst}
use mathlib.Core.Bool.{Bool, true, false, not, ◌&&◌, true≢false, false≢true}
use Rattle.std.specs.Prelude.{None, Some}
use mathlib.Core.List.{List, [], ◌∷◌, ◌++◌, map}
use Prim.Native.Nat.{ℕ, suc, ◌+◌, ◌-◌, ◌≤◌, ◌<◌}
use native.Mathlib.Omega.{arith}
use lib.Dec.{eqb}
use borrow.Author.Tests.{eqb-true, eq-eqb, ne_eqb}
use lib.ListN.{length, set, get_or, length-set, get_or-map}
use lib.Seq.{get_or-set_same}
use Rattle.sizes.specs.Words.{when◌then◌else◌, given, over, at, cut, place, shut, one_if, times}
use Rattle.sizes.specs.Allocator as Alloc
use Rattle.sizes.specs.declared.toiallocator.ToiAllocator.{ToiAllocator}
use Rattle.sizes.proofs.Tests.{Tested, pass, fail, tested, and_left, none≢some, if_on, maybe_on}
use Rattle.sizes.proofs.Lists.{Hit, Sought, hit, miss, sought, found_first, found_none, at_map, map_append, map_cut, has_none}
use Rattle.sizes.proofs.Tables.{one_true, map_in, find_any, inside, other, none_get}
use Rattle.sizes.proofs.Collects.{adds, at_inside, collect_set, collect_at}
use Rattle.sizes.proofs.AllocatorViews.{held_split, freed_view}
use Rattle.lifecycle.specs.FileDesc.{startable_file}
use Rattle.lifecycle.specs.Slots.{no_slot, slot_at, queue_startable, published_slot}
use Rattle.lifecycle.specs.FdtCalls.{file_at, waiting, files, sends, used, waits, ValidFdt, with_slots, with_objects, taken_at, taken_of, goes_back, back_of, let_go_of, done_of}
use Rattle.lifecycle.specs.FdtCalls.{started_slot, ended_slot}
use Rattle.lifecycle.proofs.FdtMeans.{Listed, Seen, Takes, nothing, takes, Ends, idle, back, gone, published_file}
use Rattle.lifecycle.specs.declared.slots.Slot.{Slot}
use Rattle.lifecycle.specs.declared.fdt.Fdt.{Fdt}
use Rattle.lifecycle.proofs.FdtFacts.{toi_in, toi_used, used_listed, used_sends, waits_not, waits_at, absent, room, number_held, waiting_shut, waiting_push}

-- a number that is in is not one that is out
pub differs : (k j : ℕ) (l : List ℕ) → times k l ≡ 0 → 1 ≤ times j l → eqb k j ≡ false
differs k j l a b = ne_eqb k j (λ e. let z = ap (λ i. times i l) e in omega arith)

-- a list in which k is not sees nothing of a change of k
pub files_off : (t : List Slot) (k : ℕ) (w : Slot) (l : List ℕ) → times k l ≡ 0 → map (file_at (set t k w)) l ≡ map (file_at t) l
files_off t k w l h = map_in (file_at (set t k w)) (file_at t) l (λ j u. ap (λ (y : Slot). y.file) (other no_slot t k w j (differs k j l h u)))

-- a map through another
pub map_two : {A B : Type 0} (g : ℕ → B) (f : ℕ → A) (h : A → B) (l : List ℕ) → ((k : ℕ) → 1 ≤ times k l → g k ≡ h (f k)) → map g l ≡ map h (map f l)
map_two g f h l u = map_in g (λ k. h (f k)) l u ∙ through l
  where
    through : (l : List ℕ) → map (λ k. h (f k)) l ≡ map h (map f l)
    through [] = refl
    through (k ∷ l) = ap (λ r. h (f k) ∷ r) (through l)

pub place_map : {A B : Type 0} (ok : B → Bool) (f : A → B) (l : List A) → place ok (map f l) ≡ place (λ a. ok (f a)) l
place_map ok f [] = refl
place_map ok f (a ∷ l) = ap (λ o. when ok (f a) then Some 0 else over suc o) (place_map ok f l)

-- what a search for a slot number, or for a slot, did not find
pub not_in : (k : ℕ) (l : List ℕ) → place (λ j. eqb j k) l ≡ None → times k l ≡ 0
not_in k l e = has_none k l (sym (find_any (λ j. eqb j k) l) ∙ ap given (found_none (λ j. eqb j k) l e).0)

pub none_at : {A : Type 0} (z : A) (ok : A → Bool) (l : List A) → place ok l ≡ None → ok z ≡ false → (k : ℕ) → ok (get_or l k z) ≡ false
none_at z ok l e n = go (sought ok l)
  where
    go : Sought ok l → (k : ℕ) → ok (get_or l k z) ≡ false
    go (hit m a h) k = absurd (none≢some (sym e ∙ h.found))
    go (miss p u) k = none_get z ok l u n k

-- of what is listed, what passes
pub no_right : (a b : Bool) → (a && b) ≡ false → a ≡ true → b ≡ false
no_right true b e f = e
no_right false b e f = absurd (false≢true f)

-- ---- numbers are distinct

module _ (f : Fdt) (v : ValidFdt f) where
  -- two held objects do not have one number
  pub apart : (j k : ℕ) → used (slot_at f.slots j) ≡ true → used (slot_at f.slots k) ≡ true → (file_at f.slots j).toi ≡ (file_at f.slots k).toi → j ≡ k
  apart j k a b e = go (tested (eqb k j))
    where
      go : Tested (eqb k j) → j ≡ k
      go (pass q) = sym (eqb-true k j q)
      go (fail q) = absurd (
          let y = slot_at f.slots k in
          let n = y.file.toi in
          let t = set f.slots k no_slot in
          let ink = inside no_slot used f.slots k refl b in
          let inj = inside no_slot used f.slots j refl a in
          let z = other no_slot f.slots k no_slot j q in
          let g = collect_at toi_in t j (slot_at t j) n (at_inside no_slot t j (let l = length-set f.slots k no_slot in omega arith))
          (ap toi_in z ∙ toi_used (slot_at f.slots j) a ∙ ap Some e) in
          let c = collect_set toi_in n f.slots k y no_slot (at_inside no_slot f.slots k ink) in
          let d = ap (adds n) (toi_used y b) in
          let r = ap one_if (eq-eqb n n refl) in
          let o = v.owned n in
          let h = held_split f.tois n in
          let i = v.tois.once n in omega arith)

  -- no other held object has the number of k
  pub others : (t k : ℕ) → Listed t f k → (j : ℕ) → used (slot_at f.slots j) ≡ true → eqb k j ≡ false → eqb (file_at f.slots j).toi t ≡ false
  others t k li j u q = ne_eqb (file_at f.slots j).toi t (λ e. let z = eq-eqb k j (sym (apart j k u (used_listed (slot_at f.slots k) li.is_listed) (e ∙ sym li.number))) in absurd (true≢false (sym z ∙ q)))

  -- what waits is listed and not in transfer
  pub in_waiting : (j : ℕ) → 1 ≤ times j (waiting f) → waits (slot_at f.slots j) ≡ true
  in_waiting j h = one_true (waits (slot_at f.slots j)) (let a = v.in_queue j in omega arith)

  pub waiting_used : (j : ℕ) → 1 ≤ times j (waiting f) → used (slot_at f.slots j) ≡ true
  waiting_used j h = let y = slot_at f.slots j in used_listed y (and_left y.listed (not (sends y)) (in_waiting j h))

-- ---- slot k changed, and the queue with it

-- what holds of the changed slot and of each other holds of all
pub at_each : (P : ℕ → Type 0) (k : ℕ) → P k → ((j : ℕ) → eqb k j ≡ false → P j) → (j : ℕ) → P j
at_each P k h o j = go (tested (eqb k j))
  where
    go : Tested (eqb k j) → P j
    go (pass e) = subst P (eqb-true k j e) h
    go (fail e) = o j e

module _ (f : Fdt) (v : ValidFdt f) (k : ℕ) (inn : k < length f.slots) (w : Slot) (a : ToiAllocator) where
  -- it does not wait, and the queue stays
  pub seen_aside : waits (slot_at f.slots k) ≡ false → Seen f (files f) k w (with_objects f a (set f.slots k w) f.queue f.queued)
  seen_aside e = record {
    queue = files_off f.slots k w (waiting f) (absent f v k e);
    new = get_or-set_same f.slots k w no_slot inn;
    same = λ j n. other no_slot f.slots k w j n;
  }

  -- it comes in at the queue's end
  pub seen_joins : waits (slot_at f.slots k) ≡ false → Seen f (files f ++ (w.file ∷ [])) k w (with_objects f a (set f.slots k w) (set f.queue f.queued k) (f.queued + 1))
  seen_joins e = record {
    queue =
        let g = file_at (set f.slots k w) in
        ap (map g) (waiting_push f v k (room f v k inn e)) ∙ map_append g (waiting f) (k ∷ [])
        ∙ (λ i. files_off f.slots k w (waiting f) (absent f v k e) i ++ ((get_or-set_same f.slots k w no_slot inn i).file ∷ []));
    new = get_or-set_same f.slots k w no_slot inn;
    same = λ j n. other no_slot f.slots k w j n;
  }

  -- it leaves place n of the queue
  pub seen_leaves : (n : ℕ) → at (waiting f) n ≡ Some k → Seen f (cut (files f) n) k w (with_objects f a (set f.slots k w) (shut 0 f.queue n) (f.queued - 1))
  seen_leaves n e =
      let h = waits_at f v n k e in
      record {
        queue = ap (map (file_at (set f.slots k w))) (waiting_shut f v n h.early)
            ∙ files_off f.slots k w (cut (waiting f) n) h.gone
            ∙ map_cut (file_at f.slots) (waiting f) n;
        new = get_or-set_same f.slots k w no_slot inn;
        same = λ j n. other no_slot f.slots k w j n;
      }

-- ---- take

module _ (f : Fdt) (v : ValidFdt f) where
  pub startable_place : (p now : ℕ) → place (startable_file p now) (files f) ≡ place (queue_startable f.slots p now) (waiting f)
  unfolding queue_startable
  startable_place p now = place_map (startable_file p now) (file_at f.slots) (waiting f)

  pub taken_view : (p now : ℕ) → Takes p now f (taken_of p now f)
  unfolding taken_of taken_at
  taken_view p now = maybe_on (Takes p now f) (place (queue_startable f.slots p now) (waiting f))
      (λ e. nothing (startable_place p now ∙ e) refl)
      (λ n e.
      let h = found_first (queue_startable f.slots p now) (waiting f) n e in
      let k = h.0 in
      let w = waits_at f v n k h.1.stands in
      let g = found_first (startable_file p now) (files f) n (startable_place p now ∙ e) in
      let there : at (files f) n ≡ Some (file_at f.slots k) = at_map (file_at f.slots) (waiting f) n ∙ ap (over (file_at f.slots)) h.1.stands in
      let same : g.0 ≡ file_at f.slots k = (let a = g.1.stands in cc) in
      takes n k (subst (Hit (startable_file p now) (files f) n) same g.1) w (ap Some w.here)
      (subst (λ j. Seen f (cut (files f) n) k (started_slot now (slot_at f.slots k)) (taken_at now f n j)) (sym w.here)
      (seen_leaves f v k w.inn (started_slot now (slot_at f.slots k)) f.tois n h.1.stands)))

-- ---- done

pub done_view : (f : Fdt) → ValidFdt f → (now k : ℕ) → Ends now k f (done_of now k f)
unfolding done_of back_of let_go_of
done_view f v now k =
    let y = slot_at f.slots k in
    if_on (Ends now k f) (sends y)
    (λ s.
    let inn = inside no_slot sends f.slots k refl s in
    if_on (Ends now k f) (goes_back now y)
    (λ g. back s g refl (seen_joins f v k inn (ended_slot now y) f.tois (waits_not y s)))
    (λ g. gone s g (freed_view f.tois v.tois y.file.toi (number_held f v k inn (used_sends y s)))
    (seen_aside f v k inn no_slot (Alloc.dropped_of false y.file.toi f.tois).allocator (waits_not y s))))
    (λ s. idle s refl)

-- ---- publish

pub published_at : (t : List Slot) (k : ℕ) → slot_at (map published_slot t) k ≡ published_slot (slot_at t k)
unfolding published_slot
published_at t k = get_or-map published_slot t k no_slot

pub published_view : (f : Fdt) → ValidFdt f → files (with_slots f (map published_slot f.slots)) ≡ map published_file (files f)
unfolding published_slot
published_view f v = map_two (file_at (map published_slot f.slots)) (file_at f.slots) published_file (waiting f) (λ k u.
    let y = slot_at f.slots k in
    ap (λ (z : Slot). z.file) (published_at f.slots k) ∙ marked y (and_left y.listed (not (sends y)) (in_waiting f v k u)))
  where
    marked : (y : Slot) → y.listed ≡ true → (published_slot y).file ≡ published_file y.file
    marked y e = rw e
