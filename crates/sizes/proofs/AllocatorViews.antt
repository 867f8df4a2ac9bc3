-- What each call of the allocator does to the numbers of loose reservations and to those of objects.
use Rattle.std.proofs.Common.{◌≡◌, ℕ, suc, ◌+◌, ◌<◌, ◌≤◌, Bool, true, false, not, ◌&&◌, eqb, ltb, List, [], ◌∷◌, ◌++◌, map, sym, refl, ap, ◌∙◌, true≢false, append-nil, arith, le-ltb, lt-ltb, eqb-true}
use mathlib.Core.Bool.{false≢true}
use Rattle.std.specs.Prelude.{Option, None, Some, Ok, Err}
use Rattle.sizes.specs.declared.refusal.Refusal.TheVariants as Because
use borrow.Author.Tests.{not-true}
use Rattle.sizes.specs.Words.{when◌then◌else◌, maybe, given, keep, has, at, place, collect, one_if, times}
use Rattle.sizes.specs.Limits.{toi_entries}
use Rattle.sizes.specs.Allocator.{noted, held, loose_in, bound_in, loose, bound, entry_is, Allocated, Changed, new_allocator, noting, moved_on, allocated_of, bound_at, entry_gone, unchanged, changed, claimed_of, dropped_of, ValidAllocator}
use Rattle.sizes.specs.declared.toiallocator.Entry.{Entry}
use Rattle.sizes.specs.declared.toiallocator.ToiAllocator.{ToiAllocator}
use Rattle.sizes.specs.Toi.{first_toi, next_toi}
use Rattle.sizes.proofs.Tests.{and_left, and_right, if_on, maybe_on}
use Rattle.sizes.proofs.Lists.{Sought, hit, miss, sought, has_none}
use Rattle.sizes.proofs.Collects.{keep_absent, adds, collect_append, collect_skip, collect_unset, collect_cons, collect_cut, collect_set, collect_keep}
use Rattle.sizes.proofs.AllocatorLaws.{noted_noting, noted_bound, noted_without, loose_found}

-- an object's number is gone
pub record Freed (t : ℕ) (a b : ToiAllocator) : Type 0 where
  pub next_same : b.next ≡ a.next
  pub loose_same : loose b ≡ loose a
  pub one_less : (n : ℕ) → times n (bound b) + one_if (eqb t n) ≡ times n (bound a)

-- a number that is held is loose or an object's
split_in : (n : ℕ) (l : List Entry) → times n (map (λ (e : Entry). e.toi) l) ≡ times n (collect loose_in l) + times n (collect bound_in l)
split_in n [] = refl
split_in n (e ∷ l) =
    let a = split_in n l in
    elim e.loose as (λ b. one_if (eqb e.toi n) + times n (map (λ (e : Entry). e.toi) l)
    ≡ times n (maybe (collect loose_in l) (λ k. k ∷ collect loose_in l) (when b then Some e.toi else None)) + times n (maybe (collect bound_in l) (λ k. k ∷ collect bound_in l) (when b then None else Some e.toi)))
    [ true ↦ omega arith | false ↦ omega arith ]

pub held_split : (a : ToiAllocator) (n : ℕ) → times n (held a) ≡ times n (loose a) + times n (bound a)
held_split a n = split_in n (noted a)

-- no entry is found: the number is no object's
bound_none : (t : ℕ) (l : List Entry) → ((i : ℕ) (e : Entry) → at l i ≡ Some e → entry_is t false e ≡ false) → times t (collect bound_in l) ≡ 0
unfolding entry_is
bound_none t [] h = refl
bound_none t (e ∷ l) h =
    let a = collect_cons bound_in t e l in
    let b = bound_none t l (λ i. h (suc i)) in
    let c = one e.loose (h 0 e refl) in omega arith
  where
    one : (x : Bool) → (eqb e.toi t && not x) ≡ false → adds t (when x then None else Some e.toi) ≡ 0
    one true q = refl
    one false q = head (eqb e.toi t) q
      where
        head : (y : Bool) → (y && true) ≡ false → one_if y ≡ 0
        head true q = absurd (true≢false q)
        head false q = refl

-- what a found entry gives
module _ (t : ℕ) (e : Entry) where
  loose_entry : entry_is t true e ≡ true → (loose_in e ≡ Some t) × (bound_in e ≡ None)
  unfolding entry_is
  loose_entry h =
      let n = eqb-true e.toi t (and_left (eqb e.toi t) e.loose h) in
      let l = and_right (eqb e.toi t) e.loose h in
      (rw (l, n), rw l)

  bound_entry : entry_is t false e ≡ true → (loose_in e ≡ None) × (bound_in e ≡ Some t)
  unfolding entry_is
  bound_entry h =
      let n = eqb-true e.toi t (and_left (eqb e.toi t) (not e.loose) h) in
      let l = not-true e.loose (and_right (eqb e.toi t) (not e.loose) h) in
      (rw l, rw (l, n))

-- what a call of allocate makes of the allocator
pub allocated_room : (a : ToiAllocator) (flag : Bool) → a.entered < toi_entries → (allocated_of flag a).allocator ≡ moved_on (noting flag a)
unfolding allocated_of
allocated_room a flag h = rw (lt-ltb a.entered toi_entries h)

pub allocated_full : (a : ToiAllocator) (flag : Bool) → toi_entries ≤ a.entered → (allocated_of flag a).allocator ≡ a
unfolding allocated_of
allocated_full a flag h = rw (le-ltb a.entered toi_entries h)

-- a call of allocate, case by case: it gives the stored next number, or all entries are in use and nothing changes
pub allocated_cases : (P : Allocated → Type 0) (flag : Bool) (a : ToiAllocator)
    → (ltb a.entered toi_entries ≡ true → P (record { answer = Ok a.next; allocator = moved_on (noting flag a) }))
    → (ltb a.entered toi_entries ≡ false → P (record { answer = Err Because.Full; allocator = a })) → P (allocated_of flag a)
unfolding allocated_of
allocated_cases P flag a fresh full = if_on P (ltb a.entered toi_entries) fresh full

-- a call of release or free, case by case: the entry is gone, or there is none and nothing changes
pub dropped_cases : (P : Changed → Type 0) (flag : Bool) (t : ℕ) (a : ToiAllocator) → P (unchanged a) → ((i : ℕ) → P (changed (entry_gone a i))) → P (dropped_of flag t a)
unfolding dropped_of
dropped_cases P flag t a still gone = maybe_on P (place (entry_is t flag) (noted a)) (λ e. still) (λ i e. gone i)

-- the number that comes next once the stored one is noted
pub given_next : (flag : Bool) (a : ToiAllocator) → (moved_on (noting flag a)).next ≡ next_toi a.width (held (noting flag a)) a.next
unfolding moved_on noting
given_next flag a = refl

-- the width of the numbers stays
module _ (a : ToiAllocator) where
  pub allocated_width : (flag : Bool) → (allocated_of flag a).allocator.width ≡ a.width
  unfolding moved_on noting
  allocated_width flag = allocated_cases (λ (x : Allocated). x.allocator.width ≡ a.width) flag a (λ e. refl) (λ e. refl)

  pub claimed_width : (t : ℕ) → (claimed_of t a).allocator.width ≡ a.width
  unfolding claimed_of bound_at
  claimed_width t = maybe_on (λ (x : Changed). x.allocator.width ≡ a.width) (place (entry_is t true) (noted a)) (λ e. refl) (λ i e. refl)

  pub dropped_width : (flag : Bool) (t : ℕ) → (dropped_of flag t a).allocator.width ≡ a.width
  unfolding entry_gone
  dropped_width flag t = dropped_cases (λ (x : Changed). x.allocator.width ≡ a.width) flag t a refl (λ i. refl)

-- the loose ones without t
abbrev pub but : ℕ → List ℕ → List ℕ
but t = keep (λ u. not (eqb u t))

-- before the first call no number is held
pub opened_view : (w n : ℕ) → (loose (new_allocator w n) ≡ []) × (bound (new_allocator w n) ≡ [])
unfolding new_allocator
opened_view w n = (refl, refl)

-- the first number, and the width
pub opened_next : (w n : ℕ) → ((new_allocator w n).next ≡ first_toi w n) × ((new_allocator w n).width ≡ w)
unfolding new_allocator
opened_next w n = (refl, refl)

-- a loose reservation is gone
pub record Released (t : ℕ) (a b : ToiAllocator) : Type 0 where
  pub next_same : b.next ≡ a.next
  pub loose_left : loose b ≡ but t (loose a)
  pub bound_same : bound b ≡ bound a

-- it is an object's number from now on
pub record Claimed (t : ℕ) (a b : ToiAllocator) : Type 0 where
  pub next_same : b.next ≡ a.next
  pub loose_left : loose b ≡ but t (loose a)
  pub one_more : (n : ℕ) → times n (bound b) ≡ times n (bound a) + one_if (eqb t n)

module _ (a : ToiAllocator) (v : ValidAllocator a) where
  noted_given : (flag : Bool) → a.entered < toi_entries → noted (moved_on (noting flag a)) ≡ noted a ++ (record { toi = a.next; loose = flag } ∷ [])
  unfolding moved_on
  noted_given flag h = noted_noting a v flag h

  -- reserve
  pub loose_reserved : a.entered < toi_entries → loose (moved_on (noting true a)) ≡ loose a ++ (a.next ∷ [])
  loose_reserved h = ap (collect loose_in) (noted_given true h) ∙ collect_append loose_in (noted a) _

  pub bound_reserved : a.entered < toi_entries → bound (moved_on (noting true a)) ≡ bound a
  bound_reserved h = ap (collect bound_in) (noted_given true h) ∙ collect_append bound_in (noted a) _ ∙ append-nil (bound a)

  -- a fresh number for an object
  pub loose_given : a.entered < toi_entries → loose (moved_on (noting false a)) ≡ loose a
  loose_given h = ap (collect loose_in) (noted_given false h) ∙ collect_append loose_in (noted a) _ ∙ append-nil (loose a)

  pub bound_given : a.entered < toi_entries → bound (moved_on (noting false a)) ≡ bound a ++ (a.next ∷ [])
  bound_given h = ap (collect bound_in) (noted_given false h) ∙ collect_append bound_in (noted a) _

  -- each loose number stands once
  loose_once : (t : ℕ) → times t (loose a) ≤ 1
  loose_once t = let x = held_split a t in let y = v.once t in omega arith

  -- release: where the number is not loose, nothing changes
  pub released_view : (t : ℕ) → Released t a (dropped_of true t a).allocator
  unfolding dropped_of entry_gone
  released_view t = go (sought (entry_is t true) (noted a))
    where
      absent : place (entry_is t true) (noted a) ≡ None → times t (loose a) ≡ 0
      absent p = has_none t (loose a) (sym (loose_found t (noted a)) ∙ ap given p)

      go : Sought (entry_is t true) (noted a) → Released t a (maybe (unchanged a) (λ i. changed (entry_gone a i)) (place (entry_is t true) (noted a))).allocator
      go (miss p u) = rw p (record { next_same = refl; loose_left = sym (keep_absent t (loose a) (absent p)); bound_same = refl })
      go (hit i e h) = rw h.found (
          let q = noted_without a v t true i e h in
          let g = loose_entry t e h.passes in
          record {
            next_same = refl;
            loose_left = ap (collect loose_in) q ∙ collect_keep loose_in t (noted a) i e h.stands g.0 (loose_once t);
            bound_same = ap (collect bound_in) q ∙ collect_skip bound_in (noted a) i e h.stands g.1;
          })

  -- claim
  pub claimed_view : (t : ℕ) → has t (loose a) ≡ true → Claimed t a (claimed_of t a).allocator
  unfolding claimed_of bound_at
  claimed_view t l = go (sought (entry_is t true) (noted a))
    where
      go : Sought (entry_is t true) (noted a) → Claimed t a (maybe (unchanged a) (λ i. changed (bound_at a t i)) (place (entry_is t true) (noted a))).allocator
      go (miss p u) = absurd (false≢true (ap given (sym p) ∙ loose_found t (noted a) ∙ l))
      go (hit i e h) = rw h.found (
          let q = noted_bound a v t true i e h in
          let g = loose_entry t e h.passes in
          record {
            next_same = refl;
            loose_left = ap (collect loose_in) q ∙ collect_unset loose_in (noted a) i _ refl ∙ collect_keep loose_in t (noted a) i e h.stands g.0 (loose_once t);
            one_more = λ n. (
                let b = ap (λ l. times n (collect bound_in l)) q in
                let c = collect_set bound_in n (noted a) i e (record { toi = t; loose = false }) h.stands in
                let d = ap (adds n) g.1 in omega arith);
          })

  -- free
  pub freed_view : (t : ℕ) → 1 ≤ times t (bound a) → Freed t a (dropped_of false t a).allocator
  unfolding dropped_of entry_gone
  freed_view t l = go (sought (entry_is t false) (noted a))
    where
      go : Sought (entry_is t false) (noted a) → Freed t a (maybe (unchanged a) (λ i. changed (entry_gone a i)) (place (entry_is t false) (noted a))).allocator
      go (miss p u) = let z = bound_none t (noted a) u in absurd (omega arith)
      go (hit i e h) = rw h.found (
          let q = noted_without a v t false i e h in
          let g = bound_entry t e h.passes in
          record {
            next_same = refl;
            loose_same = ap (collect loose_in) q ∙ collect_skip loose_in (noted a) i e h.stands g.0;
            one_less = λ n. (
                let b = ap (λ l. times n (collect bound_in l)) q in
                let c = collect_cut bound_in n (noted a) i e h.stands in
                let d = ap (adds n) g.1 in omega arith);
          })

-- release of a number that is not loose, and of one that is
pub released_none : (a : ToiAllocator) (t : ℕ) → has t (loose a) ≡ false → dropped_of true t a ≡ unchanged a
unfolding dropped_of
released_none a t h = go (place (entry_is t true) (noted a)) refl
  where
    go : (o : Option ℕ) → place (entry_is t true) (noted a) ≡ o → maybe (unchanged a) (λ i. changed (entry_gone a i)) (place (entry_is t true) (noted a)) ≡ unchanged a
    go None p = rw p
    go (Some i) p = absurd (true≢false (ap given (sym p) ∙ loose_found t (noted a) ∙ h))

pub released_some : (a : ToiAllocator) (t : ℕ) → has t (loose a) ≡ true → (dropped_of true t a).answer ≡ Ok tt
unfolding dropped_of
released_some a t h = maybe_on (λ (x : Changed). x.answer ≡ Ok tt) (place (entry_is t true) (noted a))
    (λ e. absurd (false≢true (ap given (sym e) ∙ loose_found t (noted a) ∙ h))) (λ i e. refl)

-- a loose number can be claimed
pub claimed_done : (a : ToiAllocator) (t : ℕ) → has t (loose a) ≡ true → (claimed_of t a).answer ≡ Ok tt
unfolding claimed_of
claimed_done a t h = go (place (entry_is t true) (noted a)) (loose_found t (noted a) ∙ h)
  where
    go : (o : Option ℕ) → given o ≡ true → (maybe (unchanged a) (λ i. changed (bound_at a t i)) o).answer ≡ Ok tt
    go None e = absurd (false≢true e)
    go (Some i) e = refl
