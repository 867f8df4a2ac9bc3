-- Laws of `collect`: what one element more, one less or one exchanged does to the list that is collected.
use Rattle.std.proofs.Common.{◌≡◌, ℕ, zero, suc, ◌+◌, ◌<◌, ◌≤◌, true, false, not, eqb, List, [], ◌∷◌, ◌++◌, map, length, get_or, set, sym, refl, ap, ◌∙◌, arith, eq-eqb}
use Rattle.std.specs.Prelude.{Option, None, Some}
use Rattle.sizes.specs.Words.{when◌then◌else◌, maybe, collect, keep, at, cut, one_if, times}
use Rattle.sizes.proofs.Tests.{none≢some}

-- a number that is not in the list is not missed
pub keep_absent : (t : ℕ) (l : List ℕ) → times t l ≡ 0 → keep (λ u. not (eqb u t)) l ≡ l
keep_absent t [] h = refl
keep_absent t (a ∷ l) h = (elim (eqb a t) as (λ b. one_if b + times t l ≡ 0 → (when not b then a ∷ keep (λ u. not (eqb u t)) l else keep (λ u. not (eqb u t)) l) ≡ a ∷ l)
    [ true ↦ λ z. absurd (omega arith) | false ↦ λ z. ap (λ r. a ∷ r) (keep_absent t l (omega arith)) ]) h

-- a place inside the list has an element
pub at_inside : {A : Type 0} (z : A) (l : List A) (k : ℕ) → k < length l → at l k ≡ Some (get_or l k z)
at_inside z [] k h = absurd (omega arith)
at_inside z (a ∷ l) zero h = refl
at_inside z (a ∷ l) (suc k) h = at_inside z l k (omega arith)

module _ {A B : Type 0} (f : A → Option B) where
  pub collect_append : (a b : List A) → collect f (a ++ b) ≡ collect f a ++ collect f b
  collect_append [] b = refl
  collect_append (x ∷ a) b = elim (f x) as (λ (o : Option B). maybe (collect f (a ++ b)) (λ k. k ∷ collect f (a ++ b)) o ≡ maybe (collect f a) (λ k. k ∷ collect f a) o ++ collect f b)
      [ None ↦ collect_append a b | Some k ↦ ap (λ r. k ∷ r) (collect_append a b) ]

  -- an element that gives nothing is left out, or comes in
  pub collect_skip : (l : List A) (n : ℕ) (a : A) → at l n ≡ Some a → f a ≡ None → collect f (cut l n) ≡ collect f l
  collect_skip [] n a e h = refl
  collect_skip (b ∷ l) zero a e h = let s : b ≡ a = cc in sym (ap (maybe (collect f l) (λ k. k ∷ collect f l)) (ap f s ∙ h))
  collect_skip (b ∷ l) (suc n) a e h = ap (λ r. maybe r (λ k. k ∷ r) (f b)) (collect_skip l n a e h)

  pub collect_unset : (l : List A) (n : ℕ) (b : A) → f b ≡ None → collect f (set l n b) ≡ collect f (cut l n)
  collect_unset [] n b h = refl
  collect_unset (c ∷ l) zero b h = ap (maybe (collect f l) (λ k. k ∷ collect f l)) h
  collect_unset (c ∷ l) (suc n) b h = ap (λ r. maybe r (λ k. k ∷ r) (f c)) (collect_unset l n b h)

  -- f says the same of what is in the place of each
  pub collect_same : (h : A → A) → ((a : A) → f (h a) ≡ f a) → (l : List A) → collect f (map h l) ≡ collect f l
  collect_same h e [] = refl
  collect_same h e (a ∷ l) = λ i. maybe (collect_same h e l i) (λ k. k ∷ collect_same h e l i) (e a i)

-- what one element adds to the count of a number
abbrev pub adds : ℕ → Option ℕ → ℕ
adds m None = 0
adds m (Some k) = one_if (eqb k m)

module _ {A : Type 0} (f : A → Option ℕ) where
  pub collect_cons : (m : ℕ) (b : A) (l : List A) → times m (collect f (b ∷ l)) ≡ adds m (f b) + times m (collect f l)
  collect_cons m b l = elim (f b) as (λ (o : Option ℕ). times m (maybe (collect f l) (λ k. k ∷ collect f l) o) ≡ adds m o + times m (collect f l)) [ None ↦ omega arith | Some k ↦ refl ]

  pub collect_cut : (m : ℕ) (l : List A) (n : ℕ) (a : A) → at l n ≡ Some a → times m (collect f (cut l n)) + adds m (f a) ≡ times m (collect f l)
  collect_cut m [] n a e = absurd (none≢some e)
  collect_cut m (b ∷ l) zero a e = let s : b ≡ a = cc in let c = ap (λ x. adds m (f x)) s in let d = collect_cons m b l in omega arith
  collect_cut m (b ∷ l) (suc n) a e = let h = collect_cut m l n a e in let c = collect_cons m b (cut l n) in let d = collect_cons m b l in omega arith

  pub collect_set : (m : ℕ) (l : List A) (n : ℕ) (a b : A) → at l n ≡ Some a → times m (collect f (set l n b)) + adds m (f a) ≡ times m (collect f l) + adds m (f b)
  collect_set m [] n a b e = absurd (none≢some e)
  collect_set m (c ∷ l) zero a b e = let s : c ≡ a = cc in let g = ap (λ x. adds m (f x)) s in let h = collect_cons m c l in let d = collect_cons m b l in omega arith
  collect_set m (c ∷ l) (suc n) a b e = let h = collect_set m l n a b e in let g = collect_cons m c (set l n b) in let d = collect_cons m c l in omega arith

  -- what an element gives stands in the list
  pub collect_at : (l : List A) (n : ℕ) (a : A) (t : ℕ) → at l n ≡ Some a → f a ≡ Some t → 1 ≤ times t (collect f l)
  collect_at l n a t e h = let c = collect_cut t l n a e in let d = ap (adds t) h in let r = ap one_if (eq-eqb t t refl) in omega arith

  -- a number that stands once is left out with its element
  pub collect_keep : (t : ℕ) (l : List A) (n : ℕ) (a : A) → at l n ≡ Some a → f a ≡ Some t → times t (collect f l) ≤ 1 → collect f (cut l n) ≡ keep (λ u. not (eqb u t)) (collect f l)
  collect_keep t [] n a e h o = absurd (none≢some e)
  collect_keep t (b ∷ l) zero a e h o =
      let s : b ≡ a = cc in
      let q : f b ≡ Some t = ap f s ∙ h in
      let r = eq-eqb t t refl in
      let g : times t (collect f l) ≡ 0 = (let c = collect_cons t b l in let d = ap (adds t) q in let z = ap one_if r in omega arith) in
      rw (q, r) (sym (keep_absent t (collect f l) g))
  collect_keep t (b ∷ l) (suc n) a e h o = head (collect_keep t l n a e h) (f b) refl
    where
      head : (times t (collect f l) ≤ 1 → collect f (cut l n) ≡ keep (λ u. not (eqb u t)) (collect f l)) → (x : Option ℕ) → f b ≡ x
          → maybe (collect f (cut l n)) (λ k. k ∷ collect f (cut l n)) (f b) ≡ keep (λ u. not (eqb u t)) (maybe (collect f l) (λ k. k ∷ collect f l) (f b))
      head r None q = rw q (r (let c = collect_cons t b l in let d = ap (adds t) q in omega arith))
      head r (Some k) q = rw q (
          let c = collect_cons t b l in
          let d = ap (adds t) q in
          let g = collect_at l n a t e h in
          (elim (eqb k t) as (λ x. eqb k t ≡ x → k ∷ collect f (cut l n) ≡ (when not x then k ∷ keep (λ u. not (eqb u t)) (collect f l) else keep (λ u. not (eqb u t)) (collect f l))) [
            | true ↦ λ p. (let z = ap one_if p in absurd (omega arith))
            | false ↦ λ p. ap (λ r. k ∷ r) (r (let z = ap one_if p in omega arith))
          ]) refl)
