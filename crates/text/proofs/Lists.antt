-- Laws on lists and tests that the loops cite.
use mathlib.Core.Path.{◌≡◌, refl}
use mathlib.Core.List.{List, [], ◌∷◌}
use mathlib.Core.Bool.{Bool, true, false, cond, not, ◌&&◌, and-false}
use mathlib.Core.Logic.{◌⊎◌, inl, inr, ⊎_elim}
use Prim.Native.Nat.{ℕ, ◌+◌, ◌-◌, ◌<◌, ◌≤◌, zero-le, suc-le-suc}
use native.Mathlib.Nat.{not-suc-le-zero, le_of_suc-le-suc}
use native.Mathlib.Numerals.{add-one, one-add}
use native.Mathlib.Omega.{arith}
use borrow.Author.Tests.{ltb-true, ltb-false, le-ltb, lt-ltb, le-leb, lt-leb}
use lib.Dec.{ltb}
use lib.ListN.{length, take, drop, get_or, length-drop, drop_of_length-le}
use lib.Seq.{drop-cons, get_or-drop, length-take-le}
use Rattle.std.specs.Prelude.{Option, Some, None}
use Rattle.std.specs.Option.{unwrap_or}
use Rattle.std.specs.List.{position_or_len}
use Rattle.std.proofs.lemmas.List.Recursion.{is_position_or_len}
use Rattle.text.specs.Bytes.{run_length, pass, part}

pub bool_cases : (b : Bool) → (b ≡ true) ⊎ (b ≡ false)
bool_cases true = inl refl
bool_cases false = inr refl

pub both : (a b : Bool) → (a && b) ≡ true → (a ≡ true) × (b ≡ true)
both true true h = (refl, refl)
both true false h = (refl, h)
both false b h = let z : ◌≡◌ {A = ℕ} 0 1 = cc in absurd (omega arith)

pub lt_or_le : (k i : ℕ) → (k < i) ⊎ (i ≤ k)
lt_or_le k i = ⊎_elim (λ (t : ltb k i ≡ true). inl (ltb-true k i t)) (λ (t : ltb k i ≡ false). inr (ltb-false k i t)) (bool_cases (ltb k i))

module _ (p : ℕ → Bool) where
  -- a run is a part of the list ..
  pub run_within : (l : List ℕ) → run_length p l ≤ length l
  unfolding run_length
  run_within [] = zero-le
  run_within (x ∷ l) = ⊎_elim (λ (t : p x ≡ true). rw t (suc-le-suc (run_within l))) (λ (t : p x ≡ false). rw t zero-le) (bool_cases (p x))

  -- .. and what stands behind it fails the test
  run_stops : (l : List ℕ) → run_length p l < length l → p (get_or l (run_length p l) 0) ≡ false
  unfolding run_length
  run_stops [] h = absurd (not-suc-le-zero h)
  run_stops (x ∷ l) h =
      ⊎_elim (λ (t : p x ≡ true). rw t (run_stops l (le_of_suc-le-suc (rw t at h)))) (λ (t : p x ≡ false). rw t t) (bool_cases (p x))

  -- a run ends at the first place that fails the test
  pub run_position : (l : List ℕ) → run_length p l ≡ position_or_len (λ b. not (p b)) l
  unfolding run_length
  run_position l =
      is_position_or_len (run_length p) (λ b. not (p b)) refl
      (λ x xs. ⊎_elim (λ (t : p x ≡ true). rw (t, one-add)) (λ (t : p x ≡ false). rw t) (bool_cases (p x)))
      l

  pub run_found : (l : List ℕ) (r : Option ℕ)
      → r ≡ cond (ltb (position_or_len (λ b. not (p b)) l) (length l)) (Some (position_or_len (λ b. not (p b)) l)) None
      → unwrap_or r (length l) ≡ run_length p l
  run_found l r e =
      let k = run_within l in
      rw (e, ← run_position l)
      (⊎_elim (λ (h : run_length p l < length l). rw (lt-ltb _ _ h)) (λ (h : length l ≤ run_length p l). rw (le-ltb _ _ h) (omega arith)) (lt_or_le (run_length p l) (length l)))

  module _ (s : List ℕ) (i : ℕ) where
    pub pass_more : i < length s → p (get_or s i 0) ≡ true → pass p s i ≡ pass p s (i + 1)
    unfolding run_length pass
    pass_more h e = rw (drop-cons s i 0 h, e, add-one i) (omega arith)

    pub pass_end : length s ≤ i → pass p s i ≡ i
    unfolding run_length pass
    pass_end h = rw (drop_of_length-le s h) (omega arith)

    pub pass_from : i ≤ pass p s i
    unfolding pass
    pass_from = omega arith

    pub pass_within : i ≤ length s → pass p s i ≤ length s
    unfolding pass
    pass_within h = omega (arith, run_within (drop i s), length-drop i s)

    pub pass_stops : pass p s i < length s → p (get_or s (pass p s i) 0) ≡ false
    unfolding pass
    pass_stops h = rw (← get_or-drop i s (run_length p (drop i s)) 0) (run_stops (drop i s) (omega (arith, length-drop i s)))

  pub pass_moves : (s : List ℕ) (i : ℕ) → i < length s → p (get_or s i 0) ≡ true → i < pass p s i
  pass_moves s i h e = omega (arith, pass_more s i h e, pass_from s (i + 1))

pub part_none : (s : List ℕ) → part 0 0 s ≡ []
unfolding part
part_none s = rw (le-leb 0 (length s) zero-le)

-- a part that is one, and a part that is none
module _ (start end : ℕ) (s : List ℕ) where
  pub part_in : start ≤ end → end ≤ length s → part start end s ≡ take (end - start) (drop start s)
  unfolding part
  part_in h k = rw (le-leb _ _ h, le-leb _ _ k)

  pub part_length : start ≤ end → end ≤ length s → length (part start end s) ≡ end - start
  part_length h k = rw (part_in h k, length-take-le (end - start) (drop start s) (rw (length-drop start s) (omega arith)))

  pub part_turned : end < start → part start end s ≡ []
  unfolding part
  part_turned h = rw (lt-leb _ _ h)

  pub part_past : length s < end → part start end s ≡ []
  unfolding part
  part_past h = rw (lt-leb _ _ h, and-false)
