-- Laws on numbers: two cases of an order, and quotients, exact and rounded up.
use Rattle.std.proofs.Common.{◌≡◌, ℕ, ◌+◌, ◌-◌, ◌*◌, ◌/◌, ◌%◌, ◌<◌, ◌≤◌, Bool, true, false, ltb, ◌⊎◌, refl, ap, ◌∙◌, inl, inr, ⊎_elim, mod-lt, add-mul, lt_of_mul-lt-mul_right, one-mul, div-add-mod', zero-mul, div-mul-le_self, arith, ltb-false, ltb-true}
use native.Mathlib.Nat.{lt-div-mul-add, div-eq_of_lt-le}
use Rattle.sizes.specs.Words.{ceil}

-- a number lies below another, or not
pub below_or : (a b : ℕ) → (a < b) ⊎ (b ≤ a)
below_or a b = told (ltb a b) refl
  where
    told : (t : Bool) → ltb a b ≡ t → (a < b) ⊎ (b ≤ a)
    told true e = inl (ltb-true a b e)
    told false e = inr (ltb-false a b e)

-- one more group of b
pub one_more : (n b : ℕ) → (n + 1) * b ≡ n * b + b
one_more n b = add-mul n 1 b ∙ ap (λ (m : ℕ). n * b + m) (one-mul b)

module _ (a b : ℕ) (some : 0 < b) where
  pub ceil_exact : a % b ≡ 0 → ceil a b ≡ a / b
  unfolding ceil
  ceil_exact e =
      let h = div-add-mod' a b in
      let g = one_more (a / b) b in
      div-eq_of_lt-le b (omega arith) (omega arith)

  pub ceil_more : (a % b ≡ 0 → ⊥) → ceil a b ≡ a / b + 1
  unfolding ceil
  ceil_more e =
      let h = div-add-mod' a b in
      let r = mod-lt a some in
      let g = one_more (a / b) b in
      let k = one_more (a / b + 1) b in
      div-eq_of_lt-le b (omega arith) (omega arith)

  pub ceil_cases : ((a % b ≡ 0) × (ceil a b ≡ a / b)) ⊎ ((0 < a % b) × (ceil a b ≡ a / b + 1))
  ceil_cases =
      ⊎_elim
      (λ h. inr (h, ceil_more (omega arith)))
      (λ h. let z : a % b ≡ 0 = omega arith in inl (z, ceil_exact z))
      (below_or 0 (a % b))

  -- so many groups of b hold a
  pub ceil_enough : a ≤ ceil a b * b
  unfolding ceil
  ceil_enough =
      let h : a + (b - 1) < (a + (b - 1)) / b * b + b = lt-div-mul-add some in
      omega arith

  -- and less than one group is left over
  pub ceil_close : ceil a b * b < a + b
  unfolding ceil
  ceil_close = omega (arith, div-mul-le_self (a + (b - 1)) b)

  pub ceil_least : (n : ℕ) → a ≤ n * b → ceil a b ≤ n
  ceil_least n h =
      let c = ceil_close in
      let g = one_more n b in
      let l : ceil a b < n + 1 = lt_of_mul-lt-mul_right b (omega arith) in
      omega arith

  pub ceil_some : 0 < a → 0 < ceil a b
  ceil_some h =
      ⊎_elim
      (λ g. g)
      (λ g.
      let z : ceil a b ≡ 0 = omega arith in
      absurd (omega (arith, rw (z, zero-mul) at ceil_enough)))
      (below_or 0 (ceil a b))
