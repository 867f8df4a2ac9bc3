-- Laws of the widths of object numbers: a number is one of the four and becomes that width, or it is none of them and is refused.
use Rattle.std.proofs.Common.{◌≡◌, ℕ, true, false, eqb, List, [], ◌∷◌, refl, sym, ap, ◌∙◌, eqb-true}
use Rattle.std.proofs.lemmas.Bool.{eqb-false, ne_eqb}
use Rattle.std.specs.Prelude.{None, Some, Ok, Err, is_ok}
use Rattle.sizes.specs.declared.refusal.Refusal.{Refusal}
use Rattle.sizes.specs.declared.refusal.Refusal.TheVariants as Because
use Rattle.sizes.specs.Words.{has}
use Rattle.sizes.specs.Allocator.{bits, Width, width_said, width_told}
use Rattle.sizes.specs.declared.toiallocator.ToiMaxLength.{ToiMaxLength}
use Rattle.sizes.specs.declared.toiallocator.ToiMaxLength.TheVariants.{ToiMax16, ToiMax32, ToiMax48, ToiMax64}
use Rattle.sizes.proofs.Tests.{Tested, pass, fail, tested, ok_told, err_told}

-- the numbers of the four
abbrev pub four : List ℕ
four = 16 ∷ 32 ∷ 48 ∷ 64 ∷ []

bits_said : (w : ToiMaxLength) → width_said (bits w) ≡ Some w
unfolding width_said
bits_said ToiMax16 = refl
bits_said ToiMax32 = refl
bits_said ToiMax48 = refl
bits_said ToiMax64 = refl

bits_four : (w : ToiMaxLength) → has (bits w) four ≡ true
bits_four ToiMax16 = refl
bits_four ToiMax32 = refl
bits_four ToiMax48 = refl
bits_four ToiMax64 = refl

-- a number is one of the four widths, or none of them
data Wide (n : ℕ) : Type 0 where
  one : (w : ToiMaxLength) → n ≡ bits w → Wide n
  other : has n four ≡ false → width_said n ≡ None → Wide n

module _ (n : ℕ) where
  wide : Wide n
  unfolding width_said
  wide = go (tested (eqb n 16)) (tested (eqb n 32)) (tested (eqb n 48)) (tested (eqb n 64))
    where
      turned : (m : ℕ) → eqb n m ≡ false → eqb m n ≡ false
      turned m e = ne_eqb m n (λ q. eqb-false n m e (sym q))

      go : Tested (eqb n 16) → Tested (eqb n 32) → Tested (eqb n 48) → Tested (eqb n 64) → Wide n
      go (pass p) x y z = one ToiMax16 (eqb-true n 16 p)
      go (fail p) (pass q) y z = one ToiMax32 (eqb-true n 32 q)
      go (fail p) (fail q) (pass r) z = one ToiMax48 (eqb-true n 48 r)
      go (fail p) (fail q) (fail r) (pass s) = one ToiMax64 (eqb-true n 64 s)
      go (fail p) (fail q) (fail r) (fail s) = other (rw (turned 16 p, turned 32 q, turned 48 r, turned 64 s)) (rw (p, q, r, s))

  -- the width that a number becomes has so many bits
  pub width_is : (w : ToiMaxLength) → Ok w ≡ width_told n → n ≡ bits w
  width_is w e = go wide
    where
      go : Wide n → n ≡ bits w
      go (one v q) = let r : Some v ≡ Some w = sym (ap width_said q ∙ bits_said v) ∙ ok_told _ _ _ e in let x : v ≡ w = cc in q ∙ ap bits x
      go (other h q) = let r : None ≡ Some w = sym q ∙ ok_told _ _ _ e in cc

  -- a number that is refused is none of the four, and the refusal is 1
  pub width_bad : (why : Refusal) → Err why ≡ width_told n → (has n four ≡ false) × (why ≡ Because.SetUp)
  width_bad why e = (go wide, (err_told _ _ _ e).1)
    where
      go : Wide n → has n four ≡ false
      go (one w q) = let r : Some w ≡ None = sym (ap width_said q ∙ bits_said w) ∙ (err_told _ _ _ e).0 in cc
      go (other h q) = h

  -- is it one of the four
  pub width_given : is_ok (width_told n) ≡ has n four
  width_given = go wide
    where
      go : Wide n → is_ok (width_told n) ≡ has n four
      go (one w q) = rw (ap width_said q ∙ bits_said w) (sym (ap (λ m. has m four) q ∙ bits_four w))
      go (other h q) = rw q (sym h)

  pub a_wide : has n four ≡ true → Width n
  a_wide e = go wide
    where
      go : Wide n → Width n
      go (one w q) = (w, q)
      go (other h q) = let r : true ≡ false = sym e ∙ h in cc
