-- Laws of parts: two parts share a byte by their differences, and a part ends past a store by what the store leaves.
use mathlib.Core.Path.{◌≡◌, sym, ◌∙◌}
use mathlib.Core.Bool.{true, false}
use Prim.Native.Nat.{ℕ, ◌+◌, ◌-◌, ◌≤◌, ◌<◌, min, max}
use native.Mathlib.Omega.{arith}
use lib.Dec.{ltb}
use borrow.Author.Tests.{lt-ltb, le-ltb, ltb-true, ltb-false}
use Rattle.sizes.proofs.Tests.{Tested, pass, fail, tested}
use Rattle.lifecycle.specs.Parts.{shares, past_store}
use Rattle.lifecycle.specs.declared.parts.Part.{Part}

-- two tests of an order that say the same
pub ltb_same : (a b c d : ℕ) → (a < b → c < d) → (c < d → a < b) → ltb a b ≡ ltb c d
ltb_same a b c d f g = go (tested (ltb a b))
  where
    go : Tested (ltb a b) → ltb a b ≡ ltb c d
    go (pass e) = e ∙ sym (lt-ltb c d (f (ltb-true a b e)))
    go (fail e) = e ∙ sym (le-ltb c d (no (tested (ltb c d))))
      where
        no : Tested (ltb c d) → d ≤ c
        no (pass q) = let h = g (ltb-true c d q) in let k = ltb-false a b e in absurd (omega arith)
        no (fail q) = ltb-false c d q

module _ (a b : Part) where
  pub empty_first : a.size ≡ 0 → false ≡ shares a b
  unfolding shares
  empty_first e = sym (le-ltb (max a.start b.start) (min (a.start + a.size) (b.start + b.size)) (omega arith))

  pub empty_second : b.size ≡ 0 → false ≡ shares a b
  unfolding shares
  empty_second e = sym (le-ltb (max a.start b.start) (min (a.start + a.size) (b.start + b.size)) (omega arith))

  -- the one that begins first reaches the other
  pub first_reaches : (b.size ≡ 0 → ⊥) → a.start ≤ b.start → ltb (b.start - a.start) a.size ≡ shares a b
  unfolding shares
  first_reaches e h = ltb_same (b.start - a.start) a.size (max a.start b.start) (min (a.start + a.size) (b.start + b.size)) (λ g. omega arith) (λ g. omega arith)

  pub second_reaches : (a.size ≡ 0 → ⊥) → b.start < a.start → ltb (a.start - b.start) b.size ≡ shares a b
  unfolding shares
  second_reaches e h = ltb_same (a.start - b.start) b.size (max a.start b.start) (min (a.start + a.size) (b.start + b.size)) (λ g. omega arith) (λ g. omega arith)

module _ (n : ℕ) (c : Part) where
  pub starts_past : n < c.start → true ≡ past_store n c
  unfolding past_store
  starts_past h = sym (lt-ltb n (c.start + c.size) (omega arith))

  pub left_short : c.start ≤ n → ltb (n - c.start) c.size ≡ past_store n c
  unfolding past_store
  left_short h = ltb_same (n - c.start) c.size n (c.start + c.size) (λ g. omega arith) (λ g. omega arith)

  -- a part that does not end past a store lies in it
  pub lies_in : past_store n c ≡ false → c.start + c.size ≤ n
  unfolding past_store
  lies_in h = ltb-false n (c.start + c.size) h
