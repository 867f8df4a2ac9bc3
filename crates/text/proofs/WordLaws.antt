-- Laws on words.
use mathlib.Core.Path.{◌≡◌, refl, sym, ap, subst, ◌∙◌}
use mathlib.Core.List.{List, [], ◌∷◌}
use mathlib.Core.Bool.{true, not, ◌&&◌}
use mathlib.Core.Logic.{⊎_elim}
use Prim.Native.Nat.{ℕ, ◌<◌, ◌≤◌}
use native.Mathlib.Omega.{arith}
use lib.Dec.{eqb}
use lib.ListN.{length}
use borrow.Author.Tests.{eqb-true, le-ltb, lt-ltb}
use Rattle.std.specs.Prelude.{Option, Some, None}
use Rattle.std.specs.Str.{bytes_eq}
use Rattle.text.specs.Bytes.{blank, ink, pass}
use Rattle.text.specs.Words.{start_from, word_from, same, NextWord}
use Rattle.text.specs.declared.word.Word.{Word}
use Rattle.text.proofs.Lists.{both, lt_or_le, pass_from, pass_within, pass_stops, pass_moves}

-- two lists are the same exactly where they are equal
pub same_equal : (a b : List ℕ) → same a b ≡ true → a ≡ b
unfolding same
same_equal [] [] h = refl
same_equal [] (y ∷ b) h = cc
same_equal (x ∷ a) [] h = cc
same_equal (x ∷ a) (y ∷ b) h =
    let t = both (eqb x y) (same a b) h in
    let e : x ≡ y = eqb-true x y t.0 in
    let f : a ≡ b = same_equal a b t.1 in cc

-- the same, as `==` of slices says it
pub same_list : (a b : List ℕ) → bytes_eq a b ≡ same a b
unfolding same
same_list [] [] = refl
same_list [] (y ∷ b) = refl
same_list (x ∷ a) [] = refl
same_list (x ∷ a) (y ∷ b) = ap (λ t. eqb x y && t) (same_list a b)

-- the next word, from where the blanks end
module _ (s : List ℕ) (from : ℕ) where
  pub word_none : length s ≤ pass blank s from → word_from s from ≡ None
  unfolding word_from start_from
  word_none h = rw (le-ltb _ _ h)

  pub word_some : pass blank s from < length s → word_from s from ≡ Some (record { start = pass blank s from; end = pass ink s (pass blank s from) })
  unfolding word_from start_from
  word_some h = rw (lt-ltb _ _ h)

  some_inside : pass blank s from < length s
      → (from ≤ pass blank s from) × (pass blank s from < pass ink s (pass blank s from)) × (pass ink s (pass blank s from) ≤ length s)
  unfolding ink
  some_inside h = (
    pass_from blank s from,
    pass_moves ink s (pass blank s from) h (ap not (pass_stops blank s from h)),
    pass_within ink s (pass blank s from) (omega arith),
  )

  -- a word has a byte, and is a part of s behind `from`
  pub word_inside : (w : Word) → word_from s from ≡ Some w → (from ≤ w.start) × (w.start < w.end) × (w.end ≤ length s)
  word_inside w e =
      ⊎_elim
      (λ (h : pass blank s from < length s). let k = word_some h in let a : record { start = pass blank s from; end = pass ink s (pass blank s from) } ≡ w = cc in subst (λ (v : Word). (from ≤ v.start) × (v.start < v.end) × (v.end ≤ length s)) a (some_inside h))
      (λ (h : length s ≤ pass blank s from). let k = word_none h in let z : ◌≡◌ {A = ℕ} 0 1 = cc in absurd (omega arith))
      (lt_or_le (pass blank s from) (length s))

  pub next_word : (r : Option Word) → r ≡ word_from s from → NextWord s from r
  next_word r e = record { exact = e; inside = λ w h. word_inside w (sym e ∙ h) }
