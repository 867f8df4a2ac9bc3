-- Words in a list of bytes.
use Rattle.std.specs.Prelude.{◌≡◌, List, [], ◌∷◌, Bool, true, false, cond, ◌&&◌, ℕ, ◌<◌, ◌≤◌, eqb, ltb, length}
use Rattle.std.specs.Prelude.{Option, Some, None}
use Rattle.text.specs.Bytes.{blank, ink, pass}
use Rattle.text.specs.declared.word.Word.{Word}

-- the next word starts behind the blanks ..
unfoldable pub start_from : List ℕ → ℕ → ℕ
start_from s from = pass blank s from

-- .. where bytes are left there, and ends before the next blank
unfoldable pub word_from : List ℕ → ℕ → Option Word
word_from s from =
    cond (ltb (start_from s from) (length s)) (Some (record { start = start_from s from; end = pass ink s (start_from s from) })) None

abbrev pub is_end : Option Word → Bool
is_end (Some w) = false
is_end None = true

-- what next_word answers is the next word, and a word is a part of s that has a byte
pub record NextWord (s : List ℕ) (from : ℕ) (r : Option Word) : Type 0 where
  pub exact : r ≡ word_from s from
  pub inside : (w : Word) → r ≡ Some w → (from ≤ w.start) × (w.start < w.end) × (w.end ≤ length s)

-- have the two the same bytes?
unfoldable pub same : List ℕ → List ℕ → Bool
same [] [] = true
same [] (y ∷ b) = false
same (x ∷ a) [] = false
same (x ∷ a) (y ∷ b) = eqb x y && same a b
