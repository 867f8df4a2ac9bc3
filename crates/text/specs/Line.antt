-- The words of a line, one after another.
use Rattle.std.specs.Prelude.{◌≡◌, List, ℕ, ◌<◌, ◌≤◌, length, Option, Some, None, Result, Ok, Err}
use Rattle.text.specs.Bytes.{part}
use Rattle.text.specs.Words.{word_from}
use Rattle.text.specs.Numbers.{field_from}
use Rattle.text.specs.declared.word.Word.{Word}
use Rattle.text.specs.declared.number.Field.{Field}
use Rattle.text.specs.declared.number.FieldError.{FieldError}
use Rattle.text.specs.declared.words.Words.{Words}

-- the bytes of a word of s, and the place behind it; where there is no word, none, and the same place
unfoldable pub word_bytes : List ℕ → Option Word → Option (List ℕ)
word_bytes s (Some w) = Some (part w.start w.end s)
word_bytes s None = None

unfoldable pub word_end : ℕ → Option Word → ℕ
word_end from (Some w) = w.end
word_end from None = from

-- what next_word answers: the bytes of the next word of the line, and then stands behind it
pub record TakesWord (was : Words) (r : Option (List ℕ)) (now : Words) : Type 0 where
  pub line : now.line ≡ was.line
  pub word : r ≡ word_bytes was.line.now (word_from was.line.now was.at)
  pub at : now.at ≡ word_end was.at (word_from was.line.now was.at)
  pub inside : (w : List ℕ) → r ≡ Some w → (was.at < now.at) × (now.at ≤ length was.line.now)

-- the number of a field, and the place behind it; where there is no number, why, and the same place
unfoldable pub field_value : Result Field FieldError → Result ℕ FieldError
field_value (Ok f) = Ok f.value
field_value (Err e) = Err e

unfoldable pub field_end : ℕ → Result Field FieldError → ℕ
field_end from (Ok f) = f.next
field_end from (Err e) = from

-- what next_number answers: the next word of the line as a number, and then stands behind it
pub record TakesNumber (was : Words) (r : Result ℕ FieldError) (now : Words) : Type 0 where
  pub line : now.line ≡ was.line
  pub value : r ≡ field_value (field_from was.line.now was.at)
  pub at : now.at ≡ field_end was.at (field_from was.line.now was.at)
  pub inside : (n : ℕ) → r ≡ Ok n → (was.at < now.at) × (now.at ≤ length was.line.now)
