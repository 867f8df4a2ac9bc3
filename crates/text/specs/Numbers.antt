-- Decimal numerals.
use Rattle.std.specs.Prelude.{◌≡◌, List, [], ◌∷◌, Bool, true, cond, ◌&&◌, ℕ, ◌+◌, ◌-◌, ◌*◌, ◌^◌, ◌<◌, ◌≤◌, leb, ltb, length}
use Rattle.std.specs.Prelude.{Option, Some, None, Result, Ok, Err}
use Rattle.text.specs.Bytes.{part}
use Rattle.text.specs.Words.{word_from}
use Rattle.text.specs.declared.word.Word.{Word}
use Rattle.text.specs.declared.number.NumberError.{NumberError}
use Rattle.text.specs.declared.number.NumberError.TheVariants.{Past, Unreadable}
use Rattle.text.specs.declared.number.Field.{Field}
use Rattle.text.specs.declared.number.FieldError.{FieldError}
use Rattle.text.specs.declared.number.FieldError.TheVariants.{Missing, Bad}

-- the ASCII codes of 0 to 9
unfoldable pub digit : ℕ → Bool
digit b = leb 48 b && leb b 57

unfoldable pub all_digits : List ℕ → Bool
all_digits [] = true
all_digits (b ∷ l) = digit b && all_digits l

-- the number that the digits of l stand for, behind digits that stand for v
unfoldable pub value_from : ℕ → List ℕ → ℕ
value_from v [] = v
value_from v (b ∷ l) = value_from (v * 10 + (b - 48)) l

-- what a numeral stands for, on unbounded numbers: a numeral is one digit or more, and nothing else
unfoldable pub numeral : List ℕ → Option ℕ
numeral [] = None
numeral (b ∷ l) = cond (all_digits (b ∷ l)) (Some (value_from 0 (b ∷ l))) None

-- a number as an answer of 64 bits
unfoldable pub in_width : ℕ → Result ℕ NumberError
in_width v = cond (ltb v (2 ^ 64)) (Ok v) (Err Past)

unfoldable pub fitted : Option ℕ → Result ℕ NumberError
fitted None = Err Unreadable
fitted (Some v) = in_width v

unfoldable pub numeral_answer : List ℕ → Result ℕ NumberError
numeral_answer w = fitted (numeral w)

-- what a word that ends at `end` is as a field
unfoldable pub field_of : Result ℕ NumberError → ℕ → Result Field FieldError
field_of (Ok v) end = Ok (record { value = v; next = end })
field_of (Err e) end = Err Bad

unfoldable pub field_at : List ℕ → Option Word → Result Field FieldError
field_at s (Some w) = field_of (numeral_answer (part w.start w.end s)) w.end
field_at s None = Err Missing

unfoldable pub field_from : List ℕ → ℕ → Result Field FieldError
field_from s from = field_at s (word_from s from)

-- what next_number answers is the next word as a number, and the place behind it is in s
pub record NextNumber (s : List ℕ) (from : ℕ) (r : Result Field FieldError) : Type 0 where
  pub exact : r ≡ field_from s from
  pub inside : (f : Field) → r ≡ Ok f → (from < f.next) × (f.next ≤ length s)
