-- Laws on numerals.
use mathlib.Core.Path.{◌≡◌, refl, sym, ap, ◌∙◌}
use mathlib.Core.List.{List, [], ◌∷◌, ◌++◌}
use mathlib.Core.Bool.{true, false, ◌&&◌}
use Rattle.std.specs.Prelude.{Option, Some, None, Result, Ok, Err}
use Rattle.std.specs.Option.{SomeIff, ok_or}
use Rattle.std.specs.List.{list_all}
use mathlib.Core.Logic.{⊎_elim}
use Prim.Native.Nat.{ℕ, zero, suc, ◌+◌, ◌-◌, ◌*◌, ◌^◌, ◌<◌, ◌≤◌}
use native.Mathlib.Nat.{not-suc-le-zero}
use native.Mathlib.Numerals.{add-one}
use native.Mathlib.Omega.{arith}
use borrow.Author.Tests.{le-ltb, lt-ltb, leb-true}
use lib.Dec.{leb}
use lib.ListN.{length, drop, get_or, drop_of_length-le}
use lib.Seq.{drop-cons}
use Rattle.text.specs.Numbers.{digit, all_digits, value_from, numeral, in_width, fitted, numeral_answer, field_of, field_at, field_from, NextNumber}
use Rattle.text.specs.Bytes.{part}
use Rattle.text.specs.Words.{word_from}
use Rattle.text.specs.declared.word.Word.{Word}
use Rattle.text.specs.declared.number.NumberError.{NumberError}
use Rattle.text.specs.declared.number.NumberError.TheVariants.{Past, Unreadable}
use Rattle.text.specs.declared.number.Field.{Field}
use Rattle.text.specs.declared.number.FieldError.{FieldError}
use Rattle.text.specs.declared.number.FieldError.TheVariants.{Missing}
use Rattle.text.proofs.WordLaws.{word_inside}
use Rattle.text.proofs.Lists.{both, lt_or_le}

pub digit_range : (b : ℕ) → digit b ≡ true → (48 ≤ b) × (b ≤ 57)
unfolding digit
digit_range b h = let t = both (leb 48 b) (leb b 57) h in (leb-true 48 b t.0, leb-true b 57 t.1)

-- one more digit, at the right
pub value_snoc : (v : ℕ) (l : List ℕ) (b : ℕ) → value_from v (l ++ (b ∷ [])) ≡ value_from v l * 10 + (b - 48)
unfolding value_from
value_snoc v [] b = refl
value_snoc v (x ∷ l) b = value_snoc (v * 10 + (x - 48)) l b

-- more digits make no number less
pub value_grows : (v : ℕ) (l : List ℕ) → v ≤ value_from v l
unfolding value_from
value_grows v [] = omega arith
value_grows v (b ∷ l) = omega (arith, value_grows (v * 10 + (b - 48)) l)

pub digits_list : (l : List ℕ) → list_all digit l ≡ all_digits l
unfolding all_digits
digits_list [] = refl
digits_list (b ∷ l) = ap (λ t. digit b && t) (digits_list l)

pub digit_at : (l : List ℕ) (i : ℕ) → all_digits l ≡ true → i < length l → digit (get_or l i 0) ≡ true
unfolding all_digits
digit_at [] i h k = absurd (not-suc-le-zero k)
digit_at (b ∷ l) zero h k = (both (digit b) (all_digits l) h).0
digit_at (b ∷ l) (suc i) h k = digit_at l i (both (digit b) (all_digits l) h).1 (omega arith)

-- the digits from i on, and the one at i in front of the others
pub value_step : (w : List ℕ) (i n : ℕ) → i < length w → value_from n (drop i w) ≡ value_from (n * 10 + (get_or w i 0 - 48)) (drop (i + 1) w)
unfolding value_from
value_step w i n h = rw (drop-cons w i 0 h, add-one i)

pub value_end : (w : List ℕ) (i n : ℕ) → length w ≤ i → value_from n (drop i w) ≡ n
unfolding value_from
value_end w i n h = rw (drop_of_length-le w h)

pub number_empty : (w : List ℕ) → length w ≡ 0 → numeral_answer w ≡ Err Unreadable
unfolding numeral_answer numeral fitted
number_empty [] h = refl
number_empty (b ∷ l) h = absurd (omega arith)

pub numeral_some : (w : List ℕ) → 0 < length w → all_digits w ≡ true → numeral w ≡ Some (value_from 0 w)
unfolding numeral
numeral_some [] k h = absurd (not-suc-le-zero k)
numeral_some (b ∷ l) k h = rw h

pub number_none : (w : List ℕ) → all_digits w ≡ false → numeral_answer w ≡ Err Unreadable
unfolding numeral_answer numeral fitted
number_none [] h = refl
number_none (b ∷ l) h = rw h

pub number_some : (w : List ℕ) → 0 < length w → all_digits w ≡ true → numeral_answer w ≡ in_width (value_from 0 w)
unfolding numeral_answer fitted
number_some w k h = rw (numeral_some w k h)

-- what a number in 64 bits says of the number itself
module _ (v : ℕ) where
  pub width_fits : v < 2 ^ 64 → in_width v ≡ Ok v
  unfolding in_width
  width_fits h = rw (lt-ltb _ _ h)

  pub width_past : 2 ^ 64 ≤ v → in_width v ≡ Err Past
  unfolding in_width
  width_past h = rw (le-ltb _ _ h)

  pub width_value : (x : ℕ) → in_width v ≡ Ok x → (v ≡ x) × (v < 2 ^ 64)
  width_value x e =
      ⊎_elim (λ (h : v < 2 ^ 64). let k = width_fits h in (cc, h)) (λ (h : 2 ^ 64 ≤ v). let k = width_past h in cc) (lt_or_le v (2 ^ 64))

  pub width_error : (d : NumberError) → in_width v ≡ Err d → (2 ^ 64 ≤ v) × (d ≡ Past)
  width_error d e =
      ⊎_elim (λ (h : v < 2 ^ 64). let k = width_fits h in cc) (λ (h : 2 ^ 64 ≤ v). let k = width_past h in (h, cc)) (lt_or_le v (2 ^ 64))

-- where the digits before some place stand for n
module _ (w rest : List ℕ) (n : ℕ) (some : 0 < length w) (all : all_digits w ≡ true) where
  pub number_past : value_from 0 w ≡ value_from n rest → 2 ^ 64 ≤ n → numeral_answer w ≡ Err Past
  number_past e h = number_some w some all ∙ width_past _ (omega (arith, e, value_grows n rest))

  pub number_is : value_from 0 w ≡ n → n < 2 ^ 64 → numeral_answer w ≡ Ok n
  number_is e h = number_some w some all ∙ ap in_width e ∙ width_fits n h

-- a sum that is checked for its width
pub width_checked : (r : Option ℕ) (v : ℕ) → SomeIff r (v < 2 ^ 64) v → ok_or r Past ≡ in_width v
width_checked None v h = sym (width_past v (omega arith))
width_checked (Some x) v h = let e = h.1 in rw e (sym (width_fits v h.0))

-- what is known of a word that was asked for
pub word_missing : (r : Option Word) (d : FieldError) → ok_or r Missing ≡ Err d → (r ≡ None) × (d ≡ Missing)
word_missing None d e = (refl, cc)
word_missing (Some w) d e = cc

pub word_there : (r : Option Word) (w : Word) → ok_or r Missing ≡ Ok w → r ≡ Some w
word_there None w e = cc
word_there (Some v) w e = cc

-- a field that is a number ends behind `from`, in s
module _ (s : List ℕ) (from : ℕ) (f : Field) where
  of_number : (n : Result ℕ NumberError) (end : ℕ) → field_of n end ≡ Ok f → end ≡ f.next
  unfolding field_of
  of_number (Ok v) end e = let k : record { value = v; next = end } ≡ f = cc in ap (λ (g : Field). g.next) k
  of_number (Err d) end e = cc

  of_word : (w : Option Word) → word_from s from ≡ w → field_at s w ≡ Ok f → (from < f.next) × (f.next ≤ length s)
  unfolding field_at
  of_word (Some w) h e =
      let k = word_inside s from w h in
      let l = of_number (numeral_answer (part w.start w.end s)) w.end e in (omega arith, omega arith)
  of_word None h e = cc

  pub field_inside : field_from s from ≡ Ok f → (from < f.next) × (f.next ≤ length s)
  unfolding field_from
  field_inside e = of_word (word_from s from) refl e

pub next_number : (s : List ℕ) (from : ℕ) (r : Result Field FieldError) → r ≡ field_from s from → NextNumber s from r
next_number s from r e = record { exact = e; inside = λ f h. field_inside s from f (sym e ∙ h) }
