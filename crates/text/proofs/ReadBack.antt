-- The numeral that a number is written as stands for that number: as text::put_number writes it, and as the library's format does.
use mathlib.Core.Path.{◌≡◌, refl, ap, ◌∙◌}
use mathlib.Core.List.{List, [], ◌∷◌, ◌++◌}
use mathlib.Core.Bool.{true}
use Rattle.std.specs.Prelude.{Some}
use Prim.Native.Nat.{ℕ, zero, suc, ◌+◌, ◌/◌, ◌%◌, ◌^◌, ◌<◌, ◌≤◌}
use native.Mathlib.Omega.{arith}
use borrow.Author.Tests.{lt-ltb, le-leb}
use lib.ListN.{length, length-append}
use Rattle.io.specs.Digits.{last_digits, hex_digit_ascii}
use Rattle.std.specs.Fmt.{decimal as format}
use Rattle.std.proofs.lemmas.Fmt.{decimal_by_steps}
use Rattle.text.specs.Numbers.{digit, all_digits, value_from, numeral}
use Rattle.text.proofs.Lists.{both}
use Rattle.text.proofs.Numbers.{value_snoc, numeral_some}

glyph_is : (n : ℕ) → hex_digit_ascii (n % 10) ≡ 48 + n % 10
glyph_is n = rw (lt-ltb (n % 10) 10 (omega arith))

all_snoc : (l : List ℕ) (b : ℕ) → all_digits l ≡ true → digit b ≡ true → all_digits (l ++ (b ∷ [])) ≡ true
unfolding all_digits
all_snoc [] b h e = rw e
all_snoc (x ∷ l) b h e = let t = both (digit x) (all_digits l) h in rw t.0 (all_snoc l b t.1 e)

digits_all : (k n : ℕ) → all_digits (last_digits 10 k n) ≡ true
unfolding all_digits digit
digits_all zero n = refl
digits_all (suc k) n = all_snoc (last_digits 10 k (n / 10)) (hex_digit_ascii (n % 10)) (digits_all k (n / 10))
    (rw (glyph_is n, le-leb 48 (48 + n % 10) (omega arith), le-leb (48 + n % 10) 57 (omega arith)))

digits_value : (k n : ℕ) → n < 10 ^ k → value_from 0 (last_digits 10 k n) ≡ n
unfolding value_from
digits_value zero n h = omega arith
digits_value (suc k) n h =
    value_snoc 0 (last_digits 10 k (n / 10)) (hex_digit_ascii (n % 10)) ∙ rw (digits_value k (n / 10) (omega arith), glyph_is n) (omega arith)

pub digits_length : (k n : ℕ) → length (last_digits 10 k n) ≡ k
digits_length zero n = refl
digits_length (suc k) n = rw (length-append (last_digits 10 k (n / 10)) (hex_digit_ascii (n % 10) ∷ []), digits_length k (n / 10)) (omega arith)

pub read_back : (k n : ℕ) → 0 < k → n < 10 ^ k → numeral (last_digits 10 k n) ≡ Some n
read_back k n h l = numeral_some (last_digits 10 k n) (rw (digits_length k n) h) (digits_all k n) ∙ ap Some (digits_value k n l)

-- what a format writes of a number, `{}`, likewise
formatted : (n : ℕ) → n < 2 ^ 64 → (0 < length (format n)) × (all_digits (format n) ≡ true) × (value_from 0 (format n) ≡ n)
unfolding all_digits digit value_from
formatted = decimal_by_steps (λ m ds. (0 < length ds) × (all_digits ds ≡ true) × (value_from 0 ds ≡ m)) one more
  where
    one : (m : ℕ) → m < 10 → (0 < length ((48 + m) ∷ [])) × (all_digits ((48 + m) ∷ []) ≡ true) × (value_from 0 ((48 + m) ∷ []) ≡ m)
    one m l = (omega arith, rw (le-leb 48 (48 + m) (omega arith), le-leb (48 + m) 57 (omega arith)) refl, omega arith)

    more : (m : ℕ) (ds : List ℕ) → 10 ≤ m → (0 < length ds) × (all_digits ds ≡ true) × (value_from 0 ds ≡ m / 10)
        → (0 < length (ds ++ ((48 + m % 10) ∷ []))) × (all_digits (ds ++ ((48 + m % 10) ∷ [])) ≡ true) × (value_from 0 (ds ++ ((48 + m % 10) ∷ [])) ≡ m)
    more m ds l h = (
      omega (arith, length-append ds ((48 + m % 10) ∷ [])),
      all_snoc ds (48 + m % 10) h.1 (rw (le-leb 48 (48 + m % 10) (omega arith), le-leb (48 + m % 10) 57 (omega arith)) refl),
      value_snoc 0 ds (48 + m % 10) ∙ rw h.2 (omega arith),
    )

pub read_formatted : (n : ℕ) → n < 2 ^ 64 → numeral (format n) ≡ Some n
read_formatted n l = let f = formatted n l in numeral_some (format n) f.0 f.1 ∙ ap Some f.2
