-- Bytes in hex: two digits for each byte, the higher one first.
use Rattle.std.specs.Prelude.{◌≡◌, List, [], ◌∷◌, ◌++◌, ℕ, ◌+◌, ◌-◌, ◌*◌, ◌/◌, ◌%◌, ◌≤◌, ltb, length, take}
use Rattle.std.specs.Prelude.{Option, Some, None}
use Rattle.sizes.specs.Words.{when◌then◌else◌, within}

-- the ASCII code of a digit: `0` to `9`, then `a` to `f`
unfoldable pub digit_of : ℕ → ℕ
digit_of n = when ltb n 10 then 48 + n else 87 + n

-- a byte, and a list of bytes
unfoldable pub byte_text : ℕ → List ℕ
byte_text b = digit_of (b / 16) ∷ digit_of (b % 16) ∷ []

unfoldable pub hex_of : List ℕ → List ℕ
hex_of [] = []
hex_of (b ∷ l) = byte_text b ++ hex_of l

-- what a digit stands for: `0` to `9`, `A` to `F`, or `a` to `f`
unfoldable pub value_of : ℕ → Option ℕ
value_of c =
    when within 48 57 c then Some (c - 48) else
    (when within 65 70 c then Some (c - 55) else
    (when within 97 102 c then Some (c - 87) else None))

-- two digits
unfoldable pub pair_value : Option ℕ → Option ℕ → Option ℕ
pair_value (Some a) (Some b) = Some (16 * a + b)
pair_value (Some a) None = None
pair_value None b = None

-- a byte in front of what may be spelled behind it
unfoldable pub in_front : Option ℕ → Option (List ℕ) → Option (List ℕ)
in_front (Some b) (Some l) = Some (b ∷ l)
in_front (Some b) None = None
in_front None l = None

-- the bytes that digits spell, if they do
unfoldable pub spelled : List ℕ → Option (List ℕ)
spelled [] = Some []
spelled (a ∷ []) = None
spelled (a ∷ (b ∷ l)) = in_front (pair_value (value_of a) (value_of b)) (spelled l)

-- what read_hex says of a word: how many bytes of the buffer are those that the word spells; or that it spells none
abbrev pub spelled_said : List ℕ → Option ℕ → Option (List ℕ)
spelled_said out (Some n) = Some (take n out)
spelled_said out None = None

abbrev pub Within : List ℕ → Option ℕ → Type 0
Within out (Some n) = n ≤ length out
Within out None = Unit {0}

pub record HexRead (w out : List ℕ) (r : Option ℕ) : Type 0 where
  pub exact : spelled_said out r ≡ spelled w
  pub inside : Within out r
