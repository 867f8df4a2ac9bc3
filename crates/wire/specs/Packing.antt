-- Numbers packed into bits, the most significant first: a list of fields as one number, and back. Bytes are fields of 8 bits.
use Rattle.std.specs.Prelude.{Bool, true, ◌&&◌, List, [], ◌∷◌, map, ℕ, ◌+◌, ◌*◌, ◌/◌, ◌%◌, ◌^◌, ltb, replicate}

-- a number and the bits that it takes
pub record Field : Type 0 where
  pub width : ℕ
  pub value : ℕ

abbrev pub field_widths : List Field → List ℕ
field_widths fs = map (λ f. f.width) fs

-- how many bits all of them take
unfoldable pub total : List ℕ → ℕ
total [] = 0
total (w ∷ ws) = w + total ws

-- the number that has the fields in its bits, the first one highest
unfoldable pub join : List Field → ℕ
join [] = 0
join (f ∷ fs) = f.value * 2 ^ total (field_widths fs) + join fs

-- does each value fit its width
unfoldable pub fields_fit : List Field → Bool
fields_fit [] = true
fields_fit (f ∷ fs) = ltb f.value (2 ^ f.width) && fields_fit fs

-- the values that stand in the bits of a number, for fields of these widths: each lies above the bits of those behind it
unfoldable pub split_bits : List ℕ → ℕ → List ℕ
split_bits [] n = []
split_bits (w ∷ ws) n = n / 2 ^ total ws % 2 ^ w ∷ split_bits ws n

-- the last k bytes of a number
unfoldable pub last_bytes : ℕ → ℕ → List ℕ
last_bytes k n = split_bits (replicate k 8) n

abbrev pub byte : ℕ → Field
byte b = record { width = 8; value = b }

-- the number that a list of bytes spells
unfoldable pub number_spelled : List ℕ → ℕ
number_spelled bs = join (map byte bs)
