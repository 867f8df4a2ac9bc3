-- The bytes of the two stores, and the checksum.
use Rattle.std.specs.Prelude.{◌≡◌, Bool, List, [], ◌∷◌, ℕ, ◌+◌, ◌*◌, ◌/◌, ◌%◌, ◌<◌, length, get_or}
use Rattle.sizes.specs.Words.{when◌then◌else◌}
use Rattle.lifecycle.specs.declared.parts.Part.{Part}

-- byte i of the FDT store, or of the object store
unfoldable pub byte_at : Bool → ℕ → ℕ
byte_at is_fdt i = when is_fdt then (83 * i + 29 * (i / 241) + 7) % 128 else (167 * i + 59 * (i / 251) + 13) % 256

-- after how many bytes a store repeats itself
unfoldable pub period_of : Bool → ℕ
period_of is_fdt = when is_fdt then 241 * 128 else 251 * 256

-- a part with the same bytes, near the front
unfoldable pub nearer_of : Bool → Part → Part
nearer_of is_fdt c = record { start = c.start % period_of is_fdt; size = c.size }

unfoldable pub Filled : Bool → List ℕ → Type 0
Filled is_fdt store = (i : ℕ) → i < length store → get_or store i 0 ≡ byte_at is_fdt i

-- one more byte in a checksum
unfoldable pub sum_with : ℕ → ℕ → ℕ
sum_with sum b = (257 * sum + b + 1) % 4294967291

-- the checksum of bytes, behind others whose checksum is `sum`
unfoldable pub sum_of : ℕ → List ℕ → ℕ
sum_of sum [] = sum
sum_of sum (b ∷ l) = sum_of (sum_with sum b) l
