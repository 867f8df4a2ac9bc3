-- The record as three words of 64 bits and one of 32. A field that two words share is cut in two.
use Rattle.std.specs.Prelude.{◌≡◌, List, [], ◌∷◌, ℕ, ◌+◌, ◌*◌, ◌/◌, ◌%◌, ◌^◌, eqb, length, take, drop}
use Rattle.sizes.specs.Words.{one_if}
use Rattle.sizes.specs.Partition.{sbn, esi}
use Rattle.wire.specs.Packing.{Field, number_spelled}
use Rattle.wire.specs.Record.{in_bits}
use Rattle.wire.specs.declared.record.Record.{Record}

-- the fields of each word
unfoldable pub first_fields : Record → List Field
first_fields r = in_bits 1 (one_if r.is_fdt) ∷ in_bits 1 (one_if r.close) ∷ in_bits 20 r.fdt_id ∷ in_bits 42 (r.toi / 2 ^ 22) ∷ []

unfoldable pub second_fields : Record → List Field
second_fields r = in_bits 22 (r.toi % 2 ^ 22) ∷ in_bits 16 r.block.0 ∷ in_bits 16 r.symbol.0 ∷ in_bits 10 (r.length / 2 ^ 6) ∷ []

unfoldable pub third_fields : Record → List Field
third_fields r = in_bits 6 (r.length % 2 ^ 6) ∷ in_bits 48 r.total ∷ in_bits 10 (r.symbols / 2 ^ 6) ∷ []

unfoldable pub last_fields : Record → List Field
last_fields r = in_bits 6 (r.symbols % 2 ^ 6) ∷ in_bits 26 0 ∷ []

-- the record that the words hold
unfoldable pub record_in : ℕ → ℕ → ℕ → ℕ → Record
record_in a b c d = record {
  is_fdt = eqb (a / 2 ^ 63 % 2) 1;
  close = eqb (a / 2 ^ 62 % 2) 1;
  fdt_id = a / 2 ^ 42 % 2 ^ 20;
  toi = a % 2 ^ 42 * 2 ^ 22 + b / 2 ^ 42 % 2 ^ 22;
  block = sbn (b / 2 ^ 26 % 2 ^ 16);
  symbol = esi (b / 2 ^ 10 % 2 ^ 16);
  length = b % 2 ^ 10 * 2 ^ 6 + c / 2 ^ 58 % 2 ^ 6;
  total = c / 2 ^ 10 % 2 ^ 48;
  symbols = c % 2 ^ 10 * 2 ^ 6 + d / 2 ^ 26 % 2 ^ 6;
}

-- the words that 28 bytes spell
pub record AreWords (bs : List ℕ) (a b c d : ℕ) : Type 0 where
  pub size : length bs ≡ 28
  pub first : a ≡ number_spelled (take 8 bs)
  pub second : b ≡ number_spelled (take 8 (drop 8 bs))
  pub third : c ≡ number_spelled (take 8 (drop 16 bs))
  pub last : d ≡ number_spelled (drop 24 bs)
