-- Records as the definition spells them, computed.
use mathlib.Core.Path.{◌≡◌, refl}
use mathlib.Core.Bool.{true, false}
use mathlib.Core.List.{List, [], ◌∷◌, ◌++◌}
use Prim.Native.Nat.{ℕ}
use lib.ListN.{replicate}
use Rattle.sizes.specs.Partition.{sbn, esi}
use Rattle.sizes.specs.declared.refusal.Refusal.TheVariants as Because
use Rattle.wire.specs.Packing.{total, join, fields_fit, split_bits, last_bytes, number_spelled}
use Rattle.wire.specs.Record.{layout, with_values, padding, record_widths, well_named, good, written, values_in, fields, refused, readable, read_answer}
use Rattle.wire.specs.declared.record.Record.{Record}

-- the bench sheet's: object, TOI 1, block 0, symbol 0, length 2, of 10, count 2, no close
abbrev bench : Record
bench = record { is_fdt = false; close = false; fdt_id = 0; toi = 1; block = sbn 0; symbol = esi 0; length = 2; total = 10; symbols = 2 }

zeros : ℕ → List ℕ
zeros k = replicate k 0

-- bytes 10, 16, 22 and 24, and what stands behind them
abbrev bench_bytes : ℕ → List ℕ
bench_bytes end = zeros 10 ++ (0x04 ∷ []) ++ zeros 5 ++ (0x08 ∷ []) ++ zeros 5 ++ (0x28 ∷ []) ++ zeros 1 ++ (0x08 ∷ []) ++ zeros 2 ++ (end ∷ [])

bench_written : written bench ≡ bench_bytes 0
unfolding zeros written layout total join last_bytes split_bits
bench_written = refl

bench_read : read_answer (bench_bytes 0) ≡ fields bench
unfolding zeros read_answer readable values_in record_widths layout with_values padding good well_named fields_fit total join number_spelled split_bits
bench_read = refl

-- with a bit in the padding
padded_refused : read_answer (bench_bytes 1) ≡ refused Because.Record
unfolding zeros read_answer readable values_in record_widths layout with_values padding good well_named fields_fit total join number_spelled split_bits
padded_refused = refl

-- FDT with id 1, close, block 2, symbol 3, length 4, of 5, count 6
fdt_written : written (record { is_fdt = true; close = true; fdt_id = 1; toi = 0; block = sbn 2; symbol = esi 3; length = 4; total = 5; symbols = 6 })
    ≡ (0xC0 ∷ 0 ∷ 0x04 ∷ []) ++ zeros 8 ++ (0 ∷ 0x08 ∷ 0 ∷ 0x0C ∷ 0 ∷ 0x10 ∷ 0 ∷ 0 ∷ 0 ∷ 0 ∷ 0 ∷ 0x14 ∷ 0 ∷ 0x18 ∷ 0 ∷ 0 ∷ 0 ∷ [])
unfolding zeros written layout total join last_bytes split_bits
fdt_written = refl
