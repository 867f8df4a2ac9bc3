-- The packet record: its layout, what is refused, and what writing and reading answer.
use Rattle.std.specs.Prelude.{◌≡◌, Bool, ◌&&◌, List, [], ◌∷◌, ◌++◌, ℕ, eqb, leb, ltb, length, drop, get_or, Result, Ok, Err}
use Rattle.sizes.specs.Words.{when◌then◌else◌, one_if}
use Rattle.sizes.specs.Partition.{sbn, esi}
use Rattle.sizes.specs.declared.refusal.Refusal.{Refusal}
use Rattle.sizes.specs.declared.refusal.Refusal.TheVariants as Because
use Rattle.wire.specs.Packing.{Field, field_widths, join, fields_fit, split_bits, last_bytes, number_spelled}
use Rattle.wire.specs.declared.record.Record.{Record}

abbrev pub in_bits : ℕ → ℕ → Field
in_bits w v = record { width = w; value = v }

-- the fields of a record, the most significant first
unfoldable pub layout : Record → List Field
layout r =
    in_bits 1 (one_if r.is_fdt)
    ∷ in_bits 1 (one_if r.close)
    ∷ in_bits 20 r.fdt_id
    ∷ in_bits 64 r.toi
    ∷ in_bits 16 r.block.0
    ∷ in_bits 16 r.symbol.0
    ∷ in_bits 16 r.length
    ∷ in_bits 48 r.total
    ∷ in_bits 16 r.symbols
    ∷ in_bits 26 0
    ∷ []

-- the record whose fields have these values, in the same order
unfoldable pub with_values : List ℕ → Record
with_values vs = record {
  is_fdt = eqb (get_or vs 0 0) 1;
  close = eqb (get_or vs 1 0) 1;
  fdt_id = get_or vs 2 0;
  toi = get_or vs 3 0;
  block = sbn (get_or vs 4 0);
  symbol = esi (get_or vs 5 0);
  length = get_or vs 6 0;
  total = get_or vs 7 0;
  symbols = get_or vs 8 0;
}

-- the bits that must be 0
unfoldable pub padding : List ℕ → ℕ
padding vs = get_or vs 9 0

-- the widths are the same for every record
unfoldable pub record_widths : List ℕ
unfolding layout with_values
record_widths = field_widths (layout (with_values []))

-- in bytes
abbrev pub record_size : ℕ
record_size = 28

-- number 0 is the FDT's and no object's, and only an FDT has an id
unfoldable pub well_named : Record → Bool
well_named r = when r.is_fdt then eqb r.toi 0 else ltb 0 r.toi && eqb r.fdt_id 0

-- no value is too wide, and the numbers agree with the FDT flag
unfoldable pub good : Record → Bool
good r = fields_fit (layout r) && well_named r

-- the bytes of a record
unfoldable pub written : Record → List ℕ
written r = last_bytes record_size (join (layout r))

-- the values that stand in some bytes
unfoldable pub values_in : List ℕ → List ℕ
values_in bs = split_bits record_widths (number_spelled bs)

-- what a call says: that it was done, the fields, or why it is refused
pub data RecordAnswer : Type 0 where
  done : RecordAnswer
  fields : Record → RecordAnswer
  refused : Refusal → RecordAnswer

abbrev pub writing_said : Result (Unit {0}) Refusal → RecordAnswer
writing_said (Ok u) = done
writing_said (Err why) = refused why

abbrev pub reading_said : Result Record Refusal → RecordAnswer
reading_said (Ok r) = fields r
reading_said (Err why) = refused why

-- is there room, and can the record be written
unfoldable pub writable : List ℕ → Record → Bool
writable out r = leb record_size (length out) && good r

-- what a write answers, and what stands in the buffer then: the record's bytes and what stood behind them; or what stood there
unfoldable pub write_answer : List ℕ → Record → RecordAnswer
write_answer out r = when writable out r then done else refused Because.Record

unfoldable pub write_buffer : List ℕ → Record → List ℕ
write_buffer out r = when writable out r then written r ++ drop record_size out else out

pub record RecordWrites (before : List ℕ) (r : Record) (a : Result (Unit {0}) Refusal) (after : List ℕ) : Type 0 where
  pub answer : writing_said a ≡ write_answer before r
  pub buffer : after ≡ write_buffer before r

-- do the bytes have the length of a record, no bit in the padding, and fields that can be written
unfoldable pub readable : List ℕ → Bool
readable bs = eqb (length bs) record_size && eqb (padding (values_in bs)) 0 && good (with_values (values_in bs))

-- what a read answers
unfoldable pub read_answer : List ℕ → RecordAnswer
read_answer bs = when readable bs then fields (with_values (values_in bs)) else refused Because.Record

pub record RecordReads (bs : List ℕ) (a : Result Record Refusal) : Type 0 where
  pub answer : reading_said a ≡ read_answer bs
