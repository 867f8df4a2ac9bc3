-- What is promised of records: statements only, proved in proofs/RecordPromised.
use Rattle.std.specs.Prelude.{◌≡◌, true, false, List, ◌++◌, ℕ, ◌^◌, ◌≤◌, ◌<◌, length, take, drop, Result}
use Rattle.sizes.specs.Words.{Each}
use Rattle.sizes.specs.declared.refusal.Refusal.{Refusal}
use Rattle.sizes.specs.declared.refusal.Refusal.TheVariants as Because
use Rattle.wire.specs.Record.{done, fields, refused, record_size, good, written, padding, values_in, with_values, writing_said, reading_said, RecordWrites, RecordReads}
use Rattle.wire.specs.declared.record.Record.{Record}

-- each is a byte
abbrev pub Bytes : List ℕ → Type 0
Bytes bs = Each (λ b. b < 256) bs

-- why a record cannot be written: a value too wide, or numbers that do not agree with the FDT flag
pub data Fault (r : Record) : Type 0 where
  wide_id : 2 ^ 20 ≤ r.fdt_id → Fault r
  wide_toi : 2 ^ 64 ≤ r.toi → Fault r
  wide_block : 2 ^ 16 ≤ r.block.0 → Fault r
  wide_symbol : 2 ^ 16 ≤ r.symbol.0 → Fault r
  wide_length : 2 ^ 16 ≤ r.length → Fault r
  wide_total : 2 ^ 48 ≤ r.total → Fault r
  wide_symbols : 2 ^ 16 ≤ r.symbols → Fault r
  no_toi : r.is_fdt ≡ false → r.toi ≡ 0 → Fault r
  toi_of_fdt : r.is_fdt ≡ true → 0 < r.toi → Fault r
  id_of_object : r.is_fdt ≡ false → 0 < r.fdt_id → Fault r

-- why a write is refused
pub data WriteFault (before : List ℕ) (r : Record) : Type 0 where
  no_room : length before < record_size → WriteFault before r
  bad_fields : Fault r → WriteFault before r

-- why a read is refused
pub data ReadFault (bs : List ℕ) : Type 0 where
  wrong_length : (length bs ≡ record_size → ⊥) → ReadFault bs
  bit_in_padding : 0 < padding (values_in bs) → ReadFault bs
  bad_fields : Fault (with_values (values_in bs)) → ReadFault bs

-- of one write
pub record WritePromised (before : List ℕ) (r : Record) (a : Result (Unit {0}) Refusal) (after : List ℕ) : Type 0 where
  -- it is refused for these faults and no other
  pub refused_for : writing_said a ≡ refused Because.Record → WriteFault before r
  pub faults_refused : WriteFault before r → writing_said a ≡ refused Because.Record
  pub else_done : (WriteFault before r → ⊥) → writing_said a ≡ done
  -- refused, it leaves every byte; done, it leaves every byte behind the record
  pub untouched : writing_said a ≡ refused Because.Record → after ≡ before
  pub kept : drop record_size after ≡ drop record_size before
  pub same_length : length after ≡ length before
  -- what is written reads back as the same record
  pub reads_back : (b : Result Record Refusal) → writing_said a ≡ done → RecordReads (take record_size after) b → reading_said b ≡ fields r

-- of one read
pub record ReadPromised (bs : List ℕ) (a : Result Record Refusal) : Type 0 where
  -- it is refused for these faults and no other
  pub refused_for : reading_said a ≡ refused Because.Record → ReadFault bs
  pub faults_refused : ReadFault bs → reading_said a ≡ refused Because.Record
  pub else_read : (ReadFault bs → ⊥) → reading_said a ≡ fields (with_values (values_in bs))
  -- an accepted record written again, into any buffer with room, gives the same bytes
  pub writes_again : (r : Record) (before : List ℕ) (w : Result (Unit {0}) Refusal) (after : List ℕ) → reading_said a ≡ fields r → record_size ≤ length before
      → RecordWrites before r w after → (writing_said w ≡ done) × (after ≡ bs ++ drop record_size before)
  -- the bytes of a good record, and no others, are accepted
  pub accepted_written : (r : Record) → reading_said a ≡ fields r → (good r ≡ true) × (bs ≡ written r)
  pub written_accepted : (r : Record) → good r ≡ true → bs ≡ written r → reading_said a ≡ fields r

-- these hold of every write and of every read of bytes
abbrev pub RecordPromised : Type 0
RecordPromised =
    ((before : List ℕ) (r : Record) (a : Result (Unit {0}) Refusal) (after : List ℕ) → RecordWrites before r a after → WritePromised before r a after)
    × ((bs : List ℕ) (a : Result Record Refusal) → Bytes bs → RecordReads bs a → ReadPromised bs a)
