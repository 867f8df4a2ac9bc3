-- The promises on records hold: what is refused, what is written and read back, what is read and written again.
use mathlib.Core.Path.{◌≡◌, refl, sym, ◌∙◌, ap, subst}
use mathlib.Core.Bool.{Bool, true, false, ◌&&◌, true≢false}
use mathlib.Core.List.{List, [], ◌∷◌, ◌++◌}
use mathlib.Core.Logic.{⊎_elim}
use Prim.Native.Nat.{ℕ, ◌/◌, ◌%◌, ◌^◌, ◌<◌, ◌≤◌}
use native.Mathlib.Omega.{arith}
use borrow.Author.Tests.{lt-leb, le-leb, leb-true, eqb-true, eqb-false, eq-eqb, ne_eqb}
use lib.Dec.{eqb, leb}
use lib.ListN.{length, take, drop, length-append, length-drop}
use lib.Seq.{take_at, drop_at}
use Rattle.std.specs.Prelude.{Result}
use Rattle.sizes.specs.declared.refusal.Refusal.{Refusal}
use Rattle.sizes.specs.declared.refusal.Refusal.TheVariants as Because
use Rattle.sizes.proofs.Tests.{Tested, pass, fail, tested, and_left, and_right}
use Rattle.sizes.proofs.Arithmetic.{below_or}
use Rattle.wire.specs.Packing.{total, join, fields_fit, split_bits, last_bytes, number_spelled}
use Rattle.wire.specs.Record.{in_bits, layout, with_values, padding, record_widths, record_size, well_named, good, written, values_in, RecordAnswer, done, fields, refused, writing_said, reading_said, writable, write_answer, write_buffer, RecordWrites, readable, read_answer, RecordReads}
use Rattle.wire.specs.RecordPromises.{Bytes, Fault, wide_id, wide_toi, wide_block, wide_symbol, wide_length, wide_total, wide_symbols, no_toi, toi_of_fdt, id_of_object, WriteFault, ReadFault, WritePromised, ReadPromised, RecordPromised}
use Rattle.wire.specs.declared.record.Record.{Record}
use Rattle.wire.proofs.PackingLaws.{field_values, with_widths, join_below, join_split_below, number_below, number_bytes, bytes_number, bytes_length}
use Rattle.wire.proofs.RecordLaws.{Fit, fit_fits, good_fit, wide_bad, fit_good, fdt_named, no_number, object_named, bit_flag, values_back, values_spelt, read_good}

-- a fault, or none
named_bad : (r : Record) → well_named r ≡ false → good r ≡ false
unfolding good
named_bad r e = go (fields_fit (layout r))
  where
    go : (t : Bool) → (t && well_named r) ≡ false
    go true = e
    go false = refl

object_id : (r : Record) → r.is_fdt ≡ false → 0 < r.fdt_id → well_named r ≡ false
object_id r e h =
    ⊎_elim (λ p. object_named r e (omega arith) ∙ ne_eqb r.fdt_id 0 (omega arith)) (λ z. no_number r e (omega arith)) (below_or 0 r.toi)

pub fault_bad : (r : Record) → Fault r → good r ≡ false
fault_bad r (wide_id h) = wide_bad r (λ f. omega (arith, f.fdt_id))
fault_bad r (wide_toi h) = wide_bad r (λ f. omega (arith, f.toi))
fault_bad r (wide_block h) = wide_bad r (λ f. omega (arith, f.block))
fault_bad r (wide_symbol h) = wide_bad r (λ f. omega (arith, f.symbol))
fault_bad r (wide_length h) = wide_bad r (λ f. omega (arith, f.length))
fault_bad r (wide_total h) = wide_bad r (λ f. omega (arith, f.total))
fault_bad r (wide_symbols h) = wide_bad r (λ f. omega (arith, f.symbols))
fault_bad r (no_toi e z) = named_bad r (no_number r e z)
fault_bad r (toi_of_fdt e h) = named_bad r (fdt_named r e ∙ ne_eqb r.toi 0 (omega arith))
fault_bad r (id_of_object e h) = named_bad r (object_id r e h)

named_fault : (r : Record) → well_named r ≡ false → Fault r
named_fault r b = go (tested r.is_fdt)
  where
    go : Tested r.is_fdt → Fault r
    go (pass e) =
        ⊎_elim (λ h. toi_of_fdt e h) (λ h. absurd (true≢false (sym (fdt_named r e ∙ eq-eqb r.toi 0 (omega arith)) ∙ b))) (below_or 0 r.toi)
    go (fail e) =
        ⊎_elim (λ h. ⊎_elim (λ k. id_of_object e k)
        (λ k. absurd (true≢false (sym (object_named r e (omega arith) ∙ eq-eqb r.fdt_id 0 (omega arith)) ∙ b))) (below_or 0 r.fdt_id))
        (λ h. no_toi e (omega arith)) (below_or 0 r.toi)

pub bad_fault : (r : Record) → good r ≡ false → Fault r
bad_fault r b =
    ⊎_elim (λ i. ⊎_elim (λ t. ⊎_elim (λ k. ⊎_elim (λ s. ⊎_elim (λ l. ⊎_elim (λ n. ⊎_elim
    (λ m. named_fault r (sym (fit_good r (record { fdt_id = i; toi = t; block = k; symbol = s; length = l; total = n; symbols = m })) ∙ b))
    wide_symbols (below_or r.symbols (2 ^ 16)))
    wide_total (below_or r.total (2 ^ 48)))
    wide_length (below_or r.length (2 ^ 16)))
    wide_symbol (below_or r.symbol.0 (2 ^ 16)))
    wide_block (below_or r.block.0 (2 ^ 16)))
    wide_toi (below_or r.toi (2 ^ 64)))
    wide_id (below_or r.fdt_id (2 ^ 20))

-- done is no refusal, and fields are none
done≢refused : (why : Refusal) → done ≡ refused why → ⊥
done≢refused why e = let z : ◌≡◌ {A = ℕ} 0 1 = cc in omega arith

fields≢refused : (r : Record) (why : Refusal) → fields r ≡ refused why → ⊥
fields≢refused r why e = let z : ◌≡◌ {A = ℕ} 0 1 = cc in omega arith

-- THE RECORD IS READ BACK: its bytes spell its number, and so hold its values
pub written_length : (r : Record) → length (written r) ≡ record_size
unfolding written
written_length r = bytes_length record_size (join (layout r))

spells : (r : Record) → Fit r → number_spelled (written r) ≡ join (layout r)
unfolding written layout total
spells r f = number_bytes record_size (join (layout r)) (join_below (layout r) (fit_fits r f))

no_padding : (r : Record) → padding (field_values (layout r)) ≡ 0
unfolding padding layout
no_padding r = refl

pub read_written : (r : Record) → good r ≡ true → read_answer (written r) ≡ fields r
read_written r g =
    let v = values_spelt (written r) r (good_fit r g) (spells r (good_fit r g)) in
    sym (read_good (written r) r (written_length r) (ap padding v ∙ no_padding r) (ap with_values v ∙ values_back r) g).answer

-- WRITTEN AGAIN: values split out of a number are those of the record that has them
layout_back : (n : ℕ) → padding (split_bits record_widths n) ≡ 0 → layout (with_values (split_bits record_widths n)) ≡ with_widths record_widths (split_bits record_widths n)
unfolding padding split_bits record_widths layout with_values with_widths total
layout_back n p = λ i.
    in_bits 1 (bit_flag (n / 2 ^ 223) i)
    ∷ in_bits 1 (bit_flag (n / 2 ^ 222) i)
    ∷ in_bits 20 (n / 2 ^ 202 % 2 ^ 20)
    ∷ in_bits 64 (n / 2 ^ 138 % 2 ^ 64)
    ∷ in_bits 16 (n / 2 ^ 122 % 2 ^ 16)
    ∷ in_bits 16 (n / 2 ^ 106 % 2 ^ 16)
    ∷ in_bits 16 (n / 2 ^ 90 % 2 ^ 16)
    ∷ in_bits 48 (n / 2 ^ 42 % 2 ^ 48)
    ∷ in_bits 16 (n / 2 ^ 26 % 2 ^ 16)
    ∷ in_bits 26 (sym p i)
    ∷ []

in_28 : (bs : List ℕ) → Bytes bs → length bs ≡ record_size → number_spelled bs < 2 ^ total record_widths
unfolding total record_widths layout with_values
in_28 bs b h = subst (λ k. number_spelled bs < 2 ^ total (lib.ListN.replicate k 8)) h (number_below bs b)

pub written_back : (bs : List ℕ) → Bytes bs → length bs ≡ record_size → padding (values_in bs) ≡ 0 → written (with_values (values_in bs)) ≡ bs
unfolding written values_in
written_back bs b h p =
    ap (λ fs. last_bytes record_size (join fs)) (layout_back (number_spelled bs) p)
    ∙ ap (last_bytes record_size) (join_split_below record_widths (number_spelled bs) (in_28 bs b h))
    ∙ ap (λ k. last_bytes k (number_spelled bs)) (sym h)
    ∙ bytes_number bs b

-- one write
module _ (before : List ℕ) (r : Record) (a : Result (Unit {0}) Refusal) (after : List ℕ) (w : RecordWrites before r a after) where
  yes : writable before r ≡ true → (writing_said a ≡ done) × (after ≡ written r ++ drop record_size before)
  unfolding write_answer write_buffer
  yes e = (w.answer ∙ rw e, w.buffer ∙ rw e)

  no : writable before r ≡ false → (writing_said a ≡ refused Because.Record) × (after ≡ before)
  unfolding write_answer write_buffer
  no e = (w.answer ∙ rw e, w.buffer ∙ rw e)

  was_yes : writing_said a ≡ done → writable before r ≡ true
  was_yes s = go (tested (writable before r))
    where
      go : Tested (writable before r) → writable before r ≡ true
      go (pass e) = e
      go (fail e) = absurd (done≢refused Because.Record (sym s ∙ (no e).0))

  was_no : writing_said a ≡ refused Because.Record → writable before r ≡ false
  was_no s = go (tested (writable before r))
    where
      go : Tested (writable before r) → writable before r ≡ false
      go (pass e) = absurd (done≢refused Because.Record (sym (yes e).0 ∙ s))
      go (fail e) = e

  room : writable before r ≡ true → record_size ≤ length before
  unfolding writable
  room e = leb-true record_size (length before) (and_left (leb record_size (length before)) (good r) e)

  fine : writable before r ≡ true → good r ≡ true
  unfolding writable
  fine e = and_right (leb record_size (length before)) (good r) e

  short_no : length before < record_size → writable before r ≡ false
  unfolding writable
  short_no h = rw (lt-leb record_size (length before) h)

  bad_no : good r ≡ false → writable before r ≡ false
  bad_no g = go (tested (writable before r))
    where
      go : Tested (writable before r) → writable before r ≡ false
      go (pass e) = absurd (true≢false (sym (fine e) ∙ g))
      go (fail e) = e

  faulty_no : WriteFault before r → writable before r ≡ false
  faulty_no (WriteFault.no_room h) = short_no h
  faulty_no (WriteFault.bad_fields f) = bad_no (fault_bad r f)

  no_faulty : writable before r ≡ false → WriteFault before r
  unfolding writable
  no_faulty e =
      ⊎_elim WriteFault.no_room (λ h. WriteFault.bad_fields (bad_fault r (rw (le-leb record_size (length before) h) at e))) (below_or (length before) record_size)

  pub write_promised : WritePromised before r a after
  write_promised = record {
    refused_for = λ s. no_faulty (was_no s);
    faults_refused = λ f. (no (faulty_no f)).0;
    else_done = λ n. all_done n (tested (writable before r));
    untouched = λ s. (no (was_no s)).1;
    kept = behind (tested (writable before r));
    same_length = as_long (tested (writable before r));
    reads_back = back;
  }
    where
      all_done : (WriteFault before r → ⊥) → Tested (writable before r) → writing_said a ≡ done
      all_done n (pass e) = (yes e).0
      all_done n (fail e) = absurd (n (no_faulty e))

      behind : Tested (writable before r) → drop record_size after ≡ drop record_size before
      behind (pass e) = ap (drop record_size) (yes e).1 ∙ drop_at (written r) (drop record_size before) record_size (written_length r)
      behind (fail e) = ap (drop record_size) (no e).1

      as_long : Tested (writable before r) → length after ≡ length before
      as_long (pass e) =
          ap length (yes e).1 ∙ length-append (written r) (drop record_size before) ∙ omega (arith, written_length r, length-drop record_size before, room e)
      as_long (fail e) = ap length (no e).1

      back : (b : Result Record Refusal) → writing_said a ≡ done → RecordReads (take record_size after) b → reading_said b ≡ fields r
      back b s q =
          let e = was_yes s in
          let t : take record_size after ≡ written r = ap (take record_size) (yes e).1 ∙ take_at (written r) (drop record_size before) record_size (written_length r) in
          q.answer ∙ ap read_answer t ∙ read_written r (fine e)

-- one read
module _ (bs : List ℕ) (a : Result Record Refusal) (b : Bytes bs) (q : RecordReads bs a) where
  found : Record
  found = with_values (values_in bs)

  got : readable bs ≡ true → reading_said a ≡ fields found
  unfolding read_answer found
  got e = q.answer ∙ rw e

  not_got : readable bs ≡ false → reading_said a ≡ refused Because.Record
  unfolding read_answer
  not_got e = q.answer ∙ rw e

  was_got : (r : Record) → reading_said a ≡ fields r → readable bs ≡ true
  was_got r s = go (tested (readable bs))
    where
      go : Tested (readable bs) → readable bs ≡ true
      go (pass e) = e
      go (fail e) = absurd (fields≢refused r Because.Record (sym s ∙ not_got e))

  was_not : reading_said a ≡ refused Because.Record → readable bs ≡ false
  was_not s = go (tested (readable bs))
    where
      go : Tested (readable bs) → readable bs ≡ false
      go (pass e) = absurd (fields≢refused found Because.Record (sym (got e) ∙ s))
      go (fail e) = e

  readable_all : readable bs ≡ true → (length bs ≡ record_size) × (padding (values_in bs) ≡ 0) × (good found ≡ true)
  unfolding readable found
  readable_all e =
      let l = eqb (length bs) record_size in
      let p = eqb (padding (values_in bs)) 0 in
      let lp = and_left (l && p) (good found) e in
      (eqb-true (length bs) record_size (and_left l p lp), eqb-true (padding (values_in bs)) 0 (and_right l p lp), and_right (l && p) (good found) e)

  all_readable : length bs ≡ record_size → padding (values_in bs) ≡ 0 → good found ≡ true → readable bs ≡ true
  unfolding readable found
  all_readable h p g = rw (eq-eqb (length bs) record_size h, eq-eqb (padding (values_in bs)) 0 p, g)

  faulty_not : ReadFault bs → readable bs ≡ false
  unfolding found
  faulty_not f = go (tested (readable bs)) f
    where
      None : readable bs ≡ true → ReadFault bs → ⊥
      None e (ReadFault.wrong_length n) = n (readable_all e).0
      None e (ReadFault.bit_in_padding h) = omega (arith, (readable_all e).1)
      None e (ReadFault.bad_fields g) = true≢false (sym (readable_all e).2 ∙ fault_bad found g)

      go : Tested (readable bs) → ReadFault bs → readable bs ≡ false
      go (pass e) g = absurd (None e g)
      go (fail e) g = e

  not_faulty : readable bs ≡ false → ReadFault bs
  unfolding found
  not_faulty e =
      by_length (tested (eqb (length bs) record_size))
    where
      by_good : length bs ≡ record_size → padding (values_in bs) ≡ 0 → Tested (good found) → ReadFault bs
      by_good h p (pass g) = absurd (true≢false (sym (all_readable h p g) ∙ e))
      by_good h p (fail g) = ReadFault.bad_fields (bad_fault found g)

      by_length : Tested (eqb (length bs) record_size) → ReadFault bs
      by_length (pass h) =
          ⊎_elim ReadFault.bit_in_padding (λ p. by_good (eqb-true (length bs) record_size h) (omega arith) (tested (good found))) (below_or 0 (padding (values_in bs)))
      by_length (fail h) = ReadFault.wrong_length (eqb-false (length bs) record_size h)

  accepted : (r : Record) → reading_said a ≡ fields r → (good r ≡ true) × (bs ≡ written r)
  unfolding found
  accepted r s =
      let e = was_got r s in
      let k = readable_all e in
      let same : found ≡ r = same_fields (got e) s in
      (subst (λ x. good x ≡ true) same k.2, sym (written_back bs b k.0 k.1) ∙ ap written same)
    where
      same_fields : {s : RecordAnswer} {x y : Record} → s ≡ fields x → s ≡ fields y → x ≡ y
      same_fields p q = cc

  pub read_promised : ReadPromised bs a
  unfolding found writable
  read_promised = record {
    refused_for = λ s. not_faulty (was_not s);
    faults_refused = λ f. not_got (faulty_not f);
    else_read = λ n. all_read n (tested (readable bs));
    writes_again = again;
    accepted_written = accepted;
    written_accepted = λ r g e. q.answer ∙ ap read_answer e ∙ read_written r g;
  }
    where
      all_read : (ReadFault bs → ⊥) → Tested (readable bs) → reading_said a ≡ fields found
      all_read n (pass e) = got e
      all_read n (fail e) = absurd (n (not_faulty e))

      again : (r : Record) (before : List ℕ) (w : Result (Unit {0}) Refusal) (after : List ℕ) → reading_said a ≡ fields r → record_size ≤ length before
          → RecordWrites before r w after → (writing_said w ≡ done) × (after ≡ bs ++ drop record_size before)
      again r before w after s h m =
          let k = accepted r s in
          let y = yes before r w after m (rw (le-leb record_size (length before) h) k.0) in
          (y.0, y.1 ∙ ap (λ l. l ++ drop record_size before) (sym k.1))

-- THE PROMISES HOLD
pub promised : RecordPromised
promised = (write_promised, read_promised)
