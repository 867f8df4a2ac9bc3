-- Laws of the record: which values fit, the record in words, and what its words hold.
use mathlib.Core.Path.{◌≡◌, refl, sym, ◌∙◌, ap}
use mathlib.Core.Bool.{Bool, true, false}
use mathlib.Core.List.{List, [], ◌∷◌, ◌++◌, append_assoc}
use Prim.Native.Nat.{ℕ, zero, suc, ◌+◌, ◌*◌, ◌/◌, ◌%◌, ◌^◌, ◌<◌, ◌≤◌}
use native.Mathlib.Nat.{mod-lt, div-one, add-mul, mul_assoc, mul-add-mod_self_right, div-add-mod'}
use native.Mathlib.Omega.{arith}
use borrow.Author.Tests.{lt-ltb, le-leb, lt-leb, eq-eqb, ne_eqb}
use mir.Val.{bool_byte}
use lib.Dec.{eqb}
use lib.Pow.{pow-add, pow_pos}
use lib.ListN.{length, drop, length-drop}
use lib.Seq.{drop-drop}
use Rattle.std.specs.Prelude.{Ok, Err}
use Rattle.sizes.specs.Words.{one_if}
use Rattle.sizes.specs.declared.refusal.Refusal.TheVariants as Because
use Rattle.sizes.proofs.Tests.{Tested, pass, fail, tested, and_left}
use Rattle.wire.specs.Packing.{Field, field_widths, total, join, fields_fit, split_bits, last_bytes, number_spelled}
use Rattle.wire.specs.Record.{in_bits, layout, with_values, padding, record_widths, record_size, well_named, good, written, values_in, writable, write_answer, write_buffer, RecordWrites, readable, read_answer, RecordReads}
use Rattle.wire.specs.RecordWords.{first_fields, second_fields, third_fields, last_fields, record_in, AreWords}
use Rattle.wire.specs.declared.record.Record.{Record}
use Rattle.wire.proofs.PackingLaws.{field_values, with_widths, below_product, high_part, low_part, join_split_below, number_cut, join_append, split_join, fits_head, fits_tail, fits_both, bytes_word}

-- no value is too wide
pub record Fit (r : Record) : Type 0 where
  pub fdt_id : r.fdt_id < 2 ^ 20
  pub toi : r.toi < 2 ^ 64
  pub block : r.block.0 < 2 ^ 16
  pub symbol : r.symbol.0 < 2 ^ 16
  pub length : r.length < 2 ^ 16
  pub total : r.total < 2 ^ 48
  pub symbols : r.symbols < 2 ^ 16

-- a flag takes one bit
pub flag_below : (b : Bool) → one_if b < 2
flag_below true = omega arith
flag_below false = omega arith

no_fields_fit : fields_fit [] ≡ true
unfolding fields_fit
no_fields_fit = refl

pub fit_of : (r : Record) → fields_fit (layout r) ≡ true → Fit r
unfolding layout
fit_of r h =
    let h2 = fits_tail _ _ (fits_tail _ _ h) in
    let h3 = fits_tail _ _ h2 in
    let h4 = fits_tail _ _ h3 in
    let h5 = fits_tail _ _ h4 in
    let h6 = fits_tail _ _ h5 in
    let h7 = fits_tail _ _ h6 in
    let h8 = fits_tail _ _ h7 in
    record {
      fdt_id = fits_head _ _ h2;
      toi = fits_head _ _ h3;
      block = fits_head _ _ h4;
      symbol = fits_head _ _ h5;
      length = fits_head _ _ h6;
      total = fits_head _ _ h7;
      symbols = fits_head _ _ h8;
    }

pub fit_fits : (r : Record) → Fit r → fields_fit (layout r) ≡ true
unfolding layout
fit_fits r f =
    fits_both _ _ (flag_below r.is_fdt)
    (fits_both _ _ (flag_below r.close)
    (fits_both _ _ f.fdt_id
    (fits_both _ _ f.toi
    (fits_both _ _ f.block
    (fits_both _ _ f.symbol
    (fits_both _ _ f.length
    (fits_both _ _ f.total
    (fits_both _ _ f.symbols
    (fits_both _ _ (omega arith) no_fields_fit)))))))))

pub good_fit : (r : Record) → good r ≡ true → Fit r
unfolding good
good_fit r h = fit_of r (and_left (fields_fit (layout r)) (well_named r) h)

-- what is too wide is not good, and else the numbers decide
pub wide_bad : (r : Record) → (Fit r → ⊥) → good r ≡ false
wide_bad r h = go (tested (good r))
  where
    go : Tested (good r) → good r ≡ false
    go (pass e) = absurd (h (good_fit r e))
    go (fail e) = e

pub fit_good : (r : Record) → Fit r → good r ≡ well_named r
unfolding good
fit_good r f = rw (fit_fits r f)

-- the numbers of an FDT and of an object
pub fdt_named : (r : Record) → r.is_fdt ≡ true → well_named r ≡ eqb r.toi 0
unfolding well_named
fdt_named r e = rw e

pub no_number : (r : Record) → r.is_fdt ≡ false → r.toi ≡ 0 → well_named r ≡ false
unfolding well_named
no_number r e z = rw (e, z)

pub object_named : (r : Record) → r.is_fdt ≡ false → (r.toi ≡ 0 → ⊥) → well_named r ≡ eqb r.fdt_id 0
unfolding well_named
object_named r e n = rw (e, lt-ltb 0 r.toi (omega arith))

-- four words as one number
unfoldable spread : ℕ → ℕ → ℕ → ℕ → ℕ
spread a b c d = a * 2 ^ 160 + (b * 2 ^ 96 + (c * 2 ^ 32 + d))

-- a field cut in two
cut_value : (v k t x : ℕ) → v * 2 ^ t + x ≡ v / 2 ^ k * 2 ^ (k + t) + (v % 2 ^ k * 2 ^ t + x)
cut_value v k t x =
    let e : v * 2 ^ t ≡ v / 2 ^ k * (2 ^ k * 2 ^ t) + v % 2 ^ k * 2 ^ t
    = sym (ap (λ n. n * 2 ^ t) (div-add-mod' v (2 ^ k))) ∙ add-mul (v / 2 ^ k * 2 ^ k) (v % 2 ^ k) (2 ^ t) ∙ ap (λ n. n + v % 2 ^ k * 2 ^ t) (mul_assoc (v / 2 ^ k) (2 ^ k) (2 ^ t)) in
    rw (pow-add 2 k t, e) (omega arith)

-- the record in words
module _ (r : Record) where
  in_fields : List Field
  in_fields = first_fields r ++ (second_fields r ++ (third_fields r ++ last_fields r))

  regrouped : join (layout r) ≡ join in_fields
  unfolding join total layout in_fields first_fields second_fields third_fields last_fields
  regrouped =
      ap (λ x. one_if r.is_fdt * 2 ^ 223 + (one_if r.close * 2 ^ 222 + (r.fdt_id * 2 ^ 202 + x)))
      (cut_value r.toi 22 138 _
      ∙ ap (λ x. r.toi / 2 ^ 22 * 2 ^ 160 + (r.toi % 2 ^ 22 * 2 ^ 138 + (r.block.0 * 2 ^ 122 + (r.symbol.0 * 2 ^ 106 + x))))
      (cut_value r.length 6 90 _
      ∙ ap (λ x. r.length / 2 ^ 6 * 2 ^ 96 + (r.length % 2 ^ 6 * 2 ^ 90 + (r.total * 2 ^ 42 + x))) (cut_value r.symbols 6 26 0)))

  in_words : join (layout r) ≡ spread (join (first_fields r)) (join (second_fields r)) (join (third_fields r)) (join (last_fields r))
  unfolding in_fields total spread first_fields second_fields third_fields last_fields
  in_words =
      regrouped
      ∙ join_append (first_fields r) _
      ∙ ap (λ x. join (first_fields r) * 2 ^ 160 + x) (join_append (second_fields r) _ ∙ ap (λ x. join (second_fields r) * 2 ^ 96 + x) (join_append (third_fields r) (last_fields r)))

  pub first_sum : join (first_fields r) ≡ one_if r.is_fdt * 2 ^ 63 + one_if r.close * 2 ^ 62 + r.fdt_id * 2 ^ 42 + r.toi / 2 ^ 22
  unfolding first_fields join total
  first_sum = omega arith

  pub second_sum : join (second_fields r) ≡ r.toi % 2 ^ 22 * 2 ^ 42 + r.block.0 * 2 ^ 26 + r.symbol.0 * 2 ^ 10 + r.length / 2 ^ 6
  unfolding second_fields join total
  second_sum = omega arith

  pub third_sum : join (third_fields r) ≡ r.length % 2 ^ 6 * 2 ^ 58 + r.total * 2 ^ 10 + r.symbols / 2 ^ 6
  unfolding third_fields join total
  third_sum = omega arith

  pub last_sum : join (last_fields r) ≡ r.symbols % 2 ^ 6 * 2 ^ 26
  unfolding last_fields join total
  last_sum = omega arith

-- the bytes of four words
spread_bytes : (a b c d : ℕ) → b < 2 ^ 64 → c < 2 ^ 64 → d < 2 ^ 32
    → last_bytes 28 (spread a b c d) ≡ last_bytes 8 a ++ (last_bytes 8 b ++ (last_bytes 8 c ++ last_bytes 4 d))
unfolding spread total
spread_bytes a b c d hb hc hd =
    let lc : c * 2 ^ 32 + d < 2 ^ 96 = below_product c (2 ^ 64) d (2 ^ 32) hc hd in
    let lb : b * 2 ^ 96 + (c * 2 ^ 32 + d) < 2 ^ 160 = below_product b (2 ^ 64) _ (2 ^ 96) hb lc in
    bytes_word 8 20 a _ lb
    ∙ ap (λ l. last_bytes 8 a ++ l) (bytes_word 8 12 b _ lc ∙ ap (λ l. last_bytes 8 b ++ l) (bytes_word 8 4 c d hd))

pub written_words : (r : Record) → Fit r
    → written r ≡ last_bytes 8 (join (first_fields r)) ++ (last_bytes 8 (join (second_fields r)) ++ (last_bytes 8 (join (third_fields r)) ++ last_bytes 4 (join (last_fields r))))
unfolding written
written_words r f =
    ap (last_bytes 28) (in_words r)
    ∙ spread_bytes _ _ _ _ (omega (arith, second_sum r)) (omega (arith, third_sum r)) (omega (arith, last_sum r))

-- a flag as a number, and back
flag_back : (b : Bool) → eqb (one_if b) 1 ≡ b
flag_back true = refl
flag_back false = refl

flag_value : (n : ℕ) → n < 2 → one_if (eqb n 1) ≡ n
flag_value zero h = refl
flag_value (suc zero) h = refl
flag_value (suc (suc n)) h = absurd (omega arith)

-- the values of a record's fields are the record
pub values_back : (r : Record) → with_values (field_values (layout r)) ≡ r
unfolding with_values layout
values_back r = λ i. record {
  is_fdt = flag_back r.is_fdt i;
  close = flag_back r.close i;
  fdt_id = r.fdt_id;
  toi = r.toi;
  block = r.block;
  symbol = r.symbol;
  length = r.length;
  total = r.total;
  symbols = r.symbols;
}

-- bytes that spell a record's number hold its values
pub values_spelt : (bs : List ℕ) (r : Record) → Fit r → number_spelled bs ≡ join (layout r) → values_in bs ≡ field_values (layout r)
unfolding values_in record_widths layout with_values
values_spelt bs r f e = ap (split_bits (field_widths (layout r))) e ∙ split_join (layout r) (fit_fits r f)

-- the values in a word, and in two halves of a field
pair_below : (x y k m : ℕ) → x % 2 ^ k * 2 ^ m + y % 2 ^ m < 2 ^ (k + m)
pair_below x y k m = rw (pow-add 2 k m) (below_product (x % 2 ^ k) (2 ^ k) (y % 2 ^ m) (2 ^ m) (mod-lt x (pow_pos k)) (mod-lt y (pow_pos m)))

pair_high : (x y k m : ℕ) → (x % 2 ^ k * 2 ^ m + y % 2 ^ m) / 2 ^ m ≡ x / 1 % 2 ^ k
pair_high x y k m = high_part (x % 2 ^ k) (y % 2 ^ m) (2 ^ m) (mod-lt y (pow_pos m)) ∙ ap (λ n. n % 2 ^ k) (sym (div-one x))

pair_low : (x y k m : ℕ) → (x % 2 ^ k * 2 ^ m + y % 2 ^ m) % 2 ^ m ≡ y % 2 ^ m
pair_low x y k m = low_part (x % 2 ^ k) (y % 2 ^ m) (2 ^ m) (mod-lt y (pow_pos m))

pub bit_flag : (n : ℕ) → one_if (eqb (n % 2) 1) ≡ n % 2
bit_flag n = flag_value (n % 2) (mod-lt n (omega arith))

-- the record that words hold has these words
module _ (a b c d : ℕ) where
  pub held_fit : Fit (record_in a b c d)
  unfolding record_in
  held_fit = record {
    fdt_id = mod-lt (a / 2 ^ 42) (pow_pos 20);
    toi = pair_below a (b / 2 ^ 42) 42 22;
    block = mod-lt (b / 2 ^ 26) (pow_pos 16);
    symbol = mod-lt (b / 2 ^ 10) (pow_pos 16);
    length = pair_below b (c / 2 ^ 58) 10 6;
    total = mod-lt (c / 2 ^ 10) (pow_pos 48);
    symbols = pair_below c (d / 2 ^ 26) 10 6;
  }

  first_held : a < 2 ^ 64 → join (first_fields (record_in a b c d)) ≡ a
  unfolding record_in first_fields with_widths split_bits total
  first_held h =
      (λ i. join (in_bits 1 (bit_flag (a / 2 ^ 63) i) ∷ in_bits 1 (bit_flag (a / 2 ^ 62) i) ∷ in_bits 20 (a / 2 ^ 42 % 2 ^ 20) ∷ in_bits 42 (pair_high a (b / 2 ^ 42) 42 22 i) ∷ []))
      ∙ join_split_below (1 ∷ 1 ∷ 20 ∷ 42 ∷ []) a h

  second_held : b < 2 ^ 64 → join (second_fields (record_in a b c d)) ≡ b
  unfolding record_in second_fields with_widths split_bits total
  second_held h =
      (λ i. join (in_bits 22 (pair_low a (b / 2 ^ 42) 42 22 i) ∷ in_bits 16 (b / 2 ^ 26 % 2 ^ 16) ∷ in_bits 16 (b / 2 ^ 10 % 2 ^ 16) ∷ in_bits 10 (pair_high b (c / 2 ^ 58) 10 6 i) ∷ []))
      ∙ join_split_below (22 ∷ 16 ∷ 16 ∷ 10 ∷ []) b h

  third_held : c < 2 ^ 64 → join (third_fields (record_in a b c d)) ≡ c
  unfolding record_in third_fields with_widths split_bits total
  third_held h =
      (λ i. join (in_bits 6 (pair_low b (c / 2 ^ 58) 10 6 i) ∷ in_bits 48 (c / 2 ^ 10 % 2 ^ 48) ∷ in_bits 10 (pair_high c (d / 2 ^ 26) 10 6 i) ∷ []))
      ∙ join_split_below (6 ∷ 48 ∷ 10 ∷ []) c h

  last_held : d < 2 ^ 32 → d % 2 ^ 26 ≡ 0 → join (last_fields (record_in a b c d)) ≡ d
  unfolding record_in last_fields with_widths split_bits total
  last_held h z =
      let z' : 0 ≡ d / 1 % 2 ^ 26 = sym (ap (λ n. n % 2 ^ 26) (div-one d) ∙ z) in
      (λ i. join (in_bits 6 (pair_low c (d / 2 ^ 26) 10 6 i) ∷ in_bits 26 (z' i) ∷ [])) ∙ join_split_below (6 ∷ 26 ∷ []) d h

  words_held : a < 2 ^ 64 → b < 2 ^ 64 → c < 2 ^ 64 → d < 2 ^ 32 → d % 2 ^ 26 ≡ 0 → join (layout (record_in a b c d)) ≡ spread a b c d
  words_held ha hb hc hd z = in_words (record_in a b c d) ∙ (λ i. spread (first_held ha i) (second_held hb i) (third_held hc i) (last_held hd z i))

-- the words of 28 bytes, as one number
words_number : (bs : List ℕ) (a b c d : ℕ) → AreWords bs a b c d → number_spelled bs ≡ spread a b c d
unfolding spread total
words_number bs a b c d w =
    number_cut bs 8 20 w.size
    ∙ (λ i. sym w.first i * 2 ^ 160 + number_spelled (drop 8 bs))
    ∙ ap (λ x. a * 2 ^ 160 + x) (number_cut (drop 8 bs) 8 12 (length-drop 8 bs ∙ omega (arith, w.size))
    ∙ (λ i. sym w.second i * 2 ^ 96 + number_spelled (drop-drop 8 8 bs i))
    ∙ ap (λ x. b * 2 ^ 96 + x) (number_cut (drop 16 bs) 8 4 (length-drop 16 bs ∙ omega (arith, w.size))
    ∙ (λ i. sym w.third i * 2 ^ 32 + number_spelled (drop-drop 8 16 bs i))
    ∙ ap (λ x. c * 2 ^ 32 + x) (sym w.last)))

-- what lies above the last 26 bits is not seen there
above_padding : (a k y : ℕ) → (a * (k * 2 ^ 26) + y) % 2 ^ 26 ≡ y % 2 ^ 26
above_padding a k y = ap (λ n. (n + y) % 2 ^ 26) (sym (mul_assoc a k (2 ^ 26))) ∙ mul-add-mod_self_right (a * k) (2 ^ 26) y

padding_spread : (a b c d : ℕ) → spread a b c d % 2 ^ 26 ≡ d % 2 ^ 26
unfolding spread
padding_spread a b c d = above_padding a (2 ^ 134) _ ∙ above_padding b (2 ^ 70) _ ∙ above_padding c (2 ^ 6) d

padding_of_number : (bs : List ℕ) → padding (values_in bs) ≡ number_spelled bs % 2 ^ 26
unfolding padding values_in split_bits record_widths layout with_values total
padding_of_number bs = ap (λ n. n % 2 ^ 26) (div-one (number_spelled bs))

-- what 28 bytes hold, by their four words
module _ (bs : List ℕ) (a b c d : ℕ) (w : AreWords bs a b c d) where
  pub words_padding : padding (values_in bs) ≡ d % 2 ^ 26
  words_padding = padding_of_number bs ∙ ap (λ n. n % 2 ^ 26) (words_number bs a b c d w) ∙ padding_spread a b c d

  pub words_record : a < 2 ^ 64 → b < 2 ^ 64 → c < 2 ^ 64 → d < 2 ^ 32 → d % 2 ^ 26 ≡ 0 → with_values (values_in bs) ≡ record_in a b c d
  words_record ha hb hc hd z =
      ap with_values (values_spelt bs (record_in a b c d) (held_fit a b c d) (words_number bs a b c d w ∙ sym (words_held a b c d ha hb hc hd z)))
      ∙ values_back (record_in a b c d)

-- a flag that was made a number
pub byte_flag : (b : Bool) → bool_byte b ≡ one_if b
byte_flag true = refl
byte_flag false = refl

-- what a write does: refused for want of room or for the fields, or done
module _ (before : List ℕ) (r : Record) where
  pub write_short : length before < record_size → RecordWrites before r (Err Because.Record) before
  unfolding write_answer write_buffer writable
  write_short h = record { answer = rw (lt-leb record_size (length before) h); buffer = rw (lt-leb record_size (length before) h) }

  pub write_bad : record_size ≤ length before → good r ≡ false → RecordWrites before r (Err Because.Record) before
  unfolding write_answer write_buffer writable
  write_bad h g = record { answer = rw (le-leb record_size (length before) h, g); buffer = rw (le-leb record_size (length before) h, g) }

  pub write_done : (after : List ℕ) → record_size ≤ length before → good r ≡ true → after ≡ written r ++ drop record_size before → RecordWrites before r (Ok tt) after
  unfolding write_answer write_buffer writable
  write_done after h g e = record { answer = rw (le-leb record_size (length before) h, g); buffer = rw (le-leb record_size (length before) h, g) e }

  -- done, by the four words
  pub write_words : (after : List ℕ) (a b c d : ℕ) → record_size ≤ length before → good r ≡ true
      → after ≡ last_bytes 8 a ++ (last_bytes 8 b ++ (last_bytes 8 c ++ (last_bytes 4 d ++ drop record_size before)))
      → a ≡ join (first_fields r) → b ≡ join (second_fields r) → c ≡ join (third_fields r) → d ≡ join (last_fields r) → RecordWrites before r (Ok tt) after
  write_words after a b c d h g e ea eb ec ed =
      let l = drop record_size before in
      write_done after h g
      (e
      ∙ (λ i. last_bytes 8 (ea i) ++ (last_bytes 8 (eb i) ++ (last_bytes 8 (ec i) ++ (last_bytes 4 (ed i) ++ l))))
      ∙ sym (ap (λ w. w ++ l) (written_words r (good_fit r g)) ∙ simp append_assoc))

-- what a read answers, by its tests
module _ (bs : List ℕ) where
  pub read_unlike : (length bs ≡ record_size → ⊥) → RecordReads bs (Err Because.Record)
  unfolding read_answer readable
  read_unlike h = record { answer = rw (ne_eqb (length bs) record_size h) }

  pub read_padded : length bs ≡ record_size → (padding (values_in bs) ≡ 0 → ⊥) → RecordReads bs (Err Because.Record)
  unfolding read_answer readable
  read_padded h p = record { answer = rw (eq-eqb (length bs) record_size h, ne_eqb (padding (values_in bs)) 0 p) }

  module _ (r : Record) (h : length bs ≡ record_size) (p : padding (values_in bs) ≡ 0) (e : with_values (values_in bs) ≡ r) where
    pub read_bad : good r ≡ false → RecordReads bs (Err Because.Record)
    unfolding read_answer readable
    read_bad g = record { answer = rw (eq-eqb (length bs) record_size h, eq-eqb (padding (values_in bs)) 0 p, e, g) }

    pub read_good : good r ≡ true → RecordReads bs (Ok r)
    unfolding read_answer readable
    read_good g = record { answer = rw (eq-eqb (length bs) record_size h, eq-eqb (padding (values_in bs)) 0 p, e, g) }
