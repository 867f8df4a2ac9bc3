-- Laws of words in bytes: as they are put into a buffer one behind the other, and as they are read.
use mathlib.Core.Path.{◌≡◌, sym, ◌∙◌, ap}
use mathlib.Core.List.{List, [], ◌∷◌, ◌++◌, append_assoc}
use Prim.Native.Nat.{ℕ, ◌≤◌}
use native.Mathlib.Nat.{div-one}
use native.Mathlib.Omega.{arith}
use borrow.Rule.Slice.PartMut.{put_mid}
use lib.ListN.{length, take, drop, length-append, length-drop}
use lib.Seq.{take_at, drop_at, drop-drop}
use Rattle.std.proofs.Common.{length-take-le}
use Rattle.std.specs.Int.{w32, w64, to_be_bytes, from_be_bytes}
use Rattle.wire.specs.Packing.{total, join, split_bits, last_bytes, number_spelled}
use Rattle.wire.specs.RecordWords.{AreWords}

-- the bytes of a word are its last ones
pub word_bytes : (n : ℕ) → to_be_bytes w64 n ≡ last_bytes 8 n
unfolding last_bytes split_bits total
word_bytes n = rw (div-one n)

pub half_bytes : (n : ℕ) → to_be_bytes w32 n ≡ last_bytes 4 n
unfolding last_bytes split_bits total
half_bytes n = rw (div-one n)

-- and a word that is made of bytes is what they spell
pub word_spelled : (bs : List ℕ) → length bs ≡ 8 → from_be_bytes w64 bs ≡ number_spelled bs
unfolding number_spelled join total
word_spelled (a ∷ b ∷ c ∷ d ∷ e ∷ f ∷ g ∷ h ∷ []) l = omega arith
word_spelled bs l = absurd (omega arith)

pub half_spelled : (bs : List ℕ) → length bs ≡ 4 → from_be_bytes w32 bs ≡ number_spelled bs
unfolding number_spelled join total
half_spelled (a ∷ b ∷ c ∷ d ∷ []) l = omega arith
half_spelled bs l = absurd (omega arith)

-- where p stands in front, x is put behind it
put_behind : (p x rest : List ℕ) (at n : ℕ) → length p ≡ at → put_mid at n (p ++ rest) x ≡ (p ++ x) ++ drop n rest
put_behind p x rest at n h = (λ i. take_at p rest at h i ++ (x ++ drop n (drop_at p rest at h i))) ∙ sym (append_assoc p x (drop n rest))

-- four are put one behind the other
pub put_four : (before a b c d : List ℕ) → length a ≡ 8 → length b ≡ 8 → length c ≡ 8
    → put_mid 24 4 (put_mid 16 8 (put_mid 8 8 (a ++ drop 8 before) b) c) d ≡ a ++ (b ++ (c ++ (d ++ drop 28 before)))
put_four before a b c d la lb lc =
    let l2 : length (a ++ b) ≡ 16 = length-append a b ∙ omega arith in
    let l3 : length ((a ++ b) ++ c) ≡ 24 = length-append (a ++ b) c ∙ omega arith in
    let e2 : put_mid 8 8 (a ++ drop 8 before) b ≡ (a ++ b) ++ drop 16 before = put_behind a b (drop 8 before) 8 8 la ∙ ap (λ l. (a ++ b) ++ l) (drop-drop 8 8 before) in
    let e3 : put_mid 16 8 ((a ++ b) ++ drop 16 before) c ≡ ((a ++ b) ++ c) ++ drop 24 before
    = put_behind (a ++ b) c (drop 16 before) 16 8 l2 ∙ ap (λ l. ((a ++ b) ++ c) ++ l) (drop-drop 8 16 before) in
    let e4 : put_mid 24 4 (((a ++ b) ++ c) ++ drop 24 before) d ≡ (((a ++ b) ++ c) ++ d) ++ drop 28 before
    = put_behind ((a ++ b) ++ c) d (drop 24 before) 24 4 l3 ∙ ap (λ l. (((a ++ b) ++ c) ++ d) ++ l) (drop-drop 4 24 before) in
    ap (λ l. put_mid 24 4 (put_mid 16 8 l c) d) e2 ∙ ap (λ l. put_mid 24 4 l d) e3 ∙ e4 ∙ simp append_assoc

-- a word in front
front_word : (w l : List ℕ) → w ≡ take 8 l → 8 ≤ length l → from_be_bytes w64 w ≡ number_spelled (take 8 l)
front_word w l e h = word_spelled w (ap length e ∙ length-take-le 8 l h) ∙ ap number_spelled e

-- four pieces that follow one another are the words of the whole
pub pieces_words : (bs a after_a b after_b c d : List ℕ) → a ≡ take 8 bs → after_a ≡ drop 8 bs → b ≡ take 8 after_a → after_b ≡ drop 8 after_a
    → c ≡ take 8 after_b → d ≡ drop 8 after_b → length d ≡ 4
    → AreWords bs (from_be_bytes w64 a) (from_be_bytes w64 b) (from_be_bytes w64 c) (from_be_bytes w32 d)
pieces_words bs a after_a b after_b c d ea ra eb rb ec ed h =
    let r2 : after_b ≡ drop 16 bs = rb ∙ ap (drop 8) ra ∙ drop-drop 8 8 bs in
    let r3 : d ≡ drop 24 bs = ed ∙ ap (drop 8) r2 ∙ drop-drop 8 16 bs in
    let n : length bs ≡ 28 = omega (arith, ap length r3, length-drop 24 bs) in
    record {
      size = n;
      first = front_word a bs ea (omega arith);
      second = front_word b (drop 8 bs) (eb ∙ ap (take 8) ra) (omega (arith, length-drop 8 bs));
      third = front_word c (drop 16 bs) (ec ∙ ap (take 8) r2) (omega (arith, length-drop 16 bs));
      last = half_spelled d h ∙ ap number_spelled r3;
    }
