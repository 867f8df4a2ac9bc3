-- Laws of bit-packing, over any list of fields: joined and split again, split and joined again, and fields side by side.
use mathlib.Core.Path.{◌≡◌, refl, sym, ◌∙◌, ap}
use mathlib.Core.Bool.{true}
use mathlib.Core.List.{List, [], ◌∷◌, ◌++◌, map, map-append}
use Prim.Native.Nat.{ℕ, zero, suc, ◌+◌, ◌*◌, ◌/◌, ◌%◌, ◌^◌, ◌<◌, ◌≤◌}
use native.Mathlib.Nat.{add-zero, add_comm, mul_assoc, add-mul, div-add-mod', mod-lt, mod-eq_of_lt, div-div-eq-div-mul, mul-add-div_right, mul-add-mod_self_right, div-eq_of_lt, mul-le-mul_right, mod-one}
use native.Mathlib.Omega.{arith}
use borrow.Author.Tests.{lt-ltb, ltb-true}
use lib.Dec.{ltb}
use lib.ListN.{length, take, drop, length-drop, take-append-drop, replicate, length-replicate, replicate-append-replicate}
use lib.Pow.{pow-add, pow_pos}
use Rattle.sizes.specs.Words.{Each}
use Rattle.sizes.proofs.Tests.{and_left, and_right}
use Rattle.wire.specs.Packing.{Field, field_widths, total, join, fields_fit, split_bits, last_bytes, byte, number_spelled}

abbrev pub field_values : List Field → List ℕ
field_values fs = map (λ f. f.value) fs

-- values with their widths
unfoldable pub with_widths : List ℕ → List ℕ → List Field
with_widths [] vs = []
with_widths (w ∷ ws) [] = []
with_widths (w ∷ ws) (v ∷ vs) = record { width = w; value = v } ∷ with_widths ws vs

-- the bits of two lists side by side
pub total_append : (ws vs : List ℕ) → total (ws ++ vs) ≡ total ws + total vs
unfolding total
total_append [] vs = omega arith
total_append (w ∷ ws) vs = omega (arith, total_append ws vs)

-- a value fits, and the others do
pub fits_head : (f : Field) (fs : List Field) → fields_fit (f ∷ fs) ≡ true → f.value < 2 ^ f.width
unfolding fields_fit
fits_head f fs h = ltb-true _ _ (and_left (ltb f.value (2 ^ f.width)) (fields_fit fs) h)

pub fits_tail : (f : Field) (fs : List Field) → fields_fit (f ∷ fs) ≡ true → fields_fit fs ≡ true
unfolding fields_fit
fits_tail f fs h = and_right (ltb f.value (2 ^ f.width)) (fields_fit fs) h

pub fits_both : (f : Field) (fs : List Field) → f.value < 2 ^ f.width → fields_fit fs ≡ true → fields_fit (f ∷ fs) ≡ true
unfolding fields_fit
fits_both f fs h t = rw (lt-ltb _ _ h) t

-- a number below one power above another number below another power
pub below_product : (v a j b : ℕ) → v < a → j < b → v * b + j < a * b
below_product v a j b h g =
    let m : (v + 1) * b ≤ a * b = mul-le-mul_right b (omega arith) in
    omega (arith, add-mul v 1 b)

-- the two parts of such a number
pub high_part : (v j b : ℕ) → j < b → (v * b + j) / b ≡ v
high_part v j b h = mul-add-div_right (omega arith) v j ∙ ap (λ x. v + x) (div-eq_of_lt h) ∙ add-zero v

pub low_part : (v j b : ℕ) → j < b → (v * b + j) % b ≡ j
low_part v j b h = mul-add-mod_self_right v b j ∙ mod-eq_of_lt h

-- joined fields stay below their bits
pub join_below : (fs : List Field) → fields_fit fs ≡ true → join fs < 2 ^ total (field_widths fs)
unfolding join total
join_below [] h = omega arith
join_below (f ∷ fs) h =
    rw (pow-add 2 f.width (total (field_widths fs)))
    (below_product f.value (2 ^ f.width) (join fs) (2 ^ total (field_widths fs)) (fits_head f fs h) (join_below fs (fits_tail f fs h)))

-- fields side by side
pub join_append : (fs gs : List Field) → join (fs ++ gs) ≡ join fs * 2 ^ total (field_widths gs) + join gs
unfolding join total
join_append [] gs = omega arith
join_append (f ∷ fs) gs =
    let t : total (field_widths (fs ++ gs)) ≡ total (field_widths fs) + total (field_widths gs) = ap total (map-append (λ (g : Field). g.width) fs gs) ∙ total_append (field_widths fs) (field_widths gs) in
    let p : 2 ^ total (field_widths (fs ++ gs)) ≡ 2 ^ total (field_widths fs) * 2 ^ total (field_widths gs) = ap (λ n. 2 ^ n) t ∙ pow-add 2 (total (field_widths fs)) (total (field_widths gs)) in
    let a = add-mul (f.value * 2 ^ total (field_widths fs)) (join fs) (2 ^ total (field_widths gs)) in
    let m = mul_assoc f.value (2 ^ total (field_widths fs)) (2 ^ total (field_widths gs)) in
    rw (join_append fs gs, p) (omega arith)

-- what stands above the fields is not seen
pub split_above : (ws : List ℕ) (a n : ℕ) → split_bits ws (a * 2 ^ total ws + n) ≡ split_bits ws n
unfolding split_bits total
split_above [] a n = refl
split_above (w ∷ ws) a n =
    let p = pow-add 2 w (total ws) in
    let e : a * 2 ^ (w + total ws) + n ≡ a * 2 ^ w * 2 ^ total ws + n = rw (p, ← mul_assoc a (2 ^ w) (2 ^ total ws)) refl in
    let q : (a * 2 ^ w * 2 ^ total ws + n) / 2 ^ total ws % 2 ^ w ≡ n / 2 ^ total ws % 2 ^ w
    = rw (mul-add-div_right (pow_pos (total ws)) (a * 2 ^ w) n, mul-add-mod_self_right a (2 ^ w) (n / 2 ^ total ws)) refl in
    rw e (λ i. q i ∷ split_above ws (a * 2 ^ w) n i)

-- THE FIRST LAW: fields that fit, joined and split, are the same values
pub split_join : (fs : List Field) → fields_fit fs ≡ true → split_bits (field_widths fs) (join fs) ≡ field_values fs
unfolding split_bits join
split_join [] h = refl
split_join (f ∷ fs) h =
    let b = join_below fs (fits_tail f fs h) in
    let q : (f.value * 2 ^ total (field_widths fs) + join fs) / 2 ^ total (field_widths fs) % 2 ^ f.width ≡ f.value
    = rw (high_part f.value (join fs) (2 ^ total (field_widths fs)) b) (mod-eq_of_lt (fits_head f fs h)) in
    λ i. q i ∷ (split_above (field_widths fs) f.value (join fs) ∙ split_join fs (fits_tail f fs h)) i

-- a remainder by a product
pub mod_product : (n a b : ℕ) → 0 < a → 0 < b → n / b % a * b + n % b ≡ n % (a * b)
mod_product n a b pa pb =
    let d = div-add-mod' n b in
    let e = div-add-mod' (n / b) a in
    let m : n / b * b ≡ n / b / a * (a * b) + n / b % a * b = sym (ap (λ x. x * b) e) ∙ add-mul (n / b / a * a) (n / b % a) b ∙ ap (λ x. x + n / b % a * b) (mul_assoc (n / b / a) a b) in
    let k : n ≡ n / b / a * (a * b) + (n / b % a * b + n % b) = omega arith in
    let l : n / b % a * b + n % b < a * b = below_product (n / b % a) a (n % b) b (mod-lt (n / b) pa) (mod-lt n pb) in
    sym (ap (λ x. x % (a * b)) k ∙ mul-add-mod_self_right (n / b / a) (a * b) _ ∙ mod-eq_of_lt l)

-- split values take their widths
pub split_widths : (ws : List ℕ) (n : ℕ) → field_widths (with_widths ws (split_bits ws n)) ≡ ws
unfolding split_bits with_widths
split_widths [] n = refl
split_widths (w ∷ ws) n = ap (λ l. w ∷ l) (split_widths ws n)

-- THE SECOND LAW: a number split and joined is the same number, below the bits that the fields take
pub join_split : (ws : List ℕ) (n : ℕ) → join (with_widths ws (split_bits ws n)) ≡ n % 2 ^ total ws
unfolding join split_bits with_widths total
join_split [] n = sym (mod-one n)
join_split (w ∷ ws) n =
    rw (split_widths ws n, join_split ws n, pow-add 2 w (total ws)) (mod_product n (2 ^ w) (2 ^ total ws) (pow_pos w) (pow_pos (total ws)))

pub join_split_below : (ws : List ℕ) (n : ℕ) → n < 2 ^ total ws → join (with_widths ws (split_bits ws n)) ≡ n
join_split_below ws n h = join_split ws n ∙ mod-eq_of_lt h

-- split side by side
pub split_append : (ws vs : List ℕ) (n : ℕ) → split_bits (ws ++ vs) n ≡ split_bits ws (n / 2 ^ total vs) ++ split_bits vs n
unfolding split_bits
split_append [] vs n = refl
split_append (w ∷ ws) vs n =
    let t = total_append ws vs in
    let p = pow-add 2 (total vs) (total ws) in
    let q : n / 2 ^ total (ws ++ vs) ≡ n / 2 ^ total vs / 2 ^ total ws = rw (t, add_comm (total ws) (total vs), p) (sym (div-div-eq-div-mul n (2 ^ total vs) (2 ^ total ws))) in
    λ i. q i % 2 ^ w ∷ split_append ws vs n i

pub split_length : (ws : List ℕ) (n : ℕ) → length (split_bits ws n) ≡ length ws
unfolding split_bits
split_length [] n = refl
split_length (w ∷ ws) n = ap suc (split_length ws n)

-- bytes: as many as asked for
pub bytes_length : (k n : ℕ) → length (last_bytes k n) ≡ k
unfolding last_bytes
bytes_length k n = split_length (replicate k 8) n ∙ length-replicate k 8

-- bytes side by side
pub bytes_append : (k m n : ℕ) → last_bytes (k + m) n ≡ last_bytes k (n / 2 ^ total (replicate m 8)) ++ last_bytes m n
unfolding last_bytes
bytes_append k m n = rw (← replicate-append-replicate {A = ℕ} k m 8) (split_append (replicate k 8) (replicate m 8) n)

-- a word above another one's bytes
pub bytes_word : (k m a b : ℕ) → b < 2 ^ total (replicate m 8) → last_bytes (k + m) (a * 2 ^ total (replicate m 8) + b) ≡ last_bytes k a ++ last_bytes m b
unfolding last_bytes
bytes_word k m a b h =
    let q = high_part a b (2 ^ total (replicate m 8)) h in
    bytes_append k m (a * 2 ^ total (replicate m 8) + b) ∙ (λ i. split_bits (replicate k 8) (q i) ++ split_above (replicate m 8) a b i)

-- bytes as fields
byte_widths : (bs : List ℕ) → field_widths (map byte bs) ≡ replicate (length bs) 8
byte_widths [] = refl
byte_widths (b ∷ bs) = ap (λ l. 8 ∷ l) (byte_widths bs)

byte_values : (bs : List ℕ) → field_values (map byte bs) ≡ bs
byte_values [] = refl
byte_values (b ∷ bs) = ap (λ l. b ∷ l) (byte_values bs)

bytes_fit : (bs : List ℕ) → Each (λ b. b < 256) bs → fields_fit (map byte bs) ≡ true
unfolding fields_fit
bytes_fit [] h = refl
bytes_fit (b ∷ bs) h = fits_both (byte b) (map byte bs) h.0 (bytes_fit bs h.1)

byte_fields : (k : ℕ) (bs : List ℕ) → length bs ≡ k → map byte bs ≡ with_widths (replicate k 8) bs
unfolding with_widths
byte_fields zero [] h = refl
byte_fields zero (b ∷ bs) h = absurd (omega arith)
byte_fields (suc k) [] h = absurd (omega arith)
byte_fields (suc k) (b ∷ bs) h = ap (λ l. byte b ∷ l) (byte_fields k bs (omega arith))

-- the number that bytes spell, side by side
pub number_append : (l m : List ℕ) → number_spelled (l ++ m) ≡ number_spelled l * 2 ^ total (replicate (length m) 8) + number_spelled m
unfolding number_spelled
number_append l m = rw (map-append byte l m, ← byte_widths m) (join_append (map byte l) (map byte m))

pub number_below : (bs : List ℕ) → Each (λ b. b < 256) bs → number_spelled bs < 2 ^ total (replicate (length bs) 8)
unfolding number_spelled
number_below bs h = rw (← byte_widths bs) (join_below (map byte bs) (bytes_fit bs h))

-- bytes spell a number whose bytes they are
pub bytes_number : (bs : List ℕ) → Each (λ b. b < 256) bs → last_bytes (length bs) (number_spelled bs) ≡ bs
unfolding number_spelled last_bytes
bytes_number bs h = rw (← byte_widths bs) (split_join (map byte bs) (bytes_fit bs h) ∙ byte_values bs)

-- and the bytes of a number spell it, below what they can hold
pub number_bytes : (k n : ℕ) → n < 2 ^ total (replicate k 8) → number_spelled (last_bytes k n) ≡ n
unfolding number_spelled last_bytes
number_bytes k n h = rw (byte_fields k (split_bits (replicate k 8) n) (split_length (replicate k 8) n ∙ length-replicate k 8)) (join_split_below (replicate k 8) n h)

-- the number of a list cut in two
pub number_cut : (l : List ℕ) (k m : ℕ) → length l ≡ k + m → number_spelled l ≡ number_spelled (take k l) * 2 ^ total (replicate m 8) + number_spelled (drop k l)
number_cut l k m h =
    let e : length (drop k l) ≡ m = length-drop k l ∙ omega arith in
    ap number_spelled (sym (take-append-drop k l))
    ∙ number_append (take k l) (drop k l)
    ∙ ap (λ n. number_spelled (take k l) * 2 ^ total (replicate n 8) + number_spelled (drop k l)) e
