-- Laws on hex: what each byte is as a digit, that what is put is read back, and the steps of the two loops.
use mathlib.Core.Path.{◌≡◌, refl, sym, ap, ◌∙◌}
use mathlib.Core.Bool.{Bool, true, false}
use mathlib.Core.List.{List, [], ◌∷◌, ◌++◌, append_assoc, append-nil}
use mathlib.Core.Logic.{⊎_elim}
use Rattle.std.specs.Prelude.{Option, Some, None}
use Prim.Native.Nat.{ℕ, suc, ◌+◌, ◌-◌, ◌*◌, ◌/◌, ◌%◌, ◌<◌, ◌≤◌}
use native.Mathlib.Numerals.{add-one}
use native.Mathlib.Omega.{arith}
use borrow.Author.Tests.{lt-ltb, le-ltb, le-leb, lt-leb, leb-true}
use lib.Dec.{leb}
use lib.ListN.{length, take, drop, set, get_or, drop_of_length-le}
use lib.Seq.{drop-cons, length-take-le, take-suc, take-suc-set}
use Rattle.sizes.specs.Words.{when◌then◌else◌, within, Each}
use Rattle.text.specs.Put.{Appended, Put}
use Rattle.text.proofs.Lists.{both as both_true, lt_or_le}
use Rattle.text.proofs.Appends.{both}
use Rattle.record_program.specs.Hex.{digit_of, byte_text, hex_of, value_of, pair_value, in_front, spelled}

module _ (c : ℕ) where
  pub below : c < 48 → value_of c ≡ None
  unfolding value_of
  below h = rw (lt-leb 48 c (omega arith), lt-leb 65 c (omega arith), lt-leb 97 c (omega arith))

  pub decimal : 48 ≤ c → c ≤ 57 → value_of c ≡ Some (c - 48)
  unfolding value_of
  decimal h k = rw (le-leb 48 c h, le-leb c 57 k)

  pub middle : 57 < c → c < 65 → value_of c ≡ None
  unfolding value_of
  middle h k = rw (le-leb 48 c (omega arith), lt-leb c 57 h, lt-leb 65 c (omega arith), lt-leb 97 c (omega arith))

  pub upper : 65 ≤ c → c ≤ 70 → value_of c ≡ Some (c - 55)
  unfolding value_of
  upper h k = rw (le-leb 48 c (omega arith), lt-leb c 57 (omega arith), le-leb 65 c h, le-leb c 70 k)

  pub higher : 70 < c → c < 97 → value_of c ≡ None
  unfolding value_of
  higher h k =
      rw (le-leb 48 c (omega arith), lt-leb c 57 (omega arith), le-leb 65 c (omega arith), lt-leb c 70 h, lt-leb 97 c (omega arith))

  pub lower : 97 ≤ c → c ≤ 102 → value_of c ≡ Some (c - 87)
  unfolding value_of
  lower h k =
      rw (le-leb 48 c (omega arith), lt-leb c 57 (omega arith), le-leb 65 c (omega arith), lt-leb c 70 (omega arith), le-leb 97 c h, le-leb c 102 k)

  pub above : 102 < c → value_of c ≡ None
  unfolding value_of
  above h =
      rw (le-leb 48 c (omega arith), lt-leb c 57 (omega arith), le-leb 65 c (omega arith), lt-leb c 70 (omega arith), le-leb 97 c (omega arith), lt-leb c 102 h)

-- a digit stands for less than 16
chosen : (b : Bool) (m n : ℕ) (rest : Option ℕ) → (b ≡ true → m < 16) → (rest ≡ Some n → n < 16) → (when b then Some m else rest) ≡ Some n → n < 16
chosen true m n rest f g e = let k : m ≡ n = cc in let h = f refl in omega arith
chosen false m n rest f g e = g e

never : (n : ℕ) → None ≡ Some n → n < 16
never n e = let z : ◌≡◌ {A = ℕ} 0 1 = cc in absurd (omega arith)

pub small : (c n : ℕ) → value_of c ≡ Some n → n < 16
unfolding value_of
small c n =
    chosen (within 48 57 c) (c - 48) n _ (λ t. let k = leb-true c 57 (both_true (leb 48 c) (leb c 57) t).1 in omega arith)
    (chosen (within 65 70 c) (c - 55) n _ (λ t. let k = leb-true c 70 (both_true (leb 65 c) (leb c 70) t).1 in omega arith)
    (chosen (within 97 102 c) (c - 87) n _ (λ t. let k = leb-true c 102 (both_true (leb 97 c) (leb c 102) t).1 in omega arith) (never n)))

-- the digit of a number stands for it
pub digit_back : (n : ℕ) → n < 16 → value_of (digit_of n) ≡ Some n
unfolding digit_of
digit_back n h =
    ⊎_elim (λ (l : n < 10). rw (lt-ltb n 10 l) (decimal (48 + n) (omega arith) (omega arith) ∙ ap Some (omega arith)))
    (λ (l : 10 ≤ n). rw (le-ltb n 10 l) (lower (87 + n) (omega arith) (omega arith) ∙ ap Some (omega arith)))
    (lt_or_le n 10)

-- bytes that are put in hex read back as the same bytes
pub hex_back : (l : List ℕ) → Each (λ b. b < 256) l → spelled (hex_of l) ≡ Some l
unfolding spelled hex_of byte_text pair_value in_front
hex_back [] h = refl
hex_back (b ∷ l) h =
    let k = h.0 in
    let e : 16 * (b / 16) + b % 16 ≡ b = omega arith in
    rw (digit_back (b / 16) (omega arith), digit_back (b % 16) (omega arith), hex_back l h.1, e)

hex_length : (l : List ℕ) → length (hex_of l) ≡ 2 * length l
unfolding hex_of byte_text
hex_length [] = refl
hex_length (b ∷ l) = let k = hex_length l in omega arith

hex_snoc : (l : List ℕ) (b : ℕ) → hex_of (l ++ (b ∷ [])) ≡ hex_of l ++ byte_text b
unfolding hex_of
hex_snoc [] b = append-nil _
hex_snoc (x ∷ l) b = rw (hex_snoc l b, append_assoc (byte_text x) (hex_of l) (byte_text b))

-- one more byte is put
pub hex_more : {a b c : List ℕ} {at r s : ℕ} (bytes : List ℕ) (i : ℕ) → i < length bytes → at + 2 * length bytes ≤ length a →
    Appended a at (hex_of (take i bytes)) b r → Put b r (byte_text (get_or bytes i 0)) c s → Appended a at (hex_of (take (i + 1) bytes)) c s
unfolding byte_text
hex_more bytes i h room p q =
    let k : length (hex_of (take i bytes)) ≡ 2 * i = hex_length (take i bytes) ∙ ap (λ (n : ℕ). 2 * n) (length-take-le i bytes (omega arith)) in
    rw (add-one i, take-suc bytes i 0 h, hex_snoc (take i bytes) (get_or bytes i 0))
    (both p (q.fits (omega (arith, p.size, p.end))))

-- bytes in front of what may be spelled behind them
abbrev pub behind : List ℕ → Option (List ℕ) → Option (List ℕ)
behind p None = None
behind p (Some l) = Some (p ++ l)

pub nothing_read : (x : Option (List ℕ)) → x ≡ behind [] x
nothing_read None = refl
nothing_read (Some l) = refl

behind_byte : (p : List ℕ) (b : ℕ) (x : Option (List ℕ)) → behind p (in_front (Some b) x) ≡ behind (p ++ (b ∷ [])) x
unfolding in_front
behind_byte p b None = refl
behind_byte p b (Some l) = ap Some (sym (append_assoc p (b ∷ []) l))

module _ (w : List ℕ) (i : ℕ) where
  two : 2 * i + 1 < length w →
      spelled (drop (2 * i) w) ≡ in_front (pair_value (value_of (get_or w (2 * i) 0)) (value_of (get_or w (2 * i + 1) 0))) (spelled (drop (2 * (i + 1)) w))
  unfolding spelled
  two h =
      let e : 2 * (i + 1) ≡ suc (suc (2 * i)) = omega arith in
      rw (e, add-one (2 * i), drop-cons w (2 * i) 0 (omega arith), drop-cons w (suc (2 * i)) 0 (omega arith))

  -- one more byte is read
  pub read_more : (out : List ℕ) (b : ℕ) → 2 * i + 1 < length w → i < length out
      → pair_value (value_of (get_or w (2 * i) 0)) (value_of (get_or w (2 * i + 1) 0)) ≡ Some b
      → spelled w ≡ behind (take i out) (spelled (drop (2 * i) w))
      → spelled w ≡ behind (take (i + 1) (set out i b)) (spelled (drop (2 * (i + 1)) w))
  read_more out b h k e s =
      s ∙ ap (behind (take i out)) (two h ∙ ap (λ (m : Option ℕ). in_front m (spelled (drop (2 * (i + 1)) w))) e) ∙ behind_byte (take i out) b _
      ∙ ap (λ (l : List ℕ). behind l (spelled (drop (2 * (i + 1)) w))) (sym (take-suc-set out i b k) ∙ ap (λ (n : ℕ). take n (set out i b)) (sym (add-one i)))

  -- two bytes that are no digits
  pub read_stop : (p : List ℕ) → 2 * i + 1 < length w
      → pair_value (value_of (get_or w (2 * i) 0)) (value_of (get_or w (2 * i + 1) 0)) ≡ None
      → spelled w ≡ behind p (spelled (drop (2 * i) w)) → spelled w ≡ None
  unfolding in_front
  read_stop p h e s = s ∙ ap (behind p) (two h ∙ ap (λ (m : Option ℕ). in_front m (spelled (drop (2 * (i + 1)) w))) e)

  pub read_end : (p : List ℕ) → length w ≤ 2 * i → spelled w ≡ behind p (spelled (drop (2 * i) w)) → spelled w ≡ Some p
  unfolding spelled
  read_end p h s = s ∙ (rw (drop_of_length-le w h) (ap Some (append-nil p)))

nothing_behind : (m : Option ℕ) → in_front m None ≡ None
unfolding in_front
nothing_behind (Some b) = refl
nothing_behind None = refl

pub odd : (w : List ℕ) → length w % 2 ≡ 1 → spelled w ≡ None
unfolding spelled
odd [] h = let z : ◌≡◌ {A = ℕ} 0 1 = h in absurd (omega arith)
odd (a ∷ []) h = refl
odd (a ∷ (b ∷ l)) h = rw (odd l (omega arith)) (nothing_behind (pair_value (value_of a) (value_of b)))
