-- Laws on numbers in decimal, and on texts that are put into a buffer one behind another.
use mathlib.Core.Path.{◌≡◌, refl, sym, ap, ◌∙◌}
use mathlib.Core.List.{List, [], ◌++◌, append_assoc, append-nil}
use mathlib.Core.Logic.{⊎_elim}
use Prim.Native.Nat.{ℕ, zero, suc, ◌+◌, ◌-◌, ◌/◌, ◌^◌, ◌<◌, ◌≤◌}
use native.Mathlib.Nat.{one-le-pow}
use native.Mathlib.Omega.{arith}
use borrow.Author.Tests.{lt-ltb, le-ltb}
use lib.ListN.{length, take, drop, length-append, length-drop}
use lib.Seq.{drop-drop, length-take-le}
use borrow.Rule.Slice.PartMut.{put_mid}
use Rattle.std.proofs.lemmas.Slice.{take-put_mid, drop-put_mid}
use Rattle.io.specs.Digits.{IsDigitCount}
use Rattle.text.specs.Put.{places, decimal, Appended, Put}
use Rattle.text.proofs.Lists.{lt_or_le}
use Rattle.text.proofs.ReadBack.{digits_length}

lowest : (n k : ℕ) → IsDigitCount 10 1 n (suc (suc k)) → 10 ^ suc k ≤ n
lowest n k w = let e : suc (suc k) - 1 ≡ suc k = omega arith in rw e at (w.2 (omega arith))

one_less : (n k : ℕ) → IsDigitCount 10 1 n (suc (suc k)) → IsDigitCount 10 1 (n / 10) (suc k)
one_less n k w =
    let q = lowest n k w in
    let e : suc k - 1 ≡ k = omega arith in (omega arith, omega arith, λ m. rw e (omega arith))

-- the fewest digits are as many as `places` counts
pub counted : (f n k : ℕ) → n ≤ f → IsDigitCount 10 1 n k → places f n ≡ k
unfolding places
counted zero n zero h w = absurd (omega arith)
counted zero n (suc zero) h w = refl
counted zero n (suc (suc k)) h w = absurd (omega (arith, one-le-pow (suc k) 10 (omega arith), lowest n k w))
counted (suc f) n zero h w = absurd (omega arith)
counted (suc f) n (suc zero) h w = rw (lt-ltb n 10 (omega arith))
counted (suc f) n (suc (suc k)) h w =
    let p : 1 ≤ 10 ^ k = one-le-pow k 10 (omega arith) in
    let q = lowest n k w in
    rw (le-ltb n 10 (omega arith)) (ap suc (counted f (n / 10) (suc k) (omega arith) (one_less n k w)))

-- a number below 10^m has at most m digits
few : (f n m : ℕ) → n < 10 ^ suc m → places f n ≤ suc m
unfolding places
few zero n m h = omega arith
few (suc f) n zero h = rw (lt-ltb n 10 (omega arith)) (omega arith)
few (suc f) n (suc m) h =
    ⊎_elim (λ (l : n < 10). rw (lt-ltb n 10 l) (omega arith))
    (λ (l : 10 ≤ n). let q = few f (n / 10) m (omega arith) in rw (le-ltb n 10 l) (omega arith))
    (lt_or_le n 10)

-- a 64-bit number has at most 20 digits
pub short : (n : ℕ) → n < 2 ^ 64 → length (decimal n) ≤ 20
unfolding decimal
short n h = rw (digits_length (places n n) n) (few n n 19 (omega arith))

pub nothing_more : (before : List ℕ) (at : ℕ) → at ≤ length before → Appended before at [] before at
nothing_more before at h = record { size = refl; end = omega arith; within = h; exact = sym (append-nil _); rest = refl }

-- a text that is written over as many bytes
pub written : (before text part : List ℕ) (at : ℕ) → at + length text ≤ length before → part ≡ text
    → Appended before at text (put_mid at (at + length text - at) before part) (at + length text)
written before text part at h e =
    let size : at + length text - at ≡ length text = omega arith in
    let low : at ≤ length before = omega arith in
    let same : length (put_mid at (length text) before text) ≡ length before = simp (length-append, length-take-le at before low, length-drop) (omega arith) in
    rw (e, size)
    (record {
      size = same;
      end = refl;
      within = omega arith;
      exact = take-put_mid at (length text) before text (at + length text) refl low;
      rest = drop-put_mid at (length text) before text (at + length text) (omega arith) low refl;
    })

-- what is equal from r on is equal from any place behind it
later : (a b : List ℕ) (r m : ℕ) → drop r b ≡ drop r a → drop (r + m) b ≡ drop (r + m) a
later a b r m e = sym (drop-drop m r b) ∙ ap (drop m) e ∙ drop-drop m r a

-- one text, and another behind it
pub both : {a b c t u : List ℕ} {at r s : ℕ} → Appended a at t b r → Appended b r u c s → Appended a at (t ++ u) c s
both {a} {b} {c} {t} {u} {at} {r} {s} p q =
    record {
      size = q.size ∙ p.size;
      end = rw (length-append t u) (omega (arith, p.end, q.end));
      within = q.within;
      exact = q.exact ∙ ap (λ (l : List ℕ). l ++ u) p.exact ∙ append_assoc (take at a) t u;
      rest = q.rest ∙ (rw q.end (later a b r (length u) p.rest));
    }

-- a text that does not fit
pub left_out : (before text : List ℕ) (at : ℕ) → length before < at + length text → Put before at text before at
left_out before text at h = record { fits = λ w. absurd (omega arith); past = λ w. (refl, refl) }
