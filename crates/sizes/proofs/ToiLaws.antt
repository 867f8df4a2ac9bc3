-- Laws of object numbers, once over the width: the next number is in range, is not held, and is the first such.
use Rattle.std.proofs.Common.{◌≡◌, ℕ, zero, suc, ◌+◌, ◌-◌, ◌%◌, ◌^◌, ◌<◌, ◌≤◌, true, false, ◌||◌, eqb, ltb, List, [], ◌∷◌, length, sym, refl, ap, ◌∙◌, true≢false, mod-lt, mod-eq_of_lt, add-one, sub-one, arith, lit<, ltb-false, ltb-true, ne_eqb, eqb-true}
use mathlib.Core.Bool.{false≢true}
use native.Mathlib.Nat.{mod_self, pow-le-pow_right}
use borrow.Author.Tests.{eqb-false}
use Rattle.sizes.specs.Words.{when◌then◌else◌, has}
use Rattle.sizes.specs.Limits.{toi_entries}
use Rattle.sizes.specs.Toi.{skip_zero, cut_to, after, free_from, first_toi, next_toi, Toi, steps_on, FirstFree}
use Rattle.sizes.proofs.Tests.{Tested, pass, fail, tested}

skip_range : (w n : ℕ) → 2 ≤ 2 ^ w → n < 2 ^ w → Toi w (skip_zero n)
unfolding skip_zero
skip_range w n h g = (elim (eqb n 0) as (λ t. eqb n 0 ≡ t → Toi w (when t then 1 else n)) [
  | true ↦ λ e. record { low = omega arith; high = h }
  | false ↦ λ e. record { low = (let k : n ≡ 0 → ⊥ = eqb-false n 0 e in positive n k); high = g }
]) refl
  where
    positive : (n : ℕ) → (n ≡ 0 → ⊥) → 1 ≤ n
    positive zero k = absurd (k refl)
    positive (suc n) k = omega arith

cut_range : (w n : ℕ) → 2 ≤ 2 ^ w → Toi w (cut_to w n)
unfolding cut_to
cut_range w n h = skip_range w (n % 2 ^ w) h (mod-lt n (omega arith))

after_range : (w n : ℕ) → 2 ≤ 2 ^ w → Toi w (after w n)
unfolding after
after_range w n h = cut_range w (n + 1) h

-- the number after n is n + 1, or 1 at the end of the width
data After (w n : ℕ) : Type 0 where
  onward : suc n < 2 ^ w → after w n ≡ suc n → After w n
  round : suc n ≡ 2 ^ w → after w n ≡ 1 → After w n

after_cases : (w n : ℕ) → n < 2 ^ w → After w n
unfolding after cut_to skip_zero
after_cases w n h = (elim (eqb (suc n) (2 ^ w)) as (λ t. eqb (suc n) (2 ^ w) ≡ t → After w n) [
  | true ↦ λ e. (let q = eqb-true (suc n) (2 ^ w) e in
      round q (rw (add-one n, q, mod_self (2 ^ w))))
  | false ↦ λ e. (let q : suc n < 2 ^ w = below (eqb-false (suc n) (2 ^ w) e) in
      onward q (rw (add-one n, mod-eq_of_lt q, ne_eqb (suc n) 0 (λ z. absurd (omega arith)))))
]) refl
  where
    below : (suc n ≡ 2 ^ w → ⊥) → suc n < 2 ^ w
    below k = omega (arith, k)

-- where j steps lead, within one turn
data Ahead (w n j : ℕ) : Type 0 where
  onward : steps_on w n j ≡ n + j → Ahead w n j
  round : steps_on w n j + (2 ^ w - 1) ≡ n + j → Ahead w n j

ahead_cases : (w n j : ℕ) → Toi w n → j < 2 ^ w - 1 → Ahead w n j
unfolding steps_on
ahead_cases w n zero r h = Ahead.onward (omega arith)
ahead_cases w n (suc j) r h = go (after_cases w n r.high) (ahead_cases w (after w n) j (after_range w n (let a = r.low in let b = r.high in omega arith)) (omega arith))
  where
    go : After w n → Ahead w (after w n) j → Ahead w n (suc j)
    go (After.onward a e) (Ahead.onward f) = Ahead.onward (omega arith)
    go (After.onward a e) (Ahead.round f) = Ahead.round (omega arith)
    go (After.round a e) (Ahead.onward f) = Ahead.round (omega arith)
    go (After.round a e) (Ahead.round f) = absurd (omega arith)

-- no step within one turn comes back
never_back : (w n j : ℕ) → Toi w n → suc j < 2 ^ w - 1 → steps_on w n (suc j) ≡ n → ⊥
never_back w n j r h e = go (ahead_cases w n (suc j) r h)
  where
    go : Ahead w n (suc j) → ⊥
    go (Ahead.onward f) = omega arith
    go (Ahead.round f) = omega arith

-- the list without the number n
others : ℕ → List ℕ → List ℕ
others n [] = []
others n (a ∷ l) = when eqb a n then others n l else a ∷ others n l

others_shorter : (n : ℕ) (l : List ℕ) → length (others n l) ≤ length l
unfolding others
others_shorter n [] = omega arith
others_shorter n (a ∷ l) = elim (eqb a n) as (λ t. length (when t then others n l else a ∷ others n l) ≤ suc (length l))
    [ true ↦ (let h = others_shorter n l in omega arith) | false ↦ (let h = others_shorter n l in omega arith) ]

others_less : (n : ℕ) (l : List ℕ) → has n l ≡ true → length (others n l) < length l
unfolding others
others_less n [] e = absurd (false≢true e)
others_less n (a ∷ l) e = (elim (eqb a n) as (λ t. (t || has n l) ≡ true → length (when t then others n l else a ∷ others n l) < suc (length l))
    [ true ↦ λ e. (let h = others_shorter n l in omega arith) | false ↦ λ e. (let h = others_less n l e in omega arith) ]) e

others_has : (n m : ℕ) (l : List ℕ) → (m ≡ n → ⊥) → has m l ≡ true → has m (others n l) ≡ true
unfolding others
others_has n m [] d e = e
others_has n m (a ∷ l) d e = (elim (eqb a n) as (λ t. eqb a n ≡ t → (eqb a m || has m l) ≡ true → has m (when t then others n l else a ∷ others n l) ≡ true) [
  | true ↦ λ q e. others_has n m l d (rw (ne_eqb a m (λ z. d (sym z ∙ eqb-true a n q))) at e)
  | false ↦ λ q e. (elim (eqb a m) as (λ t. (t || has m l) ≡ true → (t || has m (others n l)) ≡ true)
      [ true ↦ λ e. refl | false ↦ λ e. others_has n m l d e ]) e
]) refl e

-- within k turns the search finds a number that is not held, if at most k held numbers lie ahead
free_ok : (w k : ℕ) (held rest : List ℕ) (n : ℕ) → Toi w n → k < 2 ^ w - 1 → length rest ≤ k
    → ((j : ℕ) → j ≤ k → has (steps_on w n j) held ≡ true → has (steps_on w n j) rest ≡ true)
    → has (free_from w k held n) held ≡ false
unfolding free_from steps_on
free_ok w zero held [] n r h g f = go (tested (has n held))
  where
    go : Tested (has n held) → has n held ≡ false
    go (pass e) = absurd (false≢true (f 0 (omega arith) e))
    go (fail e) = e
free_ok w zero held (x ∷ rest) n r h g f = absurd (omega arith)
free_ok w (suc k) held rest n r h g f =
    (elim (has n held) as (λ t. has n held ≡ t → has (when t then free_from w k held (after w n) else n) held ≡ false) [
      | true ↦ λ e. free_ok w k held (others n rest) (after w n) (after_range w n (let a = r.low in let b = r.high in omega arith)) (omega arith)
          (let z = others_less n rest (f 0 (omega arith) e) in omega arith)
          (λ j i e. others_has n (steps_on w (after w n) j) rest (never_back w n j r (omega arith)) (f (suc j) (omega arith) e))
      | false ↦ λ e. e
    ]) refl

free_range : (w k : ℕ) (held : List ℕ) (n : ℕ) → Toi w n → Toi w (free_from w k held n)
unfolding free_from
free_range w zero held n r = r
free_range w (suc k) held n r = elim (has n held) as (λ t. Toi w (when t then free_from w k held (after w n) else n))
    [ true ↦ free_range w k held (after w n) (after_range w n (let a = r.low in let b = r.high in omega arith)) | false ↦ r ]

-- the search stops at a number before which all are held
record Stop (w : ℕ) (held : List ℕ) (n m : ℕ) : Type 0 where
  passed : ℕ
  stands : m ≡ steps_on w n passed
  before : (j : ℕ) → j < passed → has (steps_on w n j) held ≡ true

stop_at : (w k : ℕ) (held : List ℕ) (n : ℕ) → Stop w held n (free_from w k held n)
unfolding free_from steps_on
stop_at w zero held n = record { passed = 0; stands = refl; before = λ j h. absurd (omega arith) }
stop_at w (suc k) held n = (elim (has n held) as (λ t. has n held ≡ t → Stop w held n (when t then free_from w k held (after w n) else n)) [
  | true ↦ λ e. (let s = stop_at w k held (after w n) in
      record { passed = suc s.passed; stands = s.stands; before = λ j h. each e s j h })
  | false ↦ λ e. record { passed = 0; stands = refl; before = λ j h. absurd (omega arith) }
]) refl
  where
    each : has n held ≡ true → (s : Stop w held (after w n) (free_from w k held (after w n))) → (j : ℕ) → j < suc s.passed → has (steps_on w n j) held ≡ true
    each e s zero h = e
    each e s (suc j) h = s.before j (omega arith)

wide : (w : ℕ) → 16 ≤ w → 65_536 ≤ 2 ^ w
wide w h = pow-le-pow_right (lit< tt) h

pub first_range : (w n : ℕ) → 16 ≤ w → Toi w (first_toi w n)
unfolding first_toi
first_range w n h = let z = wide w h in cut_range w (skip_zero n) (omega arith)

-- the next number is one that an object may have
pub next_range : (w : ℕ) (held : List ℕ) (t : ℕ) → 16 ≤ w → Toi w (next_toi w held t)
unfolding next_toi
next_range w held t h = let z = wide w h in free_range w (length held) held (after w t) (after_range w t (omega arith))

-- it is not held
pub next_free : (w : ℕ) (held : List ℕ) (t : ℕ) → 16 ≤ w → length held ≤ toi_entries → has (next_toi w held t) held ≡ false
unfolding next_toi
next_free w held t h g =
    let z = wide w h in
    free_ok w (length held) held held (after w t) (after_range w t (omega arith)) (omega arith) (omega arith) (λ j i e. e)

-- and it is the first such after t
pub next_first : (w : ℕ) (held : List ℕ) (t : ℕ) → 16 ≤ w → length held ≤ toi_entries → FirstFree w held t (next_toi w held t)
unfolding next_toi
next_first w held t h g =
    let s = stop_at w (length held) held (after w t) in
    record { passed = s.passed; stands = s.stands; free = next_free w held t h g; before = s.before }

-- which is one number
pub first_once : (w : ℕ) (held : List ℕ) (t m n : ℕ) → FirstFree w held t m → FirstFree w held t n → m ≡ n
first_once w held t m n a b = go (tested (ltb a.passed b.passed)) (tested (ltb b.passed a.passed))
  where
    later : (m n : ℕ) (a : FirstFree w held t m) (b : FirstFree w held t n) → a.passed < b.passed → ⊥
    later m n a b h = true≢false (sym (b.before a.passed h) ∙ ap (λ x. has x held) (sym a.stands) ∙ a.free)

    go : Tested (ltb a.passed b.passed) → Tested (ltb b.passed a.passed) → m ≡ n
    go (pass p) q = absurd (later m n a b (ltb-true a.passed b.passed p))
    go (fail p) (pass q) = absurd (later n m b a (ltb-true b.passed a.passed q))
    go (fail p) (fail q) =
        let u = ltb-false a.passed b.passed p in
        let v = ltb-false b.passed a.passed q in
        a.stands ∙ ap (steps_on w (after w t)) (let e : a.passed ≡ b.passed = omega arith in e) ∙ sym b.stands

-- the search asks of the held numbers only whether one is held, so their order does not matter
free_same : (w k : ℕ) (a b : List ℕ) (n : ℕ) → ((m : ℕ) → has m a ≡ has m b) → free_from w k a n ≡ free_from w k b n
unfolding free_from
free_same w zero a b n h = refl
free_same w (suc k) a b n h = rw (h n) (elim (has n b) as (λ t. (when t then free_from w k a (after w n) else n) ≡ (when t then free_from w k b (after w n) else n))
    [ true ↦ free_same w k a b (after w n) h | false ↦ refl ])

pub next_same : (w : ℕ) (a b : List ℕ) (t : ℕ) → length a ≡ length b → ((m : ℕ) → has m a ≡ has m b) → next_toi w a t ≡ next_toi w b t
unfolding next_toi
next_same w a b t e h = ap (λ k. free_from w k a (after w t)) e ∙ free_same w (length b) a b (after w t) h

-- the search by turns: a number that is not held ends it, a held one leaves the next and one turn less
pub free_here : (w k : ℕ) (held : List ℕ) (n : ℕ) → has n held ≡ false → free_from w k held n ≡ n
unfolding free_from
free_here w zero held n e = refl
free_here w (suc k) held n e = rw e

pub free_further : (w k : ℕ) (held : List ℕ) (n : ℕ) → 0 < k → has n held ≡ true → free_from w k held n ≡ free_from w (k - 1) held (after w n)
unfolding free_from
free_further w zero held n h e = absurd (omega arith)
free_further w (suc k) held n h e = rw (e, sub-one)

pub free_end : (w k : ℕ) (held : List ℕ) (n : ℕ) → k ≤ 0 → free_from w k held n ≡ n
unfolding free_from
free_end w zero held n h = refl
free_end w (suc k) held n h = absurd (omega arith)
