-- Texts and numbers put into a buffer.
use Rattle.std.specs.Prelude.{◌≡◌, cond, List, ◌∷◌, ◌++◌, ℕ, zero, suc, ◌+◌, ◌/◌, ◌<◌, ◌≤◌, ltb, length, take, drop}
use Rattle.io.specs.Digits.{last_digits}

-- how many digits n has, counted in at most k steps; n steps are enough
unfoldable pub places : ℕ → ℕ → ℕ
places zero n = 1
places (suc k) n = cond (ltb n 10) 1 (suc (places k (n / 10)))

-- a number in decimal with no zero in front
unfoldable pub decimal : ℕ → List ℕ
decimal n = last_digits 10 (places n n) n

-- a blank (32), and a number in decimal
abbrev pub next_text : ℕ → List ℕ
next_text n = 32 ∷ decimal n

-- the buffer `before` is filled as far as `at`, and then, as `after`, as far as r: the text stands behind what was there,
-- and the bytes behind the text are as they were
pub record Appended (before : List ℕ) (at : ℕ) (text after : List ℕ) (r : ℕ) : Type 0 where
  pub size : length after ≡ length before
  pub end : r ≡ at + length text
  pub within : r ≤ length after
  pub exact : take r after ≡ take at before ++ text
  pub rest : drop r after ≡ drop r before

-- the text is put there if it fits; if not, nothing changes
pub record Put (before : List ℕ) (at : ℕ) (text after : List ℕ) (r : ℕ) : Type 0 where
  pub fits : at + length text ≤ length before → Appended before at text after r
  pub past : length before < at + length text → (after ≡ before) × (r ≡ at)
