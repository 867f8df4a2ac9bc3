-- Object numbers (TOI): the cyclic order 1, 2, .., 2^w - 1, 1, .. and the next one that is not held.
use Rattle.std.specs.Prelude.{◌≡◌, ℕ, zero, suc, ◌+◌, ◌%◌, ◌^◌, ◌<◌, ◌≤◌, true, false, List, length, ◌==◌}
use Rattle.sizes.specs.Words.{when◌then◌else◌, has}

-- 0 becomes 1
unfoldable pub skip_zero : ℕ → ℕ
skip_zero n = when n == 0 then 1 else n

-- cut to w bits; 0 then becomes 1
unfoldable pub cut_to : ℕ → ℕ → ℕ
cut_to w n = skip_zero (n % 2 ^ w)

-- the first number, from the value that the set-up names
unfoldable pub first_toi : ℕ → ℕ → ℕ
first_toi w n = cut_to w (skip_zero n)

-- the number after n
unfoldable pub after : ℕ → ℕ → ℕ
after w n = cut_to w (n + 1)

-- from n on, the first that is not held, looked for in k turns
unfoldable pub free_from : ℕ → ℕ → List ℕ → ℕ → ℕ
free_from w zero held n = n
free_from w (suc k) held n = when has n held then free_from w k held (after w n) else n

-- the next number once t is given; t is among those held
unfoldable pub next_toi : ℕ → List ℕ → ℕ → ℕ
next_toi w held t = free_from w (length held) held (after w t)

-- a number of w bits that an object may have: never 0, which is the FDT's
pub record Toi (w n : ℕ) : Type 0 where
  pub low : 1 ≤ n
  pub high : n < 2 ^ w

-- j numbers on from n
unfoldable pub steps_on : ℕ → ℕ → ℕ → ℕ
steps_on w n zero = n
steps_on w n (suc j) = steps_on w (after w n) j

-- n is the first number after t that is not held: all that stand before it are
pub record FirstFree (w : ℕ) (held : List ℕ) (t n : ℕ) : Type 0 where
  pub passed : ℕ
  pub stands : n ≡ steps_on w (after w t) passed
  pub free : has n held ≡ false
  pub before : (j : ℕ) → j < passed → has (steps_on w (after w t) j) held ≡ true
