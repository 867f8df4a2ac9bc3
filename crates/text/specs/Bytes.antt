-- Classes of bytes, and how far a class goes.
use Rattle.std.specs.Prelude.{List, [], ◌∷◌, Bool, cond, not, ◌&&◌, ◌||◌, ℕ, suc, ◌+◌, ◌-◌, eqb, leb, length, take, drop}
use Rattle.text.specs.declared.bytes.Class.{Class}
use Rattle.text.specs.declared.bytes.Class.TheVariants.{Blank, Ink, InLine}

-- space, tab, carriage return
unfoldable pub blank : ℕ → Bool
blank b = eqb b 32 || eqb b 9 || eqb b 13

-- any byte but a blank: what words are made of
unfoldable pub ink : ℕ → Bool
ink b = not (blank b)

-- any byte but a line feed: what lines are made of
unfoldable pub in_line : ℕ → Bool
in_line b = not (eqb b 10)

unfoldable pub member : Class → ℕ → Bool
member Blank = blank
member Ink = ink
member InLine = in_line

-- how many elements at the front pass the test
unfoldable pub run_length : (ℕ → Bool) → List ℕ → ℕ
run_length p [] = 0
run_length p (x ∷ l) = cond (p x) (suc (run_length p l)) 0

-- the place behind the run that starts at `from`
unfoldable pub pass : (ℕ → Bool) → List ℕ → ℕ → ℕ
pass p s from = from + run_length p (drop from s)

-- the bytes start..end of s; none where that is no part of s
unfoldable pub part : ℕ → ℕ → List ℕ → List ℕ
part start end s = cond (leb start end && leb end (length s)) (take (end - start) (drop start s)) []
