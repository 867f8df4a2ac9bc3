use mathlib.Core.Path.{◌≡◌}
use mathlib.Core.Bool.{true}
use Prim.Native.Nat.{◌^◌, ◌<◌}
use lib.ListN.{length, drop}
use Rattle.text.specs.Numbers.{all_digits, value_from}
use Rattle.text.proofs.number.number_of.Given as goal

abbrev pub invariant-loop-b : goal.invariant-loop-b
invariant-loop-b l = (0 < length l.w) × (all_digits l.w ≡ true) × (value_from 0 l.w ≡ value_from l.n (drop l.b-index l.w)) × (l.n < 2 ^ 64)
