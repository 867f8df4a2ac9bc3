-- `record_program::hex::pair` meets its contract: a digit stands for less than 16.
use mathlib.Core.Path.{sym, ◌∙◌}
use native.Mathlib.Omega.{arith}
use Rattle.record_program.proofs.HexLaws.{small}
use Rattle.record_program.specs.Hex.{pair_value}
use Rattle.record_program.proofs.hex.pair.Goals as goal

pub returns-in_err-high : goal.returns-in_err-high
unfolding pair_value
returns-in_err-high c = rw (c.from_residual.ensures, ← c.value.ensures, c.in_err-high.was)

pub returns-in_err-low : goal.returns-in_err-low
unfolding pair_value
returns-in_err-low c = rw (c.from_residual-in_err-low.ensures, ← c.value.ensures, c.in_ok-high.was, ← c.value-2.ensures, c.in_err-low.was)

pub overflow_mul-result : goal.overflow_mul-result
overflow_mul-result c = omega (arith, small _ _ (sym c.value.ensures ∙ c.in_ok-high.was))

pub overflow_add-result : goal.overflow_add-result
overflow_add-result c =
    omega (arith, small _ _ (sym c.value.ensures ∙ c.in_ok-high.was), small _ _ (sym c.value-2.ensures ∙ c.in_ok-low.was))

pub returns : goal.returns
unfolding pair_value
returns c = rw (← c.value.ensures, c.in_ok-high.was, ← c.value-2.ensures, c.in_ok-low.was)
