-- `record_program::write_words` is safe and ends: the numbers fit where they are taken.
use mathlib.Core.Path.{sym, ◌∙◌}
use native.Mathlib.Omega.{arith}
use Rattle.record_program.proofs.NumberLaws.{fitting}
use Rattle.record_program.proofs.write_words.Goals as goal

pub overflow_cast-result : goal.overflow_cast-result
overflow_cast-result c = omega (arith, (fitting _ (sym c.in_range.ensures ∙ c.if-not-in_range.false)).1)
