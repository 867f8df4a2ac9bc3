-- `wire::record::is_good` meets its contract: each value is tested against its width, and then the numbers.
use mathlib.Core.Path.{sym, ◌∙◌}
use native.Mathlib.Omega.{arith}
use borrow.Author.Rules.{rules}
use Rattle.std.proofs.lemmas.Grind.{common_steps}
use Rattle.wire.proofs.RecordLaws.{wide_bad, fit_good}
use Rattle.wire.proofs.record.is_good.Goals as goal

pub returns-else-r-le-MOST_16_OF_64-2 : goal.returns-else-r-le-MOST_16_OF_64-2
returns-else-r-le-MOST_16_OF_64-2 c = rw (wide_bad c.args.r (λ f. grind (arith, common_steps))) (search rules)

pub returns-then-r-le-MOST_16_OF_64-2 : goal.returns-then-r-le-MOST_16_OF_64-2
returns-then-r-le-MOST_16_OF_64-2 c = c.is_well_named.ensures ∙ sym (fit_good _ (omega arith))
