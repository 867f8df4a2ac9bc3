-- `desk_program::store::period` meets its contract.
use borrow.Author.Rules.{rules}
use Rattle.desk_program.specs.Stores.{period_of}
use Rattle.desk_program.proofs.store.period.Goals as goal

pub returns-then-is_fdt : goal.returns-then-is_fdt
unfolding period_of
returns-then-is_fdt c = (rw c.if-is_fdt.true, search rules)

pub returns-else-is_fdt : goal.returns-else-is_fdt
unfolding period_of
returns-else-is_fdt c = (rw c.if-is_fdt.false, search rules)
