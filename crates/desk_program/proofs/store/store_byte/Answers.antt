-- `desk_program::store::store_byte` meets its contract.
use Rattle.desk_program.specs.Stores.{byte_at}
use Rattle.desk_program.proofs.store.store_byte.Goals as goal

pub returns-then-is_fdt : goal.returns-then-is_fdt
unfolding byte_at
returns-then-is_fdt c = rw c.if-is_fdt.true

pub returns-else-is_fdt : goal.returns-else-is_fdt
unfolding byte_at
returns-else-is_fdt c = rw c.if-is_fdt.false
