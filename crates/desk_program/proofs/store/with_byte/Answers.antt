-- `desk_program::store::with_byte` meets its contract.
use mathlib.Core.Path.{refl}
use native.Mathlib.Omega.{arith}
use Rattle.desk_program.specs.Stores.{sum_with}
use Rattle.desk_program.proofs.store.with_byte.Goals as goal

pub returns : goal.returns
unfolding sum_with
returns c = (refl, omega arith)
