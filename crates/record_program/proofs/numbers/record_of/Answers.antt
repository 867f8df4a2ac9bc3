-- `record_program::numbers::record_of` meets its contract.
use mathlib.Core.Path.{refl}
use native.Mathlib.Omega.{arith}
use Rattle.record_program.proofs.NumberLaws.{fitting}
use Rattle.wire.specs.Record.{with_values}
use Rattle.record_program.proofs.numbers.record_of.Goals as goal

pub overflow_cast-fdt_id : goal.overflow_cast-fdt_id
overflow_cast-fdt_id c = omega (arith, (fitting _ c.requires).0.fdt_id)

pub overflow_cast-block : goal.overflow_cast-block
overflow_cast-block c = omega (arith, (fitting _ c.requires).0.block)

pub overflow_cast-symbol : goal.overflow_cast-symbol
overflow_cast-symbol c = omega (arith, (fitting _ c.requires).0.symbol)

pub returns : goal.returns
unfolding with_values
returns c = refl
