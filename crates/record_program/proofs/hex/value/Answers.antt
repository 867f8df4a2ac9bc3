-- `record_program::hex::value` meets its contract, range by range.
use mathlib.Core.Path.{sym}
use native.Mathlib.Omega.{arith}
use Rattle.record_program.proofs.HexLaws.{below, decimal, middle, upper, higher, lower, above}
use Rattle.record_program.proofs.hex.value.Goals as goal

pub returns-in-48-to-57 : goal.returns-in-48-to-57
returns-in-48-to-57 c = sym (decimal _ (omega arith) (omega arith))

pub returns-in-65-to-70 : goal.returns-in-65-to-70
returns-in-65-to-70 c = sym (upper _ (omega arith) (omega arith))

pub returns-in-97-to-102 : goal.returns-in-97-to-102
returns-in-97-to-102 c = sym (lower _ (omega arith) (omega arith))

pub returns-in_default : goal.returns-in_default
returns-in_default c = sym (below _ (omega arith))

pub returns-in_default-2 : goal.returns-in_default-2
returns-in_default-2 c = sym (middle _ (omega arith) (omega arith))

pub returns-in_default-3 : goal.returns-in_default-3
returns-in_default-3 c = sym (higher _ (omega arith) (omega arith))

pub returns-in_default-4 : goal.returns-in_default-4
returns-in_default-4 c = sym (above _ (omega arith))
