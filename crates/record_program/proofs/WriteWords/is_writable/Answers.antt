-- `record_program::WriteWords::is_writable` meets its contract: the part of the buffer is as long as was asked for.
use mathlib.Core.Path.{◌∙◌}
use native.Mathlib.Omega.{arith}
use lib.Seq.{length-take-le}
use Rattle.record_program.proofs.NumberLaws.{room_told}
use Rattle.record_program.proofs.WriteWords.is_writable.Goals as goal

pub returns : goal.returns
returns c = c.is_ok.ensures.value ∙ room_told c.write.ensures (length-take-le _ _ (omega arith))
