-- `record_program::hex::put_hex` meets its contract.
use native.Mathlib.Omega.{arith}
use Rattle.text.proofs.Appends.{nothing_more}
use Rattle.record_program.specs.Hex.{hex_of}
use Rattle.record_program.proofs.HexLaws.{hex_more}
use Rattle.record_program.proofs.hex.put_hex.Goals as goal

pub loop-b-init : goal.loop-b-init
unfolding hex_of
loop-b-init c = λ room. nothing_more _ _ (omega arith)

pub loop-b-preserved : goal.loop-b-preserved
loop-b-preserved c =
    λ room. hex_more c.args.bytes.now c.loop-b.b-index (omega arith) room (c.loop-b.invariant room) c.put_byte-end.ensures
