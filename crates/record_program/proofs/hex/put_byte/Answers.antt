-- `record_program::hex::put_byte` meets its contract.
use Rattle.record_program.specs.Hex.{byte_text}
use Rattle.record_program.proofs.hex.put_byte.Goals as goal

pub returns : goal.returns
unfolding byte_text
returns c = rw (← c.digit.ensures, ← c.digit-2.ensures) c.put_text.ensures
