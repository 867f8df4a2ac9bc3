-- `drain_program::send` is safe: the encoder stays valid, and no more of the buffer is in use than there is.
use Rattle.std.proofs.Common.{◌≤◌}
use Rattle.sender.specs.EncoderCalls.{ValidEncoder}
use Rattle.drain_program.proofs.send.Given as goal

abbrev pub invariant-loop : goal.invariant-loop
invariant-loop g l = (l.used ≤ 65536) × ValidEncoder l.encoder
