use mathlib.Core.Path.{◌≡◌}
use Rattle.sender.specs.EncoderCalls.{ValidEncoder, settled, drained_count}
use Rattle.sender.proofs.blockencoder.BlockEncoder.make_ready.Given as goal

abbrev pub invariant-loop-self : goal.invariant-loop-self
invariant-loop-self l = record { valid : ValidEncoder l.self; same : settled (drained_count l.self) l.self ≡ settled (drained_count l.initial.self) l.initial.self }

abbrev pub decreases-loop-self : goal.decreases-loop-self
decreases-loop-self l = drained_count l.self
