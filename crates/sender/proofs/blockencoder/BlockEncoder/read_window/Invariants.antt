use mathlib.Core.Path.{◌≡◌}
use Rattle.sender.specs.EncoderCalls.{ValidEncoder, filled_of}
use Rattle.sender.proofs.EncoderLaws.{missing}
use Rattle.sender.proofs.blockencoder.BlockEncoder.read_window.Given as goal

abbrev pub invariant-loop-self : goal.invariant-loop-self
invariant-loop-self l = record { valid : ValidEncoder l.self; same : filled_of l.self ≡ filled_of l.initial.self }

abbrev pub decreases-loop-self : goal.decreases-loop-self
decreases-loop-self l = missing l.self
