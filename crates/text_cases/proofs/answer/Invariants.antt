-- `text_cases::answer` is safe and ends. The measure is what is left of the line.
use Rattle.std.proofs.Common.{◌-◌, length}
use Rattle.text_cases.proofs.answer.Given as goal

abbrev pub invariant-loop-word : goal.invariant-loop-word
invariant-loop-word g l = Unit {0}

abbrev pub decreases-loop-word : goal.decreases-loop-word
decreases-loop-word g l = length l.words.line.now - l.words.at
