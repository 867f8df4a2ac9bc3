-- `desk_program::answer_all` is safe: the desk's sender, if there is one, may be handed to the next call.
use Rattle.desk_program.specs.Plays.{Holds}
use Rattle.desk_program.proofs.answer_all.Given as goal

abbrev pub invariant-loop : goal.invariant-loop
invariant-loop g l = Holds l.desk
