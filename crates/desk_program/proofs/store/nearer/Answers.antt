-- `desk_program::store::nearer` meets its contract.
use Rattle.desk_program.specs.Stores.{nearer_of}
use Rattle.desk_program.proofs.store.nearer.Goals as goal

pub returns : goal.returns
unfolding nearer_of
returns c = rw c.period.ensures.0
