use Rattle.lifecycle.specs.FdtCalls.{put_of}
use Rattle.lifecycle.proofs.fdt.Fdt.put.Goals as goal

pub returns : goal.returns
unfolding put_of
returns c = rw c.new.ensures
