use Rattle.lifecycle.specs.FdtCalls.{fdt_done_of}
use Rattle.lifecycle.proofs.fdt.Fdt.fdt_transfer_done.Goals as goal

pub returns : goal.returns
unfolding fdt_done_of
returns c = rw c.fdt_transfer_done.ensures
