use Rattle.lifecycle.specs.FdtCalls.{opening_fdt}
use Rattle.lifecycle.proofs.fdt.Fdt.new.Goals as goal

pub returns : goal.returns
unfolding opening_fdt
returns c = rw (c.new.ensures, c.no_slot.ensures)
