use mathlib.Core.Path.{ap}
use Rattle.sizes.specs.Allocator.{Changed}
use Rattle.lifecycle.specs.FdtCalls.{let_go_of}
use Rattle.lifecycle.proofs.fdt.Fdt.let_go.Goals as goal

pub returns : goal.returns
unfolding let_go_of
returns c = let e = ap (λ (r : Changed). r.allocator) c.free.ensures.exact in rw (c.no_slot.ensures, e)
