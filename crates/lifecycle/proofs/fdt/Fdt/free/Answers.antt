use mathlib.Core.Path.{ap}
use native.Mathlib.Omega.{arith}
use Rattle.sizes.specs.Allocator.{Changed}
use Rattle.lifecycle.specs.FdtCalls.{freed_of}
use Rattle.lifecycle.proofs.fdt.Fdt.free.Goals as goal

pub returns : goal.returns
unfolding freed_of
returns c =
    let long = c.requires.0.queue_long in
    let room = c.requires.0.queued in
    let e = ap (λ (r : Changed). r.allocator) c.free.ensures.exact in rw (c.close_gap.ensures.inside (omega arith), c.no_slot.ensures, e)
