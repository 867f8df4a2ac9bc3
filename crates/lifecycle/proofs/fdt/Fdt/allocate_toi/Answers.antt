use mathlib.Core.Path.{sym, ap}
use Rattle.sizes.specs.Allocator.{Allocated}
use Rattle.lifecycle.specs.FdtCalls.{reserved_of, with_tois}
use Rattle.lifecycle.proofs.fdt.Fdt.allocate_toi.Goals as goal

pub returns : goal.returns
unfolding reserved_of
returns c = sym (ap (λ (r : Allocated). record { answer = r.answer; fdt = with_tois c.args.self.now r.allocator }) c.allocate.ensures.exact)
