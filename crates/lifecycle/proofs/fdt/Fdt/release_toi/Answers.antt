use mathlib.Core.Path.{sym, ap}
use Rattle.sizes.specs.Allocator.{Changed}
use Rattle.lifecycle.specs.FdtCalls.{released_of, with_tois}
use Rattle.lifecycle.proofs.fdt.Fdt.release_toi.Goals as goal

pub returns : goal.returns
unfolding released_of
returns c = sym (ap (λ (r : Changed). record { answer = r.answer; fdt = with_tois c.args.self.now r.allocator }) c.release.ensures.exact)
