use Rattle.std.proofs.Common.{ap, ◌∙◌}
use Rattle.std.specs.Prelude.{is_some}
use Rattle.sizes.specs.Allocator.{noted}
use Rattle.sizes.proofs.AllocatorLaws.{loose_found}
use Rattle.sizes.proofs.toiallocator.ToiAllocator.is_loose.Goals as goal

pub returns : goal.returns
returns c = c.is_some.ensures ∙ ap is_some c.find.ensures ∙ loose_found c.args.toi (noted c.args.self.now)
