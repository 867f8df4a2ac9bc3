use Rattle.std.proofs.Common.{refl}
use Rattle.sizes.specs.Allocator.{noting}
use Rattle.sizes.proofs.toiallocator.ToiAllocator.note.Goals as goal

pub returns : goal.returns
unfolding noting
returns c = refl
