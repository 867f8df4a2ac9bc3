use Rattle.sizes.proofs.AllocatorLaws.{opened_by}
use Rattle.sizes.proofs.toiallocator.ToiAllocator.new.Goals as goal

pub returns : goal.returns
returns c =
    opened_by c.args.w c.args.first _ _ _ _ c.bits_of-width.ensures c.nonzero.ensures c.to_max_length.ensures c.nonzero-next.ensures
