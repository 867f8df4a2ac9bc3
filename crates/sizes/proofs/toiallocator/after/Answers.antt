use Rattle.std.proofs.Common.{◌+◌, ap, ◌∙◌}
use Rattle.sizes.specs.Toi.{skip_zero, cut_to, after}
use Rattle.sizes.proofs.AllocatorLaws.{cut_64}
use Rattle.sizes.proofs.toiallocator.after.Goals as goal

pub returns : goal.returns
unfolding after cut_to
returns c = c.nonzero.ensures ∙ ap skip_zero (c.to_max_length.ensures ∙ cut_64 c.args.width (c.args.n + 1) c.requires)
