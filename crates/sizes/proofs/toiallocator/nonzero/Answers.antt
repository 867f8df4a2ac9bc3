use Rattle.std.proofs.Common.{ne_eqb}
use Rattle.sizes.specs.Toi.{skip_zero}
use Rattle.sizes.proofs.toiallocator.nonzero.Goals as goal

pub returns-then-n-eq0 : goal.returns-then-n-eq0
unfolding skip_zero
returns-then-n-eq0 c = rw c.if-n-eq0.true

pub returns-else-n-eq0 : goal.returns-else-n-eq0
unfolding skip_zero
returns-else-n-eq0 c = rw (ne_eqb _ _ c.if-n-eq0.false)
