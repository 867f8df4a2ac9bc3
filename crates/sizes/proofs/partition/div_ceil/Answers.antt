use Rattle.std.proofs.Common.{sym, rules}
use native.Mathlib.Nat.{div-zero}
use Rattle.sizes.specs.Words.{ceil}
use Rattle.sizes.proofs.Arithmetic.{ceil_exact, ceil_more}
use Rattle.sizes.proofs.partition.div_ceil.Goals as goal

pub returns-then-b-eq0 : goal.returns-then-b-eq0
unfolding ceil
returns-then-b-eq0 c = rw c.if-b-eq0.true (sym (div-zero _))

pub returns-then-a-b-eq0 : goal.returns-then-a-b-eq0
returns-then-a-b-eq0 c = sym (ceil_exact _ _ (search rules) c.if-a-b-eq0.true)

pub returns : goal.returns
returns c = sym (ceil_more _ _ (search rules) c.if-a-b-eq0.false)
