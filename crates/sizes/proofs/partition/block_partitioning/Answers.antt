-- `sizes::partition::block_partitioning` meets its contract: each return by the tests that led there.
use Rattle.std.proofs.Common.{◌≡◌, ◌<◌, ℕ, arith, ne_eqb}
use Rattle.sizes.specs.Words.{ceil}
use Rattle.sizes.proofs.Arithmetic.{ceil_some}
use Rattle.sizes.specs.Partition.{symbols_of, split, partition_of}
use Rattle.sizes.proofs.partition.block_partitioning.Goals as goal

-- there is a symbol, so there is a block
some_blocks : (t b n : ℕ) → 0 < t → 0 < b → n ≡ ceil t b → 0 < n
some_blocks t b n t0 b0 e = rw e (ceil_some _ _ b0 t0)

pub returns-then-b-eq0 : goal.returns-then-b-eq0
unfolding partition_of
returns-then-b-eq0 c = rw (c.no_blocks.ensures, c.if-b-eq0.true)

pub returns-then-e-eq0 : goal.returns-then-e-eq0
unfolding partition_of
returns-then-e-eq0 c = rw (c.no_blocks-then-e-eq0.ensures, ne_eqb _ _ c.if-b-eq0.false, c.if-e-eq0.true)

pub returns-then-t-eq0 : goal.returns-then-t-eq0
unfolding partition_of symbols_of
returns-then-t-eq0 c =
    rw (c.no_blocks-then-t-eq0.ensures, ne_eqb _ _ c.if-b-eq0.false, ne_eqb _ _ c.if-e-eq0.false, ← c.div_ceil-t.ensures, c.if-t-eq0.true)

pub nonzero_div-small : goal.nonzero_div-small
nonzero_div-small c = some_blocks c.div_ceil-t.result c.args.b _ (omega arith) (omega arith) c.div_ceil-n.ensures

pub returns : goal.returns
unfolding partition_of symbols_of split
returns c =
    rw (
      ne_eqb _ _ c.if-b-eq0.false,
      ne_eqb _ _ c.if-e-eq0.false,
      ← c.div_ceil-t.ensures,
      ne_eqb _ _ c.if-t-eq0.false,
      ← c.div_ceil-n.ensures,
      ← c.div_ceil-large.ensures,
    )
