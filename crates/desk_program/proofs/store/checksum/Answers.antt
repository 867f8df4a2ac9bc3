-- `desk_program::store::checksum` meets its contract.
use mathlib.Core.Path.{sym, ◌∙◌}
use borrow.Author.Rules.{rules}
use Rattle.desk_program.proofs.StoreLaws.{sum_step, sum_end}
use Rattle.desk_program.proofs.store.checksum.Goals as goal

pub loop-b-preserved : goal.loop-b-preserved
loop-b-preserved c =
    let bytes = c.args.bytes.now in (
      c.with_byte-sum.ensures.1,
      rw c.with_byte-sum.ensures.0 (sum_step bytes c.loop-b.b-index c.loop-b.sum (search rules) ∙ c.loop-b.invariant.1),
    )

pub returns : goal.returns
returns c =
    let bytes = c.args.bytes.now in
    sym (sum_end bytes c.loop-b.b-index c.loop-b.sum (search rules)) ∙ c.loop-b.invariant.1
