-- `drain_program::put` meets its contract: the digits, and one byte behind them.
use native.Mathlib.Omega.{arith}
use borrow.Author.Rules.{rules}
use Rattle.drain_program.proofs.Laws.{field_put}
use Rattle.drain_program.proofs.put.Goals as goal

pub returns : goal.returns
returns c =
    field_put c.args.n c.args.mark (omega arith) (search rules) c.put_number-end.ensures c.put_text.ensures
