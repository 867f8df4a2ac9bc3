-- `text::put::put_number` meets its contract: the digits are as many as the number has.
use native.Mathlib.Omega.{arith}
use Rattle.text.specs.Put.{decimal}
use Rattle.text.proofs.Appends.{counted}
use Rattle.text.proofs.put.put_number.Goals as goal

pub returns : goal.returns
unfolding decimal
returns c =
    let n = c.args.n in
    rw (counted n n c.decimal-k.result (omega arith) c.decimal-k.ensures.len, ← c.decimal-k.ensures.digits) c.put_text.ensures
