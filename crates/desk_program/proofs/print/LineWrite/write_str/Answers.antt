use native.Mathlib.Omega.{arith}
use Rattle.text.proofs.Appends.{written}
use Rattle.desk_program.proofs.print.LineWrite.write_str.Goals as goal

-- the text that is copied stands behind what was there
pub returns-clause-ok : goal.returns-clause-ok
returns-clause-ok c = λ _. let h = c.if-self-text.false in
    rw (← c.as_bytes-text.ensures.value) (written c.args.self.now.bytes c.as_bytes-text.result.now _ c.args.self.now.used (omega arith) c.copy_from_slice.ensures.after)
