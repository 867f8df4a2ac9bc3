use native.Mathlib.Omega.{arith}
use borrow.Author.Tests.{not-true, not-false}
use Rattle.lifecycle.proofs.FileDescLaws.{ticked_none, ticked_past, ticked_on}
use Rattle.lifecycle.proofs.filedesc.Pace.ticked.Goals as goal

pub returns-then-not-self : goal.returns-then-not-self
returns-then-not-self c = ticked_none c.args.self (not-true c.args.self.paced c.if-not-self.true)

pub returns-then-self : goal.returns-then-self
returns-then-self c = ticked_past c.args.self (not-false c.args.self.paced c.if-not-self.false) (omega arith)

pub returns : goal.returns
returns c = ticked_on c.args.self (not-false c.args.self.paced c.if-not-self.false) (omega arith)
