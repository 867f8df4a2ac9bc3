use native.Mathlib.Omega.{arith}
use Rattle.lifecycle.specs.Lifecycle.{is_last}
use Rattle.lifecycle.proofs.FileDescLaws.{last_said, last_none}
use Rattle.lifecycle.proofs.filedesc.FileDesc.is_last_transfer.Goals as goal

pub returns-then-self : goal.returns-then-self
unfolding is_last
returns-then-self c = rw c.if-self.true

pub returns-then-self-eq0 : goal.returns-then-self-eq0
returns-then-self-eq0 c = last_none c.args.self.now.plan c.args.self.now.life c.if-self.false c.if-self-eq0.true

pub returns : goal.returns
returns c = last_said c.args.self.now.plan c.args.self.now.life c.if-self.false (omega arith)
