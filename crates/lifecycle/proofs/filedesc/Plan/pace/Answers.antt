use Rattle.std.proofs.Math.Nat.{max_comm}
use borrow.Author.Tests.{not-true, not-false}
use Rattle.lifecycle.specs.Lifecycle.{tick_of}
use Rattle.lifecycle.specs.FileDesc.{pace_at}
use Rattle.lifecycle.proofs.filedesc.Plan.pace.Goals as goal

pub returns-then-not-self : goal.returns-then-not-self
unfolding pace_at
returns-then-not-self c = rw (c.none.ensures, not-true c.args.self.paced c.if-not-self.true)

pub returns-then-self : goal.returns-then-self
unfolding pace_at tick_of
returns-then-self c = rw (not-false c.args.self.paced c.if-not-self.false, c.if-self.true, c.elapsed.ensures, c.max-packets.ensures, max_comm c.div_ceil.result 1, c.div_ceil.ensures)

pub returns : goal.returns
unfolding pace_at tick_of
returns c = rw (not-false c.args.self.paced c.if-not-self.false, c.if-self.false, c.max-packets.ensures, max_comm c.div_ceil.result 1, c.div_ceil.ensures)
