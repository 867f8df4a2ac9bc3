use borrow.Author.Tests.{lt-ltb, le-ltb}
use borrow.Author.Tests.{not-true, not-false}
use Rattle.lifecycle.specs.Lifecycle.{may_start}
use Rattle.lifecycle.proofs.FileDescLaws.{start_said}
use Rattle.lifecycle.proofs.filedesc.Plan.may_start_now.Goals as goal

pub returns-then-not-x : goal.returns-then-not-x
unfolding may_start
returns-then-not-x c = rw (not-true c.args.x.published c.if-not-x.true)

pub returns-then-is_before : goal.returns-then-is_before
unfolding may_start
returns-then-is_before c = rw (not-false c.args.x.published c.if-not-x.false, start_said c.args.x.named_start c.args.now, ← c.is_before.ensures, c.if-is_before.true)

pub returns-then-x-self : goal.returns-then-x-self
unfolding may_start
returns-then-x-self c = rw (not-false c.args.x.published c.if-not-x.false, start_said c.args.x.named_start c.args.now, ← c.is_before.ensures, c.if-is_before.false, lt-ltb _ _ c.if-x-self.true)

pub returns : goal.returns
unfolding may_start
returns c = rw (← c.is_round_due.ensures, start_said c.args.x.named_start c.args.now, ← c.is_before.ensures, c.if-is_before.false, le-ltb _ _ c.if-x-self.false, not-false c.args.x.published c.if-not-x.false)
