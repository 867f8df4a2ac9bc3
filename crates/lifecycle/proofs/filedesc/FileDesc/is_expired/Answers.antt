use mathlib.Core.Path.{sym}
use borrow.Author.Tests.{le-leb, lt-leb}
use Rattle.lifecycle.specs.Lifecycle.{expired}
use Rattle.lifecycle.proofs.FileDescLaws.{repeats_said}
use Rattle.lifecycle.proofs.filedesc.FileDesc.is_expired.Goals as goal

pub returns-then-self : goal.returns-then-self
unfolding expired
returns-then-self c = rw (le-leb _ _ c.if-self.true) (sym (repeats_said c.args.self.now.plan))

pub returns-else-self : goal.returns-else-self
unfolding expired
returns-else-self c = rw (lt-leb _ _ c.if-self.false)
