use mathlib.Core.Path.{◌∙◌, ap}
use borrow.Author.Tests.{not-true, not-false}
use Rattle.lifecycle.specs.Lifecycle.{round_due}
use lib.Dec.{ltb}
use Rattle.lifecycle.proofs.filedesc.Plan.is_round_due.Goals as goal

pub returns-then-not-self : goal.returns-then-not-self
unfolding round_due
returns-then-not-self c = rw (not-true c.args.self.repeats c.if-not-self.true)

pub returns-then-not-x : goal.returns-then-not-x
unfolding round_due
returns-then-not-x c = rw (not-false c.args.self.repeats c.if-not-self.false, not-true c.args.x.last_end.known c.if-not-x.true)

pub returns-then-not-x-2 : goal.returns-then-not-x-2
unfolding round_due
returns-then-not-x-2 c = rw (not-false c.args.self.repeats c.if-not-self.false, not-false c.args.x.last_end.known c.if-not-x.false, not-true c.args.x.last_start.known c.if-not-x-2.true)

pub returns-then-self : goal.returns-then-self
unfolding round_due
returns-then-self c = ap (ltb c.args.self.interval) c.elapsed.ensures
    ∙ rw (not-false c.args.self.repeats c.if-not-self.false, not-false c.args.x.last_end.known c.if-not-x.false, not-false c.args.x.last_start.known c.if-not-x-2.false, c.if-self.true)

pub returns : goal.returns
unfolding round_due
returns c = ap (ltb c.args.self.interval) c.elapsed-2.ensures
    ∙ rw (not-false c.args.self.repeats c.if-not-self.false, not-false c.args.x.last_end.known c.if-not-x.false, not-false c.args.x.last_start.known c.if-not-x-2.false, c.if-self.false)
