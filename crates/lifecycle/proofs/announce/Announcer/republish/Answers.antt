use mathlib.Core.Path.{sym, ◌∙◌}
use native.Mathlib.Omega.{arith}
use Rattle.lifecycle.specs.Announce.{republished_of}
use Rattle.lifecycle.proofs.AnnounceLaws.{needed_empty}
use Rattle.lifecycle.proofs.announce.Announcer.republish.Goals as goal

pub returns-then-not-needs_new-clause-left : goal.returns-then-not-needs_new-clause-left
unfolding republished_of
returns-then-not-needs_new-clause-left c = rw (sym c.needs_new.ensures ∙ c.if-not-needs_new.true)

pub returns-in_default-clause-left : goal.returns-in_default-clause-left
unfolding republished_of
returns-in_default-clause-left c = rw (sym c.needs_new.ensures ∙ c.if-not-needs_new.false, c.in_default.is)

pub queue_up-requires : goal.queue_up-requires
queue_up-requires c = let e = needed_empty c.args.validity c.args.now c.args.self.now (sym c.needs_new.ensures ∙ c.if-not-needs_new.false) in
    (c.requires, omega arith)

pub returns-clause-left : goal.returns-clause-left
unfolding republished_of
returns-clause-left c = rw (sym c.needs_new.ensures ∙ c.if-not-needs_new.false, c.in-Some.is) c.queue_up.ensures
