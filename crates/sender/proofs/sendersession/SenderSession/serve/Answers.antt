use mathlib.Core.Path.{sym, ◌∙◌}
use Rattle.sender.specs.SessionCalls.{served_of}
use Rattle.sender.proofs.sendersession.SenderSession.serve.Goals as goal
use Rattle.sender.proofs.sendersession.SenderSession.serve.Goals.{then-blocked-via-then-blocked, then-blocked-via-else-blocked+then-is_early}

pub returns-then-blocked-clause-answer : goal.returns-then-blocked-clause-answer
unfolding served_of
returns-then-blocked-clause-answer c = elim c.then-blocked.branch [
  | then-blocked-via-then-blocked w ↦ rw w.if-blocked.true
  | then-blocked-via-else-blocked+then-is_early w ↦ rw (w.if-blocked.false, sym w.is_early.ensures ∙ w.if-is_early.true)
]

pub returns-then-blocked-clause-left : goal.returns-then-blocked-clause-left
unfolding served_of
returns-then-blocked-clause-left c = λ n. elim c.then-blocked.branch [
  | then-blocked-via-then-blocked w ↦ rw w.if-blocked.true
  | then-blocked-via-else-blocked+then-is_early w ↦ rw (w.if-blocked.false, sym w.is_early.ensures ∙ w.if-is_early.true)
]

pub returns-in_default-clause-answer : goal.returns-in_default-clause-answer
unfolding served_of
returns-in_default-clause-answer c = rw (c.if-blocked.false, sym c.is_early.ensures ∙ c.if-is_early.false, ← c.read.ensures.exact, c.in_default.is)

pub returns-clause-answer : goal.returns-clause-answer
unfolding served_of
returns-clause-answer c = rw (c.if-blocked.false, sym c.is_early.ensures ∙ c.if-is_early.false, ← c.read.ensures.exact, c.in-Some.is)

pub returns-clause-left : goal.returns-clause-left
unfolding served_of
returns-clause-left c = λ n. rw (c.if-blocked.false, sym c.is_early.ensures ∙ c.if-is_early.false, ← c.read.ensures.exact, c.in-Some.is, c.ticked-self.ensures)
