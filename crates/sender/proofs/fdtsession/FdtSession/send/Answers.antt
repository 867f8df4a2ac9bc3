use Rattle.sender.specs.FdtSessionCalls.{fdt_sent_of}
use Rattle.sender.proofs.fdtsession.FdtSession.send.Goals as goal

pub returns-then-not-self : goal.returns-then-not-self
unfolding fdt_sent_of
returns-then-not-self c = λ taken. rw c.if-not-self.true

pub returns-in-Some : goal.returns-in-Some
unfolding fdt_sent_of
returns-in-Some c = λ taken. rw (c.if-not-self.false, ← c.in-Some.ensures.exact)

pub returns : goal.returns
unfolding fdt_sent_of
returns c = λ taken. rw (c.if-not-self.false, ← c.read.ensures.exact, c.in_default.is, c.fdt_transfer_done.ensures, c.idle.ensures)
