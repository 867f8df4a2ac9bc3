use Rattle.sender.specs.SetupCalls.{opening_sender}
use Rattle.sender.proofs.setup.open.Goals as goal

pub returns : goal.returns
unfolding opening_sender
returns c =
    rw (c.idle-5.ensures, c.idle-4.ensures, c.priority-4.ensures, c.idle-3.ensures, c.priority-3.ensures, c.idle-2.ensures, c.priority-2.ensures, c.idle.ensures, c.priority.ensures, c.new.ensures, c.from.ensures, c.new-tois.ensures.exact, c.requires.0)
