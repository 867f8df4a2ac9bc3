use Rattle.sender.specs.SessionCalls.{begun_of}
use Rattle.sender.proofs.sendersession.SenderSession.begin.Goals as goal

pub returns : goal.returns
unfolding begun_of
returns c = rw (c.new.ensures, c.is_last_transfer.ensures, c.pace_from.ensures)
