use Rattle.sender.specs.SenderCalls.{request_of}
use Rattle.sender.proofs.sender.RequestFromObject.from.Goals as goal

pub returns : goal.returns
unfolding request_of
returns c = rw c.new.ensures
