use Rattle.sender.specs.FdtSessionCalls.{fdt_begun_of}
use Rattle.sender.proofs.fdtsession.FdtSession.begin.Goals as goal

pub returns : goal.returns
unfolding fdt_begun_of
returns c = rw c.new.ensures
