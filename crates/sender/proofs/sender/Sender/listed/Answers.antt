use Rattle.sender.specs.SenderCalls.{Lists}
use Rattle.sender.proofs.SenderKept.{lists}
use mathlib.Core.Path.{sym, subst}
use Rattle.sender.proofs.sender.Sender.listed.Goals as goal

pub returns : goal.returns
returns c = let s = c.args.self.now in subst (Lists c.args.toi s) (sym c.is_added.ensures) (lists s c.requires c.args.toi)
