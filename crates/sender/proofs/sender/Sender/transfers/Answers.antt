use Rattle.sender.specs.SenderCalls.{CountsTransfers}
use Rattle.sender.proofs.SenderKept.{totals}
use mathlib.Core.Path.{sym, subst}
use Rattle.sender.proofs.sender.Sender.transfers.Goals as goal

pub returns : goal.returns
returns c = let s = c.args.self.now in subst (CountsTransfers c.args.toi s) (sym c.nb_transfers.ensures) (totals s c.requires c.args.toi)
