use Rattle.sender.specs.SenderCalls.{with_list, Completes}
use Rattle.sender.proofs.SenderKept.{completes}
use mathlib.Core.Path.{sym, ap, subst}
use Rattle.sender.proofs.sender.Sender.complete.Goals as goal

pub returns : goal.returns
returns c = let s = c.args.self.now in subst (Completes s) (sym (ap (with_list s) c.set_complete.ensures)) (completes s c.requires)
