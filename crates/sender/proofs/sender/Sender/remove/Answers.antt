use Rattle.lifecycle.specs.FdtCalls.{Touched}
use Rattle.sender.specs.SenderCalls.{Touching, with_list, removing_of, Removes}
use Rattle.sender.proofs.SenderKept.{removes}
use mathlib.Core.Path.{ap, subst}
use Rattle.sender.proofs.sender.Sender.remove.Goals as goal

pub returns : goal.returns
unfolding removing_of
returns c =
    let s = c.args.self.now in
    let g : Touched → Touching = λ r. record { yes = r.yes; sender = with_list s r.fdt } in
    subst (Removes c.args.toi s) (ap g c.remove_object.ensures) (removes s c.requires c.args.toi)
