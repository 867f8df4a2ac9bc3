use Rattle.lifecycle.specs.FdtCalls.{Touched}
use Rattle.sender.specs.SenderCalls.{Touching, with_list, prompting_of, Prompts}
use Rattle.sender.proofs.SenderKept.{prompts}
use mathlib.Core.Path.{ap, subst}
use Rattle.sender.proofs.sender.Sender.trigger.Goals as goal

pub returns : goal.returns
unfolding prompting_of
returns c =
    let s = c.args.self.now in
    let g : Touched → Touching = λ r. record { yes = r.yes; sender = with_list s r.fdt } in
    subst (Prompts c.args.toi c.args.start s) (ap g c.trigger_transfer_at.ensures) (prompts s c.requires c.args.toi c.args.start)
