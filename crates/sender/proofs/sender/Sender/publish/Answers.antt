use Rattle.lifecycle.specs.FdtCalls.{Published}
use Rattle.sender.specs.SenderCalls.{Publishing, with_list, publishing_of, Publishes}
use Rattle.sender.proofs.SenderKept.{publishes}
use mathlib.Core.Path.{ap, subst}
use Rattle.sender.proofs.sender.Sender.publish.Goals as goal

pub returns : goal.returns
unfolding publishing_of
returns c =
    let s = c.args.self.now in
    let g : Published → Publishing = λ r. record { answer = r.answer; sender = with_list s r.fdt } in
    subst (Publishes c.args.now c.args.part s) (ap g c.publish.ensures) (publishes s c.requires c.args.now c.args.part)
