use Rattle.lifecycle.specs.FdtCalls.{Reserved}
use Rattle.sender.specs.SenderCalls.{Reserving, with_list, reserving_of, Reserves}
use Rattle.sender.proofs.SenderKept.{reserves}
use mathlib.Core.Path.{ap, subst}
use Rattle.sender.proofs.sender.Sender.reserve.Goals as goal

pub returns : goal.returns
unfolding reserving_of
returns c =
    let s = c.args.self.now in
    let g : Reserved → Reserving = λ r. record { answer = r.answer; sender = with_list s r.fdt } in
    subst (Reserves s) (ap g c.allocate_toi.ensures) (reserves s c.requires)
