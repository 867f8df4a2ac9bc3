use Rattle.lifecycle.specs.FdtCalls.{Released}
use Rattle.sender.specs.SenderCalls.{Releasing, with_list, releasing_of, Releases}
use Rattle.sender.proofs.SenderKept.{releases}
use mathlib.Core.Path.{ap, subst}
use Rattle.sender.proofs.sender.Sender.release.Goals as goal

pub returns : goal.returns
unfolding releasing_of
returns c =
    let s = c.args.self.now in
    let g : Released → Releasing = λ r. record { answer = r.answer; sender = with_list s r.fdt } in
    subst (Releases c.args.toi s) (ap g c.release_toi.ensures) (releases s c.requires c.args.toi)
