use Rattle.lifecycle.specs.FdtCalls.{Added, added_of}
use Rattle.lifecycle.specs.declared.fdt.Request.{Request}
use Rattle.sender.specs.SenderCalls.{Adding, with_list, Adds}
use Rattle.sender.proofs.SenderKept.{adds, add_refused, add_goes}
use mathlib.Core.Path.{sym, ◌∙◌, ap, subst}
use Rattle.sender.proofs.sender.Sender.add.Goals as goal

pub returns-then-not-has_priority : goal.returns-then-not-has_priority
returns-then-not-has_priority c =
    let s = c.args.self.now in
    subst (Adds c.args.o c.args.named s) (add_refused c.args.o c.args.named s (sym c.has_priority.ensures ∙ c.if-not-has_priority.true)) (adds s c.requires c.args.o c.args.named)

pub returns : goal.returns
returns c =
    let s = c.args.self.now in
    let e = ap (λ (q : Request). added_of s.fdt q c.args.named) (sym c.from.ensures) ∙ c.add_object.ensures in
    let g : Added → Adding = λ y. record { answer = y.answer; sender = with_list s y.fdt } in
    subst (Adds c.args.o c.args.named s)
    (add_goes c.args.o c.args.named s (sym c.has_priority.ensures ∙ c.if-not-has_priority.false) ∙ ap g e)
    (adds s c.requires c.args.o c.args.named)
