use mathlib.Core.Path.{sym, ◌∙◌, ap}
use Rattle.std.specs.Prelude.{Ok}
use Rattle.sender.proofs.PayloadLaws.{of_fdt, of_object, left_out}
use Rattle.sender.proofs.payload.payload.Goals as goal
use Rattle.sender.proofs.payload.payload.Goals.{then-p, else-p}

pub returns-then-ends_past : goal.returns-then-ends_past
returns-then-ends_past c =
    left_out _ c.args.answer c.in-Ok-Some.p c.if-p.store.now (c.in-Ok-Some.is ∙ ap Ok (rw c.in-Ok-Some.is at c.in-Ok-Some.field-0-is))
    (elim c.if-p.branch [ then-p w ↦ ap (λ s. s.now) w.store-is ∙ of_fdt _ _ w.if-p.true | else-p w ↦ ap (λ s. s.now) w.store-is ∙ of_object _ _ w.if-p.false ])
    (sym c.ends_past.ensures ∙ c.if-ends_past.true)
