use mathlib.Core.Path.{◌≡◌, refl, ◌∙◌, subst}
use Rattle.sender.specs.SessionCalls.{Turn, Holds, again_by}
use Rattle.sender.specs.declared.sendersession.Outcome.{Outcome}
use Rattle.sender.proofs.SessionLaws.{not_over, holds_attended, ran_busy, ran_idle}
use Rattle.sender.proofs.sendersession.SenderSession.run.Goals as goal

pub returns-then-not-self : goal.returns-then-not-self
returns-then-not-self c = ran_idle c.args.width c.args.now c.args.fdt.now c.args.self.now c.if-not-self.true ∙ c.take_on.ensures

pub take_on-requires-in-Over : goal.take_on-requires-in-Over
take_on-requires-in-Over c =
    (subst (λ (r : Turn). Holds r.fdt) c.attend-outcome.ensures (holds_attended c.args.now c.args.fdt.now c.args.self.now c.requires.holds), c.requires.narrow)

pub returns-in-Over : goal.returns-in-Over
returns-in-Over c = ran_busy c.args.width c.args.now c.args.fdt.now c.args.self.now c.if-not-self.false _ c.in-Over.ensures ∙ c.take_on-in-Over.ensures

pub returns : goal.returns
returns c =
    let r : Turn = record { answer = c.attend-outcome.result; fdt = c.attend-outcome.new.fdt; session = c.attend-outcome.new.self } in
    ran_busy c.args.width c.args.now c.args.fdt.now c.args.self.now c.if-not-self.false r c.attend-outcome.ensures
    ∙ not_over (λ (z : Outcome). again_by c.args.width c.args.now r z ≡ r) r.answer c.in_default.not-Over refl (λ y. refl)
