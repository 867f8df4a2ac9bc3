use mathlib.Core.Path.{◌≡◌, refl}
use Rattle.sender.specs.FdtSessionCalls.{FdtTurn, fdt_again_by, fdt_ran_of}
use Rattle.sender.specs.declared.sendersession.Outcome.{Outcome}
use Rattle.sender.proofs.SessionLaws.{not_over}
use Rattle.sender.proofs.FdtSessionLaws.{attempted_tries}
use Rattle.sender.proofs.fdtsession.FdtSession.run.Goals as goal

pub attempt-requires : goal.attempt-requires
attempt-requires c = attempted_tries c.args.width c.args.now c.args.draft _ c.args.fdt.now c.args.self.now c.requires _ c.attempt-first.ensures

pub returns-in-Over : goal.returns-in-Over
unfolding fdt_ran_of
returns-in-Over c = rw (c.attempt-first.ensures, c.in-Over.is) c.attempt.ensures

pub returns : goal.returns
unfolding fdt_ran_of
returns c =
    let r : FdtTurn = record { taken = c.attempt-first.result.taken; answer = c.attempt-first.result.answer; fdt = c.attempt-first.new.fdt; session = c.attempt-first.new.self } in
    rw c.attempt-first.ensures (not_over (λ (z : Outcome). fdt_again_by c.args.width c.args.now c.args.draft r z ≡ r) r.answer c.in_default.not-Over refl (λ y. refl))
