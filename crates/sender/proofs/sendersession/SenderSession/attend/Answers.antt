use mathlib.Core.Path.{◌≡◌, refl}
use Rattle.sender.specs.SessionCalls.{Turn, attended_of, ran_by}
use Rattle.sender.specs.declared.sendersession.Outcome.{Outcome}
use Rattle.sender.proofs.SessionLaws.{not_over}
use Rattle.sender.proofs.sendersession.SenderSession.attend.Goals as goal

pub returns-in-Over : goal.returns-in-Over
unfolding attended_of
returns-in-Over c =
    rw (← c.is_forced-forced.ensures, ← c.need_transfer_fdt.ensures, ← c.serve-outcome.ensures.answer, c.in-Over.is, c.transfer_done.ensures, c.idle.ensures)

pub returns-in_default : goal.returns-in_default
unfolding attended_of
returns-in_default c =
    let r = c.serve-outcome in
    rw (← c.is_forced-forced.ensures, ← c.need_transfer_fdt.ensures, ← r.ensures.answer, ← r.ensures.left c.in_default.not-Over)
    (not_over (λ (z : Outcome). ◌≡◌ {A = Turn} (ran_by c.args.now c.args.fdt.now c.args.self.now r.new.self z) (record { answer = z; fdt = c.args.fdt.now; session = r.new.self })) r.result c.in_default.not-Over refl (λ y. refl))
