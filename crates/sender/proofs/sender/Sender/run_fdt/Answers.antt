use Rattle.std.specs.Prelude.{Option}
use Rattle.lifecycle.specs.FdtCalls.{draft_said, draft_test_of}
use Rattle.lifecycle.specs.declared.parts.Part.{Part}
use Rattle.sender.specs.FdtSessionCalls.{FdtTries, fdt_ran_of}
use Rattle.sender.specs.SenderCalls.{RunAnswer, Running, RunsFdt}
use Rattle.sender.proofs.DeskFdtRuns.{tries_ready}
use Rattle.sender.proofs.SenderKept.{fdt_runs, fdt_refused, fdt_goes, fdt_ran_sender}
use mathlib.Core.Path.{sym, ◌∙◌, ap, subst}
use Rattle.sender.proofs.sender.Sender.run_fdt.Goals as goal

pub returns-in-Err : goal.returns-in-Err
returns-in-Err c =
    let s = c.args.self.now in
    let d = ap (λ (d : Option Part). draft_test_of d s.fdt) (sym c.real_draft-draft.ensures) ∙ sym c.test_draft.ensures ∙ ap draft_said c.in-Err.is in
    subst (RunsFdt c.args.now c.args.draft s) (fdt_refused c.args.now c.args.draft s c.in-Err.why d) (fdt_runs s c.requires c.args.now c.args.draft)

pub run-r-requires : goal.run-r-requires
run-r-requires c =
    let s = c.args.self.now in
    let d = ap (λ (d : Option Part). draft_test_of d s.fdt) (sym c.real_draft-draft.ensures) ∙ sym c.test_draft.ensures ∙ ap draft_said c.in_default.is in
    subst (λ (d : Option Part). FdtTries s.fdt s.window d s.fdt_session) (sym c.real_draft-draft.ensures) (tries_ready s c.args.draft c.requires d)

pub returns : goal.returns
returns c =
    let s = c.args.self.now in
    let d = ap (λ (d : Option Part). draft_test_of d s.fdt) (sym c.real_draft-draft.ensures) ∙ sym c.test_draft.ensures ∙ ap draft_said c.in_default.is in
    let r = ap (λ (d : Option Part). fdt_ran_of s.window c.args.now d s.fdt s.fdt_session) (sym c.real_draft-draft.ensures) ∙ c.run-r.ensures in
    let g : RunAnswer → Running = λ y. record {
      taken = c.run-r.result.taken;
      answer = y;
      sender = record { fdt = c.run-r.new.fdt; window = s.window; count = s.count; sessions = s.sessions; fdt_session = c.run-r.new.self };
    } in
    subst (RunsFdt c.args.now c.args.draft s)
    (fdt_goes c.args.now c.args.draft s d ∙ ap (fdt_ran_sender s) r ∙ ap g (sym c.run_answer.ensures))
    (fdt_runs s c.requires c.args.now c.args.draft)
