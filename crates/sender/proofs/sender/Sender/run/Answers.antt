use Rattle.sender.specs.SessionCalls.{Runs}
use Rattle.sender.specs.SenderCalls.{RunsFile}
use Rattle.sender.proofs.DeskRuns.{runs_ready}
use Rattle.sender.proofs.SenderKept.{runs, run_refused, read_session, slot_inside, slot_fits, ran_file}
use mathlib.Core.Path.{sym, subst}
use Rattle.sender.proofs.sender.Sender.run.Goals as goal

pub returns-then-self-i : goal.returns-then-self-i
returns-then-self-i c =
    let s = c.args.self.now in
    subst (RunsFile c.args.i c.args.now s) (run_refused c.args.i c.args.now s c.if-self-i.true) (runs s c.requires c.args.i c.args.now)

pub run-outcome-requires : goal.run-outcome-requires
run-outcome-requires c =
    let s = c.args.self.now in
    subst (Runs s.fdt s.window) (sym (read_session s c.requires c.args.i _ c.if-self-i.false)) (runs_ready s c.args.i c.requires c.if-self-i.false)

pub bounds-self-self : goal.bounds-self-self
bounds-self-self c = slot_inside _ c.requires _ _ c.if-self-i.false _ _ _ _ c.run-outcome.ensures

pub offset_bounds-self-self : goal.offset_bounds-self-self
offset_bounds-self-self c = slot_fits _ (slot_inside _ c.requires _ _ c.if-self-i.false _ _ _ _ c.run-outcome.ensures)

pub returns : goal.returns
returns c = ran_file _ c.requires _ _ c.if-self-i.false _ _ _ _ c.run-outcome.ensures _ c.run_answer.ensures
