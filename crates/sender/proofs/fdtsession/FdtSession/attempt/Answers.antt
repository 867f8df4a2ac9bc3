use mathlib.Core.Bool.{◌||◌}
use mathlib.Core.Path.{◌≡◌, ◌∙◌}
use Rattle.lifecycle.specs.FdtCalls.{NextFdt}
use Rattle.sender.proofs.FdtSessionLaws.{next_session, attempted_busy, attempted_next, next_tries}
use Rattle.sender.proofs.fdtsession.FdtSession.attempt.Goals as goal
use Rattle.sender.proofs.fdtsession.FdtSession.attempt.Goals.{then-next, else-next}

pub returns-then-self : goal.returns-then-self
returns-then-self c = attempted_busy c.args.width c.args.now c.args.draft c.args.taken c.args.fdt.now c.args.self.now c.if-self.true ∙ c.send-answer.ensures c.args.taken

pub send-answer-requires-2 : goal.send-answer-requires-2
send-answer-requires-2 c =
    let n : NextFdt = record { taken = c.get_next_fdt_transfer-next.result.taken; starts = c.get_next_fdt_transfer-next.result.starts; fdt = c.get_next_fdt_transfer-next.new.self } in
    let y : c.if-next.self ≡ next_session c.args.width c.args.now c.args.draft c.args.taken c.args.fdt.now c.args.self.now n =
    elim c.if-next.branch [ then-next w ↦ w.self-is ∙ rw w.if-next.true w.begin.ensures | else-next w ↦ w.self-is ∙ rw w.if-next.false ] in
    let t = next_tries c.args.width c.args.now c.args.draft c.args.taken c.args.fdt.now c.args.self.now c.requires n (rw c.left_draft.ensures at c.get_next_fdt_transfer-next.ensures) c.if-next.self y in
    record { valid = t.holds.valid; busy = t.busy }

pub returns-then-taken : goal.returns-then-taken
returns-then-taken c =
    let n : NextFdt = record { taken = c.get_next_fdt_transfer-next.result.taken; starts = c.get_next_fdt_transfer-next.result.starts; fdt = c.get_next_fdt_transfer-next.new.self } in
    let y : c.if-next.self ≡ next_session c.args.width c.args.now c.args.draft c.args.taken c.args.fdt.now c.args.self.now n =
    elim c.if-next.branch [ then-next w ↦ w.self-is ∙ rw w.if-next.true w.begin.ensures | else-next w ↦ w.self-is ∙ rw w.if-next.false ] in
    attempted_next c.args.width c.args.now c.args.draft c.args.taken c.args.fdt.now c.args.self.now c.if-self.false n (rw c.left_draft.ensures at c.get_next_fdt_transfer-next.ensures) c.if-next.self y
    ∙ c.send-answer-2.ensures (c.args.taken || n.taken) ∙ rw c.if-taken.true

pub returns-else-taken : goal.returns-else-taken
returns-else-taken c =
    let n : NextFdt = record { taken = c.get_next_fdt_transfer-next.result.taken; starts = c.get_next_fdt_transfer-next.result.starts; fdt = c.get_next_fdt_transfer-next.new.self } in
    let y : c.if-next.self ≡ next_session c.args.width c.args.now c.args.draft c.args.taken c.args.fdt.now c.args.self.now n =
    elim c.if-next.branch [ then-next w ↦ w.self-is ∙ rw w.if-next.true w.begin.ensures | else-next w ↦ w.self-is ∙ rw w.if-next.false ] in
    attempted_next c.args.width c.args.now c.args.draft c.args.taken c.args.fdt.now c.args.self.now c.if-self.false n (rw c.left_draft.ensures at c.get_next_fdt_transfer-next.ensures) c.if-next.self y
    ∙ c.send-answer-2.ensures (c.args.taken || n.taken) ∙ rw c.if-taken.false
