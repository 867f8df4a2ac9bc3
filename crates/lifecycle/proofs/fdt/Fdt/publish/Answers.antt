use mathlib.Core.Path.{sym, ◌∙◌}
use borrow.Author.Tests.{le-leb, lt-leb, eq-eqb, ne_eqb}
use Rattle.std.proofs.lemmas.Result.{err_from_is_err_and}
use Rattle.lifecycle.proofs.PublishLaws.{queued_by, publish_bad, publish_good}
use Rattle.lifecycle.proofs.fdt.Fdt.publish.Goals as goal

pub returns-in_err-test_draft : goal.returns-in_err-test_draft
returns-in_err-test_draft c =
    let r = err_from_is_err_and c.from_residual.result c.from_residual.ensures.1 in
    rw (r.1, r.2) (publish_bad c.args.now c.args.c c.args.self.now _ (sym c.in_err-test_draft.ensures))

pub returns-then-c-eq0 : goal.returns-then-c-eq0
returns-then-c-eq0 c = publish_good c.args.now c.args.c c.args.self.now (sym c.in_ok-test_draft.ensures) ∙ rw (eq-eqb _ _ c.if-c-eq0.true)

pub returns-then-self-ge-WAITING_FDTS : goal.returns-then-self-ge-WAITING_FDTS
returns-then-self-ge-WAITING_FDTS c =
    publish_good c.args.now c.args.c c.args.self.now (sym c.in_ok-test_draft.ensures)
    ∙ rw (ne_eqb _ _ c.if-c-eq0.false, le-leb _ _ c.if-self-ge-WAITING_FDTS.true)

pub returns : goal.returns
returns c =
    publish_good c.args.now c.args.c c.args.self.now (sym c.in_ok-test_draft.ensures)
    ∙ rw (
      ne_eqb _ _ c.if-c-eq0.false,
      lt-leb _ _ c.if-self-ge-WAITING_FDTS.false,
      c.mark_published.ensures,
      c.publish.ensures,
      queued_by c.args.now c.args.c c.args.self.now.announcer c.if-self-ge-WAITING_FDTS.false,
    )
