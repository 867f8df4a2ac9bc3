-- `wire::record::read` meets its contract: what the four words hold is what the bytes hold.
use mathlib.Core.Path.{sym, ◌∙◌}
use native.Mathlib.Omega.{arith}
use Rattle.std.proofs.lemmas.Result.{err_from_is_err_and}
use Rattle.sizes.proofs.Tests.{ok_told, err_told}
use Rattle.wire.proofs.RecordLaws.{read_unlike, read_padded, read_bad, read_good, words_padding, words_record}
use Rattle.wire.proofs.record.read.Goals as goal

pub returns-in_err-a : goal.returns-in_err-a
returns-in_err-a c =
    let w = err_told _ _ _ c.in_err-a.ensures.value in
    let r = err_from_is_err_and c.from_residual.result c.from_residual.ensures.1 in
    let n = rw w.0 at c.words_in.ensures.cases in
    rw (r.1, r.2, w.1) (read_unlike _ n)

pub returns-then-d-ne0 : goal.returns-then-d-ne0
returns-then-d-ne0 c =
    let w = rw (ok_told _ _ _ c.in_ok-a.ensures.value) at c.words_in.ensures.cases in
    read_padded _ w.size (λ z. c.if-d-ne0.true (sym (words_padding _ _ _ _ _ w) ∙ z))

pub returns-then-not-is_good : goal.returns-then-not-is_good
returns-then-not-is_good c =
    let w = rw (ok_told _ _ _ c.in_ok-a.ensures.value) at c.words_in.ensures.cases in
    let padded = words_padding _ _ _ _ _ w ∙ c.if-d-ne0.false in
    let fields = words_record _ _ _ _ _ w (omega arith) (omega arith) (omega arith) (omega arith) c.if-d-ne0.false ∙ sym c.record_in-r.ensures in
    read_bad _ _ w.size padded fields (sym c.is_good.ensures ∙ c.if-not-is_good.true)

pub returns : goal.returns
returns c =
    let w = rw (ok_told _ _ _ c.in_ok-a.ensures.value) at c.words_in.ensures.cases in
    let padded = words_padding _ _ _ _ _ w ∙ c.if-d-ne0.false in
    let fields = words_record _ _ _ _ _ w (omega arith) (omega arith) (omega arith) (omega arith) c.if-d-ne0.false ∙ sym c.record_in-r.ensures in
    read_good _ _ w.size padded fields (sym c.is_good.ensures ∙ c.if-not-is_good.false)
