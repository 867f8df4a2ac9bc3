-- `text::number::next_number` meets its contract: what is found of the word and of its number picks the case of `field_from`.
use mathlib.Core.Path.{sym, ap, ◌∙◌}
use Rattle.std.specs.Prelude.{Err}
use Rattle.std.proofs.lemmas.Result.{err_from_is_err_and}
use Rattle.text.specs.Numbers.{field_from, field_at, field_of}
use Rattle.text.proofs.Numbers.{next_number, word_missing, word_there}
use Rattle.text.proofs.number.next_number.Goals as goal

pub returns-in_err-word : goal.returns-in_err-word
unfolding field_from field_at
returns-in_err-word c =
    let w = word_missing _ _ (sym c.ok_or.ensures.value ∙ c.in_err-word.was) in
    let p = err_from_is_err_and c.from_residual.result c.from_residual.ensures.1 in
    next_number _ _ _ (p.1 ∙ ap Err (p.2 ∙ w.1) ∙ rw (← c.next_word.ensures.exact, w.0))

pub returns-in_err-value : goal.returns-in_err-value
unfolding field_from field_at field_of
returns-in_err-value c =
    let w = word_there _ _ (sym c.ok_or.ensures.value ∙ c.in_ok-word.was) in
    let p = err_from_is_err_and c.from_residual-in_err-value.result c.from_residual-in_err-value.ensures.1 in
    next_number _ _ _ (p.1 ∙ ap Err p.2 ∙ rw (← c.next_word.ensures.exact, w, ← c.part.ensures, ← c.number_of.ensures, c.in_err-value.was))

pub returns : goal.returns
unfolding field_from field_at field_of
returns c =
    let w = word_there _ _ (sym c.ok_or.ensures.value ∙ c.in_ok-word.was) in
    next_number _ _ _ (rw (← c.next_word.ensures.exact, w, ← c.part.ensures, ← c.number_of.ensures, c.in_ok-value.was))
