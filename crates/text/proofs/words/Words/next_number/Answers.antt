-- `text::words::Words::next_number` meets its contract, with a number and without.
use Rattle.std.proofs.lemmas.Result.{err_from_is_err_and}
use Rattle.text.proofs.Takes.{number_there, number_missing}
use Rattle.text.proofs.words.Words.next_number.Goals as goal

pub returns-in_err-field : goal.returns-in_err-field
returns-in_err-field c =
    let p = err_from_is_err_and c.from_residual.result c.from_residual.ensures.1 in
    rw (p.1, p.2) (number_missing _ _ (rw c.in_err-field.was at c.next_number.ensures))

pub returns : goal.returns
returns c = number_there _ c.in_ok-field.field (rw c.in_ok-field.was at c.next_number.ensures)
