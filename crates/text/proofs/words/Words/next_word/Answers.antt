-- `text::words::Words::next_word` meets its contract, with a word and without.
use Rattle.text.proofs.Takes.{word_there, word_missing}
use Rattle.text.proofs.words.Words.next_word.Goals as goal

pub returns-in_err-word : goal.returns-in_err-word
returns-in_err-word c = rw c.from_residual.ensures (word_missing _ (rw c.in_err-word.was at c.next_word.ensures))

pub returns : goal.returns
returns c = word_there _ c.in_ok-word.word _ c.part.ensures (rw c.in_ok-word.was at c.next_word.ensures)
