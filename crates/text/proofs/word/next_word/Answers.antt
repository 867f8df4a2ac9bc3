-- `text::word::next_word` meets its contract.
use mathlib.Core.Path.{sym}
use Rattle.text.specs.Bytes.{member}
use Rattle.text.proofs.WordLaws.{word_none, word_some, next_word}
use Rattle.text.proofs.word.next_word.Goals as goal

pub returns-then-s-start : goal.returns-then-s-start
unfolding member
returns-then-s-start c =
    let e = word_none c.args.s.now c.args.from (rw (← c.pass-start.ensures) c.if-s-start.true) in
    next_word _ _ _ (sym e)

pub returns : goal.returns
unfolding member
returns c =
    let p = c.pass-start.ensures in
    let e = word_some c.args.s.now c.args.from (rw (← p) c.if-s-start.false) in
    let f = rw (← p, ← c.pass-end.ensures) at e in
    next_word _ _ _ (sym f)
