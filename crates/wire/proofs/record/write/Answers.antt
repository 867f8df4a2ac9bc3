-- `wire::record::write` meets its contract: refused before a byte is touched, or the four words of the record are put.
use mathlib.Core.Path.{sym, ◌∙◌}
use Rattle.wire.proofs.RecordLaws.{write_short, write_bad, write_words}
use Rattle.wire.proofs.record.write.Goals as goal
use Rattle.wire.proofs.record.write.Goals.{then-out-lt-RECORD_SIZE-via-then-out-lt-RECORD_SIZE, then-out-lt-RECORD_SIZE-via-else-out-lt-RECORD_SIZE+then-not-is_good}

pub returns-then-out-lt-RECORD_SIZE : goal.returns-then-out-lt-RECORD_SIZE
returns-then-out-lt-RECORD_SIZE c =
    elim c.then-out-lt-RECORD_SIZE.branch [
      | then-out-lt-RECORD_SIZE-via-then-out-lt-RECORD_SIZE w ↦ write_short _ _ w.if-out-lt-RECORD_SIZE.true
      | then-out-lt-RECORD_SIZE-via-else-out-lt-RECORD_SIZE+then-not-is_good w ↦ write_bad _ _ w.if-out-lt-RECORD_SIZE.false (sym w.is_good.ensures ∙ w.if-not-is_good.true)
    ]

pub returns : goal.returns
returns c =
    write_words _ _ _ _ _ _ _ c.if-out-lt-RECORD_SIZE.false (sym c.is_good.ensures ∙ c.if-not-is_good.false) c.put_words.ensures c.first.ensures
    c.second.ensures c.third.ensures c.last.ensures
