-- `wire::record::words_in` meets its contract: each piece begins where the one before ended.
use mathlib.Core.Path.{◌∙◌, ap}
use lib.ListN.{length}
use Rattle.wire.proofs.WordLaws.{pieces_words}
use Rattle.wire.proofs.record.words_in.Goals as goal

pub returns : goal.returns
returns c =
    let a = c.in_ok-a.ensures.cases in
    let b = c.in_ok-b.ensures.cases in
    let t = c.in_ok-c.ensures.cases in
    let d = c.in_ok-d.ensures.cases in
    let w = pieces_words _ _ _ _ _ _ _ a.0 a.1 b.0 b.1 t.0 (d.same ∙ t.1) (ap length d.same ∙ d.long) in
    record { cases = rw (c.from_be_bytes.ensures, c.from_be_bytes-2.ensures, c.from_be_bytes-3.ensures, c.from_be_bytes-4.ensures) w }
