-- `text::line::refill` meets its contract, with bytes kept and without.
use borrow.Author.Rules.{rules}
use Rattle.text.proofs.Lists.{part_turned, part_past}
use Rattle.text.proofs.LineLaws.{refilled_none, refilled_moved}
use Rattle.text.proofs.line.refill.Goals as goal

pub returns-then-to-from : goal.returns-then-to-from
returns-then-to-from g c = refilled_none _ _ _ _ _ (part_turned _ _ _ (search rules)) c.read_at.ensures

pub returns-then-buf-to : goal.returns-then-buf-to
returns-then-buf-to g c = refilled_none _ _ _ _ _ (part_past _ _ _ (search rules)) c.read_at-then-buf-to.ensures

pub returns : goal.returns
returns g c =
    let m = c.move_to_front.ensures in
    refilled_moved _ _ _ _ _ _ (search rules) (search rules) m.0 m.1 c.read_at-2.ensures
