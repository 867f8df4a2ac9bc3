-- `text::bytes::part` meets its contract: the two tests say which case of `part` holds.
use mathlib.Core.Path.{sym}
use Rattle.text.proofs.Lists.{part_in, part_turned, part_past}
use Rattle.text.proofs.bytes.part.Goals as goal
use Rattle.text.proofs.bytes.part.Goals.{else-start-end-via-then-start-end+else-end-s, else-start-end-via-else-start-end}

pub returns-then-end-s : goal.returns-then-end-s
returns-then-end-s c = sym (part_in _ _ _ c.if-start-end.true c.if-end-s.true)

pub returns-else-start-end : goal.returns-else-start-end
returns-else-start-end c = elim c.else-start-end.branch [
  | else-start-end-via-then-start-end+else-end-s w ↦ sym (part_past _ _ _ w.if-end-s.false)
  | else-start-end-via-else-start-end w ↦ sym (part_turned _ _ _ w.if-start-end.false)
]
