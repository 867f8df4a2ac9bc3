use mathlib.Core.Path.{sym, ◌∙◌}
use Rattle.lifecycle.specs.FdtCalls.{bad_part_of}
use Rattle.lifecycle.proofs.fdt.Fdt.is_bad_part.Goals as goal

pub returns-then-ends_past : goal.returns-then-ends_past
unfolding bad_part_of
returns-then-ends_past c = rw (c.if-ends_past.true, sym c.ends_past.ensures ∙ c.if-ends_past.true)

pub returns-else-ends_past : goal.returns-else-ends_past
unfolding bad_part_of
returns-else-ends_past c = rw (c.any_shares.ensures, sym c.ends_past.ensures ∙ c.if-ends_past.false)
