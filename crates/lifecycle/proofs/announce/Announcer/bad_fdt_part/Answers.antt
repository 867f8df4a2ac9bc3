use mathlib.Core.Path.{sym, ◌∙◌}
use Rattle.lifecycle.specs.Announce.{bad_fdt_of}
use Rattle.lifecycle.proofs.announce.Announcer.bad_fdt_part.Goals as goal

pub returns-then-ends_past : goal.returns-then-ends_past
unfolding bad_fdt_of
returns-then-ends_past c = rw (sym c.ends_past.ensures ∙ c.if-ends_past.true) c.if-ends_past.true

pub returns-else-ends_past : goal.returns-else-ends_past
unfolding bad_fdt_of
returns-else-ends_past c = rw (c.shares_fdt.ensures, sym c.ends_past.ensures ∙ c.if-ends_past.false)
