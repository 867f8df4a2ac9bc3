use mathlib.Core.Path.{sym, ◌∙◌}
use Rattle.lifecycle.specs.Announce.{shares_fdt_of}
use Rattle.lifecycle.proofs.announce.Announcer.shares_fdt.Goals as goal

pub returns-then-shares_waiting : goal.returns-then-shares_waiting
unfolding shares_fdt_of
returns-then-shares_waiting c = rw (sym c.shares_waiting.ensures ∙ c.if-shares_waiting.true) c.if-shares_waiting.true

pub returns-then-self : goal.returns-then-self
unfolding shares_fdt_of
returns-then-self c = rw (sym c.shares_waiting.ensures ∙ c.if-shares_waiting.false, c.if-self.true) c.shares.ensures

pub returns-else-self : goal.returns-else-self
unfolding shares_fdt_of
returns-else-self c = rw (sym c.shares_waiting.ensures ∙ c.if-shares_waiting.false, c.if-self.false)
