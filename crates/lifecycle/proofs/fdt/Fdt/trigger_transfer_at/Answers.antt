use mathlib.Core.Path.{sym, ◌∙◌}
use borrow.Author.Rules.{rules}
use Rattle.lifecycle.proofs.FdtLaws.{found_slot, triggered_none, triggered_sent, triggered_some}
use Rattle.lifecycle.specs.Slots.{is_listed_as}
use Rattle.lifecycle.proofs.fdt.Fdt.trigger_transfer_at.Goals as goal

pub returns-in_default : goal.returns-in_default
returns-in_default c = triggered_none c.args.toi c.args.self.now c.args.start (sym c.listed_slot.ensures ∙ c.in_default.is)

pub offset_bounds-self-k : goal.offset_bounds-self-k
offset_bounds-self-k c = let h = (found_slot c.args.self.now c.requires (is_listed_as c.args.toi) _ (sym c.listed_slot.ensures ∙ c.in-Some.is)).0 in search rules

pub bounds-self-k : goal.bounds-self-k
bounds-self-k c = (found_slot c.args.self.now c.requires (is_listed_as c.args.toi) _ (sym c.listed_slot.ensures ∙ c.in-Some.is)).0

pub offset_bounds-self-k-then-not-self-k : goal.offset_bounds-self-k-then-not-self-k
offset_bounds-self-k-then-not-self-k c = let h = (found_slot c.args.self.now c.requires (is_listed_as c.args.toi) _ (sym c.listed_slot.ensures ∙ c.in-Some.is)).0 in search rules

pub bounds-self-k-then-not-self-k : goal.bounds-self-k-then-not-self-k
bounds-self-k-then-not-self-k c = (found_slot c.args.self.now c.requires (is_listed_as c.args.toi) _ (sym c.listed_slot.ensures ∙ c.in-Some.is)).0

pub returns-then-not-self-k : goal.returns-then-not-self-k
returns-then-not-self-k c =
    rw c.reset_last_transfer.ensures (triggered_some c.args.toi c.args.self.now _ (sym c.listed_slot.ensures ∙ c.in-Some.is) c.if-not-self-k.true c.args.start)

pub returns-else-not-self-k : goal.returns-else-not-self-k
returns-else-not-self-k c = triggered_sent c.args.toi c.args.self.now _ (sym c.listed_slot.ensures ∙ c.in-Some.is) c.args.start c.if-not-self-k.false
