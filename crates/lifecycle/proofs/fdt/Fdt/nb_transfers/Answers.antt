use mathlib.Core.Path.{sym, ◌∙◌}
use borrow.Author.Rules.{rules}
use Rattle.lifecycle.proofs.FdtLaws.{found_slot, transfers_none, transfers_some}
use Rattle.lifecycle.specs.Slots.{is_listed_as}
use Rattle.lifecycle.proofs.fdt.Fdt.nb_transfers.Goals as goal

pub returns-in_err-k : goal.returns-in_err-k
returns-in_err-k c = c.from_residual.ensures ∙ sym (transfers_none c.args.toi c.args.self.now (sym c.listed_slot.ensures ∙ c.in_err-k.was))

pub offset_bounds-self-k : goal.offset_bounds-self-k
offset_bounds-self-k c = let h = (found_slot c.args.self.now c.requires (is_listed_as c.args.toi) _ (sym c.listed_slot.ensures ∙ c.in_ok-k.was)).0 in search rules

pub bounds-self-k : goal.bounds-self-k
bounds-self-k c = (found_slot c.args.self.now c.requires (is_listed_as c.args.toi) _ (sym c.listed_slot.ensures ∙ c.in_ok-k.was)).0

pub returns : goal.returns
returns c = sym (transfers_some c.args.toi c.args.self.now _ (sym c.listed_slot.ensures ∙ c.in_ok-k.was))
