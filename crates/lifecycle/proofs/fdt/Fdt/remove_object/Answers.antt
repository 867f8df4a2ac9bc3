use mathlib.Core.Path.{sym, ◌∙◌}
use borrow.Author.Rules.{rules}
use Rattle.lifecycle.proofs.FdtLaws.{sends_held, found_slot, queue_found, removed_none, removed_sent, removed_stays, removed_freed}
use Rattle.lifecycle.specs.Slots.{is_listed_as}
use lib.Dec.{eqb}
use Rattle.lifecycle.proofs.fdt.Fdt.remove_object.Goals as goal

pub returns-in_default : goal.returns-in_default
returns-in_default c = removed_none c.args.toi c.args.self.now (sym c.listed_slot.ensures ∙ c.in_default.is)

pub offset_bounds-self-k : goal.offset_bounds-self-k
offset_bounds-self-k c = let h = (found_slot c.args.self.now c.requires (is_listed_as c.args.toi) _ (sym c.listed_slot.ensures ∙ c.in-Some.is)).0 in search rules

pub bounds-self-k : goal.bounds-self-k
bounds-self-k c = (found_slot c.args.self.now c.requires (is_listed_as c.args.toi) _ (sym c.listed_slot.ensures ∙ c.in-Some.is)).0

pub unlist-requires : goal.unlist-requires
unlist-requires c =
    let h = (found_slot c.args.self.now c.requires (is_listed_as c.args.toi) _ (sym c.listed_slot.ensures ∙ c.in-Some.is)).0 in
    (c.requires, h, sends_held c.args.self.now c.requires _ c.if-self-k.true)

pub free-requires : goal.free-requires
free-requires c =
    let h = (found_slot c.args.self.now c.requires (is_listed_as c.args.toi) _ (sym c.listed_slot.ensures ∙ c.in-Some.is)).0 in
    let q = (queue_found c.args.self.now c.requires (λ j. eqb j c.in-Some.k) _ (sym c.queue_place.ensures ∙ c.in-Some-queue_place.is)).0 in
    (c.requires, h, q)

pub returns-then-self-k : goal.returns-then-self-k
returns-then-self-k c = rw c.unlist.ensures (removed_sent c.args.toi c.args.self.now _ (sym c.listed_slot.ensures ∙ c.in-Some.is) c.if-self-k.true)

pub returns-in-Some-queue_place : goal.returns-in-Some-queue_place
returns-in-Some-queue_place c =
    rw c.free.ensures
    (removed_freed c.args.toi c.args.self.now _ (sym c.listed_slot.ensures ∙ c.in-Some.is) c.if-self-k.false _ (sym c.queue_place.ensures ∙ c.in-Some-queue_place.is))

pub returns-in_default-queue_place : goal.returns-in_default-queue_place
returns-in_default-queue_place c =
    removed_stays c.args.toi c.args.self.now _ (sym c.listed_slot.ensures ∙ c.in-Some.is) c.if-self-k.false (sym c.queue_place.ensures ∙ c.in_default-queue_place.is)
