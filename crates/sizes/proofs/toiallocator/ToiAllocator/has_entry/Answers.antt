use Rattle.std.proofs.Common.{◌≡◌, eqb, sym, ◌∙◌, rules, tests}
use Rattle.std.specs.List.{list_any}
use Rattle.std.proofs.lemmas.Iterator.{YieldsList-from_slice}
use Rattle.std.proofs.lemmas.Iterator.Search.{any_from_yields_List}
use Rattle.sizes.specs.Allocator.{noted}
use Rattle.sizes.specs.declared.toiallocator.Entry.{Entry}
use Rattle.sizes.proofs.Lists.{any_map}
use Rattle.sizes.proofs.Arrays.{any_is}
use Rattle.sizes.proofs.toiallocator.ToiAllocator.has_entry.Goals as goal

pub returns : goal.returns
returns c =
    let l = noted c.args.self.now in
    let e : c.any.result ≡ list_any (λ (e : Entry). eqb e.toi c.args.toi) l =
    any_from_yields_List (λ (e : Entry). eqb e.toi c.args.toi) _ _ c.any.result c.any.ensures.ran (YieldsList-from_slice l cc) (λ x b q k. search (rules, tests)) in
    e ∙ any_is _ l ∙ sym (any_map (λ m. eqb m c.args.toi) (λ (e : Entry). e.toi) l)
