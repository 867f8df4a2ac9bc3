use Rattle.std.proofs.Common.{◌≡◌, ◌∙◌, rules, tests}
use Rattle.std.specs.List.{list_any}
use Rattle.std.proofs.lemmas.Iterator.{YieldsList-from_slice}
use Rattle.std.proofs.lemmas.Iterator.Search.{any_from_yields_List}
use Rattle.lifecycle.specs.Slots.{holds_byte}
use Rattle.sizes.proofs.Arrays.{any_is}
use Rattle.lifecycle.proofs.slots.any_shares.Goals as goal

pub returns : goal.returns
returns c =
    let ok = holds_byte c.args.c in
    let e : c.any.result ≡ list_any ok c.args.slots.now =
    any_from_yields_List ok _ _ c.any.result c.any.ensures.ran (YieldsList-from_slice _ c.iter.ensures.rest) (λ x b q k. search (rules, tests)) in
    e ∙ any_is ok c.args.slots.now
