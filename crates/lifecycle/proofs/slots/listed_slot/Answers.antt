use Rattle.std.proofs.Common.{◌≡◌, ◌∙◌, rules, tests}
use Rattle.std.specs.Prelude.{position}
use Rattle.std.proofs.lemmas.Iterator.{YieldsList-from_slice}
use Rattle.std.proofs.lemmas.Iterator.Search.{position_from_yields_List}
use Rattle.lifecycle.specs.Slots.{is_listed_as}
use Rattle.sizes.proofs.Arrays.{position_is}
use Rattle.lifecycle.proofs.slots.listed_slot.Goals as goal

pub returns : goal.returns
returns c =
    let ok = is_listed_as c.args.toi in
    let e : c.position.result ≡ position ok c.args.slots.now =
    position_from_yields_List ok _ _ c.position.result c.position.ensures.ran (YieldsList-from_slice _ c.iter.ensures.rest) (λ x b q k. search (rules, tests)) in
    e ∙ position_is ok c.args.slots.now
