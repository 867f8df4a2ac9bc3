use Rattle.std.proofs.Common.{◌≡◌, ◌∙◌, take, rules, tests}
use Rattle.std.specs.List.{list_any}
use Rattle.std.proofs.lemmas.Iterator.{YieldsList-from_slice}
use Rattle.std.proofs.lemmas.Iterator.Search.{any_from_yields_List}
use Rattle.sizes.proofs.Arrays.{any_is}
use Rattle.sender.specs.SenderCalls.{has_priority}
use Rattle.sender.proofs.sender.Sender.has_priority.Goals as goal

pub returns : goal.returns
returns c =
    let ok = has_priority c.args.priority in
    let l = take c.args.self.now.count c.args.self.now.sessions in
    let e : c.any.result ≡ list_any ok l =
    any_from_yields_List ok _ _ c.any.result c.any.ensures.ran (YieldsList-from_slice l cc) (λ x b q k. search (rules, tests)) in
    e ∙ any_is ok l
