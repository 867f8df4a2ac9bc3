use Rattle.std.proofs.Common.{◌≡◌, ◌∙◌, rules, tests}
use Rattle.std.specs.List.{list_any}
use Rattle.std.proofs.lemmas.Iterator.{YieldsList-from_slice}
use Rattle.std.proofs.lemmas.Iterator.Search.{any_from_yields_List}
use Rattle.lifecycle.specs.Announce.{held_of, waiting_of}
use Rattle.sizes.proofs.Arrays.{any_is}
use Rattle.lifecycle.proofs.announce.Announcer.shares_waiting.Goals as goal

pub returns : goal.returns
returns c =
    let ok = held_of c.args.c in
    let e : c.any.result ≡ list_any ok (waiting_of c.args.self.now) =
    any_from_yields_List ok _ _ c.any.result c.any.ensures.ran (YieldsList-from_slice _ c.iter.ensures.rest) (λ x b q k. search (rules, tests)) in
    e ∙ any_is ok (waiting_of c.args.self.now)
