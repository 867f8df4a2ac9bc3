use mathlib.Core.Path.{◌≡◌, ◌∙◌}
use Rattle.std.proofs.Common.{rules, tests}
use Rattle.std.specs.Prelude.{position}
use Rattle.std.proofs.lemmas.Iterator.{YieldsList-from_slice}
use Rattle.std.proofs.lemmas.Iterator.Search.{position_from_yields_List}
use lib.Dec.{eqb}
use Rattle.sizes.proofs.Arrays.{position_is}
use Rattle.lifecycle.specs.FdtCalls.{waiting}
use Rattle.lifecycle.proofs.fdt.Fdt.queue_place.Goals as goal

pub returns : goal.returns
returns c =
    let l = waiting c.args.self.now in
    let e : c.position.result ≡ position (λ k. eqb k c.args.slot) l =
    position_from_yields_List (λ k. eqb k c.args.slot) _ _ c.position.result c.position.ensures.ran (YieldsList-from_slice l cc) (λ x b q k. (search (rules, tests), search (rules, tests))) in
    e ∙ position_is _ l
