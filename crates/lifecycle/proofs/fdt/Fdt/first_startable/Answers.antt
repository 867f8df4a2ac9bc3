use mathlib.Core.Path.{◌≡◌, ◌∙◌}
use Rattle.std.proofs.Common.{rules, tests}
use Rattle.std.specs.Prelude.{position}
use Rattle.std.proofs.lemmas.Iterator.{YieldsList-from_slice}
use Rattle.std.proofs.lemmas.Iterator.Search.{position_from_yields_List}
use Rattle.sizes.proofs.Arrays.{position_is}
use Rattle.lifecycle.specs.FdtCalls.{waiting}
use Rattle.lifecycle.specs.Slots.{queue_startable}
use Rattle.lifecycle.proofs.fdt.Fdt.first_startable.Goals as goal

pub returns : goal.returns
returns c =
    let l = waiting c.args.self.now in
    let may = queue_startable c.args.self.now.slots c.args.priority c.args.at in
    let e : c.position.result ≡ position may l =
    position_from_yields_List may _ _ c.position.result c.position.ensures.ran (YieldsList-from_slice l cc) (λ x b q k. (search (rules, tests), search (rules, tests))) in
    e ∙ position_is _ l
