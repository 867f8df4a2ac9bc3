use mathlib.Core.Path.{◌≡◌, refl, ◌∙◌}
use Rattle.std.specs.Prelude.{Option, None, Some}
use Rattle.std.specs.Option.{unwrap_or}
use Rattle.sizes.specs.declared.partition.Sizes.{Sizes}
use Rattle.lifecycle.specs.FdtCalls.{own_of}
use Rattle.lifecycle.proofs.fdt.own_sizes.Goals as goal

same : (o : Option Sizes) (z : Sizes) → unwrap_or o z ≡ own_of o z
unfolding own_of
same None z = refl
same (Some y) z = refl

pub returns : goal.returns
returns c = c.unwrap_or.ensures ∙ same c.args.own c.args.z
