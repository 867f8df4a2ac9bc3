use mathlib.Core.Path.{◌≡◌, refl, ◌∙◌, ap}
use Rattle.std.specs.Prelude.{Option, None, Some}
use Rattle.std.specs.Option.{is_some}
use Rattle.sizes.specs.Words.{given}
use Rattle.lifecycle.specs.FdtCalls.{is_added_of}
use Rattle.lifecycle.proofs.fdt.Fdt.is_added.Goals as goal

same : {A : Type 0} (o : Option A) → is_some o ≡ given o
same None = refl
same (Some a) = refl

pub returns : goal.returns
unfolding is_added_of
returns c = c.is_some.ensures ∙ same c.listed_slot.result ∙ ap given c.listed_slot.ensures
