use mathlib.Core.Path.{◌≡◌, refl, ◌∙◌, ap}
use mathlib.Core.Bool.{Bool, true, false, not}
use lib.Dec.{eqb}
use Rattle.std.proofs.Common.{rules, tests}
use Rattle.std.specs.Prelude.{Option, None, Some}
use Rattle.std.specs.Option.{MatchOption}
use Rattle.std.specs.Bool.{then_some}
use Rattle.sizes.specs.Words.{when◌then◌else◌}
use Rattle.lifecycle.specs.FdtCalls.{real_draft}
use Rattle.lifecycle.specs.declared.parts.Part.{Part}
use Rattle.lifecycle.proofs.fdt.real_draft.Goals as goal

said : (F : Part → Bool → Type 0) → ((x : Part) (b : Bool) → F x b → b ≡ not (eqb x.size 0)) → (d r : Option Part)
    → MatchOption d (r ≡ None) (λ x. (b : Bool) × F x b × (r ≡ then_some b x)) → r ≡ real_draft d
unfolding real_draft
said F tells None r h = h
said F tells (Some x) r h = h.2 ∙ ap (λ b. then_some b x) (tells x h.0 h.1) ∙ same (eqb x.size 0)
  where
    same : (b : Bool) → then_some (not b) x ≡ (when b then None else Some x)
    same true = refl
    same false = refl

pub returns : goal.returns
returns c = said _ (λ x b q. search (rules, tests)) c.args.draft c.filter.result c.filter.ensures
