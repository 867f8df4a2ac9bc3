use mathlib.Core.Bool.{false}
use mathlib.Core.Path.{◌≡◌, sym, ◌∙◌, subst}
use Rattle.sender.specs.EncoderCalls.{Inside, open_at, is_empty}
use Rattle.sender.proofs.EncoderLaws.{place_inside}
use Rattle.sender.proofs.EncoderViews.{free_visited}
use Rattle.sender.proofs.EncoderReads.{midway_told}
use Rattle.sender.proofs.blockencoder.BlockEncoder.glance.Goals as goal

pub shown-requires : goal.shown-requires
shown-requires c =
    let x = c.args.self.now in
    let m = midway_told x (sym c.is_midway.ensures ∙ c.if-is_midway.true) in
    let e = sym c.place-place.ensures in (
      c.requires,
      subst (λ i. Inside x.content (open_at x i)) e (c.requires.each _ (place_inside x m.filled)),
      subst (λ i. is_empty x.content.partition (open_at x i) ≡ false) e (free_visited x m.filled m.free),
    )
