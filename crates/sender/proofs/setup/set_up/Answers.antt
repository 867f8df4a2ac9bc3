use mathlib.Core.Path.{sym, ◌∙◌}
use borrow.Author.Rules.{rules}
use Rattle.std.proofs.lemmas.Result.{err_from_is_err_and}
use Rattle.sizes.proofs.Widths.{width_bad, width_is}
use Rattle.lifecycle.proofs.SetupLaws.{passed, refused_by, told}
use Rattle.sender.specs.SetupCalls.{setup_said}
use Rattle.sender.proofs.SetupCallsLaws.{opens, opens_not}
use Rattle.sender.proofs.setup.set_up.Goals as goal

pub returns-in_err-w : goal.returns-in_err-w
returns-in_err-w c =
    let z = c.args.z in
    let s = setup_said z in
    let w = width_bad z.width _ c.in_err-w.ensures in
    let r = err_from_is_err_and c.from_residual.result c.from_residual.ensures.1 in
    rw (r.1, r.2, w.1) (opens_not z (refused_by s (λ k. (passed s k).width) w.0))

pub returns-then-not-is_sound : goal.returns-then-not-is_sound
returns-then-not-is_sound c = opens_not c.args.z (sym c.is_sound.ensures ∙ c.if-not-is_sound.true)

pub open-requires : goal.open-requires
open-requires c =
    let z = c.args.z in
    (width_is z.width _ c.in_ok-w.ensures, (told (setup_said z) (sym c.is_sound.ensures ∙ c.if-not-is_sound.false)).first_id)

pub returns : goal.returns
returns c =
    let z = c.args.z in
    rw c.«open».ensures (opens z (search rules) (sym c.is_sound.ensures ∙ c.if-not-is_sound.false))
