use Rattle.std.proofs.Common.{◌≡◌, ◌&&◌, leb, length, is_ok, sym, ◌∙◌, ap, refl, rules}
use Rattle.sizes.specs.Words.{has, within}
use Rattle.sizes.specs.Limits.{most_sessions, largest_window, longest_store}
use Rattle.sizes.proofs.Widths.{width_given}
use Rattle.lifecycle.specs.Setup.{sound_sizes, widths}
use Rattle.lifecycle.proofs.SetupLaws.{both, not_first}
use Rattle.sender.specs.SetupCalls.{priorities_said}
use Rattle.sender.proofs.SetupCallsLaws.{few_named, sound_by}
use Rattle.sender.proofs.setup.is_sound.Goals as goal
use Rattle.sender.proofs.setup.is_sound.Goals.{then-is_within, else-is_within, then-is_within-2, else-is_within-2, then-are_sound_sizes, else-are_sound_sizes, then-z-le-LONGEST_STORE, else-z-le-LONGEST_STORE, then-z-le-LONGEST_STORE-2, else-z-le-LONGEST_STORE-2}

pub returns-then-is_ok : goal.returns-then-is_ok
returns-then-is_ok c =
    let z = c.args.z in
    let o = c.well_formed in
    let t0 = within 1 most_sessions (length (priorities_said z)) in
    let t1 = t0 && within 1 largest_window z.window in
    let t2 = t1 && sound_sizes z.sizes in
    let t3 = t2 && leb z.object_store longest_store in
    let t4 = t3 && leb z.fdt_store longest_store in
    let t5 = t4 && has z.width widths in
    let e0 : c.is_within.result ≡ t0 = sym (few_named z (search rules) (sym c.is_within.ensures)) in
    let e1 : c.if-is_within.value ≡ t1 =
    elim c.if-is_within.branch [ then-is_within w ↦ w.value-is ∙ both e0 w.if-is_within.true w.is_within-then-is_within.ensures | else-is_within w ↦ w.value-is ∙ not_first _ e0 w.if-is_within.false ] in
    let e2 : c.if-is_within-2.value ≡ t2 =
    elim c.if-is_within-2.branch [ then-is_within-2 w ↦ w.value-is ∙ both e1 w.if-is_within-2.true w.are_sound_sizes.ensures | else-is_within-2 w ↦ w.value-is ∙ not_first _ e1 w.if-is_within-2.false ] in
    let e3 : c.if-are_sound_sizes.value ≡ t3 =
    elim c.if-are_sound_sizes.branch [ then-are_sound_sizes w ↦ both e2 w.if-are_sound_sizes.true w.value-is | else-are_sound_sizes w ↦ w.value-is ∙ not_first _ e2 w.if-are_sound_sizes.false ] in
    let e4 : c.if-z-le-LONGEST_STORE.value ≡ t4 =
    elim c.if-z-le-LONGEST_STORE.branch [ then-z-le-LONGEST_STORE w ↦ both e3 w.if-z-le-LONGEST_STORE.true w.value-is | else-z-le-LONGEST_STORE w ↦ w.value-is ∙ not_first _ e3 w.if-z-le-LONGEST_STORE.false ] in
    let e5 : c.if-z-le-LONGEST_STORE-2.value ≡ t5 =
    elim c.if-z-le-LONGEST_STORE-2.branch [
      | then-z-le-LONGEST_STORE-2 w ↦ w.value-is ∙ both e4 w.if-z-le-LONGEST_STORE-2.true (w.is_ok.ensures.value ∙ ap is_ok w.try_from.ensures ∙ width_given z.width)
      | else-z-le-LONGEST_STORE-2 w ↦ w.value-is ∙ not_first _ e4 w.if-z-le-LONGEST_STORE-2.false
    ] in
    both e5 c.if-is_ok.true refl ∙ sym (sound_by z (λ i. search rules))

pub returns-else-is_ok : goal.returns-else-is_ok
returns-else-is_ok c =
    let z = c.args.z in
    let o = c.well_formed in
    let t0 = within 1 most_sessions (length (priorities_said z)) in
    let t1 = t0 && within 1 largest_window z.window in
    let t2 = t1 && sound_sizes z.sizes in
    let t3 = t2 && leb z.object_store longest_store in
    let t4 = t3 && leb z.fdt_store longest_store in
    let t5 = t4 && has z.width widths in
    let e0 : c.is_within.result ≡ t0 = sym (few_named z (search rules) (sym c.is_within.ensures)) in
    let e1 : c.if-is_within.value ≡ t1 =
    elim c.if-is_within.branch [ then-is_within w ↦ w.value-is ∙ both e0 w.if-is_within.true w.is_within-then-is_within.ensures | else-is_within w ↦ w.value-is ∙ not_first _ e0 w.if-is_within.false ] in
    let e2 : c.if-is_within-2.value ≡ t2 =
    elim c.if-is_within-2.branch [ then-is_within-2 w ↦ w.value-is ∙ both e1 w.if-is_within-2.true w.are_sound_sizes.ensures | else-is_within-2 w ↦ w.value-is ∙ not_first _ e1 w.if-is_within-2.false ] in
    let e3 : c.if-are_sound_sizes.value ≡ t3 =
    elim c.if-are_sound_sizes.branch [ then-are_sound_sizes w ↦ both e2 w.if-are_sound_sizes.true w.value-is | else-are_sound_sizes w ↦ w.value-is ∙ not_first _ e2 w.if-are_sound_sizes.false ] in
    let e4 : c.if-z-le-LONGEST_STORE.value ≡ t4 =
    elim c.if-z-le-LONGEST_STORE.branch [ then-z-le-LONGEST_STORE w ↦ both e3 w.if-z-le-LONGEST_STORE.true w.value-is | else-z-le-LONGEST_STORE w ↦ w.value-is ∙ not_first _ e3 w.if-z-le-LONGEST_STORE.false ] in
    let e5 : c.if-z-le-LONGEST_STORE-2.value ≡ t5 =
    elim c.if-z-le-LONGEST_STORE-2.branch [
      | then-z-le-LONGEST_STORE-2 w ↦ w.value-is ∙ both e4 w.if-z-le-LONGEST_STORE-2.true (w.is_ok.ensures.value ∙ ap is_ok w.try_from.ensures ∙ width_given z.width)
      | else-z-le-LONGEST_STORE-2 w ↦ w.value-is ∙ not_first _ e4 w.if-z-le-LONGEST_STORE-2.false
    ] in
    not_first _ e5 c.if-is_ok.false ∙ sym (sound_by z (λ i. search rules))
