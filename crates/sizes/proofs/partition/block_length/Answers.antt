-- `sizes::partition::block_length` meets its contract: each return is a law of `block_length`, by what the checked steps told.
use Rattle.std.proofs.Common.{sym, ◌∙◌}
use Rattle.std.specs.Prelude.{None, Some}
use Rattle.sizes.proofs.Lengths.{checked_by, large_told, small_told, first_past, first_fits, small_offset_past, large_offset_past, offset_past, later_fits}
use Rattle.sizes.proofs.partition.block_length.Goals as goal

pub returns-in_err-large_size : goal.returns-in_err-large_size
returns-in_err-large_size c = c.from_residual.ensures ∙ sym (large_told _ _ _ _ (checked_by _ None (c.in_err-large_size.ensures)))

pub returns-in_err-small_size : goal.returns-in_err-small_size
returns-in_err-small_size c =
    let large = checked_by _ (Some _) (c.in_ok-large_size.ensures) in
    c.from_residual-in_err-small_size.ensures ∙ sym (small_told _ _ _ _ _ large (checked_by _ None (c.in_err-small_size.ensures)))

pub returns-in_err-offset : goal.returns-in_err-offset
returns-in_err-offset c =
    let large = checked_by _ (Some _) (c.in_ok-large_size.ensures) in
    let small = checked_by _ (Some _) (c.in_ok-small_size.ensures) in
    c.from_residual-in_err-offset.ensures ∙ sym (first_past _ _ _ _ _ large _ small c.if-k-p.true (checked_by _ None (c.in_err-offset.ensures)))

pub returns-then-k-p : goal.returns-then-k-p
returns-then-k-p c =
    let large = checked_by _ (Some _) (c.in_ok-large_size.ensures) in
    let small = checked_by _ (Some _) (c.in_ok-small_size.ensures) in
    c.reached.ensures ∙ sym (first_fits _ _ _ _ _ large _ small c.if-k-p.true _ (checked_by _ (Some _) (c.in_ok-offset.ensures)))

pub returns-in_err-small_offset : goal.returns-in_err-small_offset
returns-in_err-small_offset c =
    let large = checked_by _ (Some _) (c.in_ok-large_size.ensures) in
    let small = checked_by _ (Some _) (c.in_ok-small_size.ensures) in
    c.from_residual-in_err-small_offset.ensures ∙ sym (small_offset_past _ _ _ _ _ large _ small c.if-k-p.false (checked_by _ None (c.in_err-small_offset.ensures)))

pub returns-in_err-large_offset : goal.returns-in_err-large_offset
returns-in_err-large_offset c =
    let large = checked_by _ (Some _) (c.in_ok-large_size.ensures) in
    let small = checked_by _ (Some _) (c.in_ok-small_size.ensures) in
    c.from_residual-in_err-large_offset.ensures ∙ sym (large_offset_past _ _ _ _ _ large _ small c.if-k-p.false (checked_by _ None (c.in_err-large_offset.ensures)))

pub returns-in_err-offset-2 : goal.returns-in_err-offset-2
returns-in_err-offset-2 c =
    let large = checked_by _ (Some _) (c.in_ok-large_size.ensures) in
    let small = checked_by _ (Some _) (c.in_ok-small_size.ensures) in
    let after = checked_by _ (Some _) (c.in_ok-small_offset.ensures) in
    let before = checked_by _ (Some _) (c.in_ok-large_offset.ensures) in
    c.from_residual-in_err-offset-2.ensures ∙ sym (offset_past _ _ _ _ _ large _ small c.if-k-p.false _ _ after before (checked_by _ None (c.in_err-offset-2.ensures)))

pub returns : goal.returns
returns c =
    let large = checked_by _ (Some _) (c.in_ok-large_size.ensures) in
    let small = checked_by _ (Some _) (c.in_ok-small_size.ensures) in
    let after = checked_by _ (Some _) (c.in_ok-small_offset.ensures) in
    let before = checked_by _ (Some _) (c.in_ok-large_offset.ensures) in
    c.reached-2.ensures ∙ sym (later_fits _ _ _ _ _ large _ small c.if-k-p.false _ _ after before _ (checked_by _ (Some _) (c.in_ok-offset-2.ensures)))
