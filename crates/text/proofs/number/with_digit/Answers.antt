-- `text::number::with_digit` meets its contract: n times 10 and a digit are summed only where the sum fits.
use mathlib.Core.Path.{sym, ap, ◌∙◌}
use Prim.Native.Nat.{◌+◌, ◌*◌}
use native.Mathlib.Omega.{arith}
use Rattle.std.specs.Prelude.{Err}
use Rattle.std.proofs.lemmas.Result.{err_from_is_err_and}
use Rattle.text.specs.Numbers.{in_width}
use Rattle.text.proofs.Numbers.{digit_range, width_checked, width_value, width_error, width_past}
use Rattle.text.proofs.number.with_digit.Goals as goal

pub returns-in_err-tens : goal.returns-in_err-tens
returns-in_err-tens c =
    let t = sym (width_checked _ (c.args.n * 10) c.checked_mul.ensures) ∙ sym c.ok_or.ensures.value ∙ c.in_err-tens.was in
    let e = width_error (c.args.n * 10) _ t in
    let p = err_from_is_err_and c.from_residual.result c.from_residual.ensures.1 in
    p.1 ∙ ap Err (p.2 ∙ e.1) ∙ sym (width_past _ (omega (arith, e.0)))

pub overflow_sub-b : goal.overflow_sub-b
overflow_sub-b c = omega (arith, digit_range _ c.requires)

pub returns : goal.returns
returns c =
    let t = sym (width_checked _ (c.args.n * 10) c.checked_mul.ensures) ∙ sym c.ok_or.ensures.value ∙ c.in_ok-tens.was in
    let e = width_value (c.args.n * 10) _ t in
    c.ok_or-2.ensures.value ∙ width_checked _ (c.in_ok-tens.tens + c.from-d.result) c.checked_add.ensures ∙ ap in_width (omega (arith, e.0, c.from-d.ensures))
