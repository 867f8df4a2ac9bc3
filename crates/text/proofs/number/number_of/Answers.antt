-- `text::number::number_of` meets its contract. The invariant: n and the digits that are left stand for what all of them stand for.
use mathlib.Core.Path.{refl, sym, ap, ◌∙◌}
use mathlib.Core.List.{[]}
use Prim.Native.Nat.{ℕ, ◌+◌}
use lib.ListN.{drop}
use native.Mathlib.Omega.{arith}
use borrow.Author.Rules.{rules}
use borrow.Author.Tests.{tests}
use Rattle.std.specs.Prelude.{Err}
use Rattle.std.proofs.lemmas.Iterator.{YieldsList-from_slice}
use Rattle.std.proofs.lemmas.Iterator.Search.{all_from_yields_List}
use Rattle.std.proofs.lemmas.Result.{err_from_is_err_and}
use Rattle.text.specs.Numbers.{digit, value_from}
use Rattle.text.proofs.Numbers.{digits_list, value_step, value_end, number_empty, number_none, number_past, number_is, width_value, width_error}
use Rattle.text.proofs.number.number_of.Goals as goal

pub returns-then-is_empty : goal.returns-then-is_empty
returns-then-is_empty c = sym (number_empty _ (search (rules, tests)))

pub returns-then-not-all : goal.returns-then-not-all
returns-then-not-all c =
    let w = c.args.w.now in
    let all = all_from_yields_List digit _ _ c.all.result c.all.ensures.ran (YieldsList-from_slice w cc) (λ x b q k. search (rules, tests)) in
    sym (number_none _ (sym (digits_list w) ∙ sym all ∙ c.if-not-all.true))

pub loop-b-init : goal.loop-b-init
loop-b-init c =
    let w = c.args.w.now in
    let all = all_from_yields_List digit _ _ c.all.result c.all.ensures.ran (YieldsList-from_slice w cc) (λ x b q k. search (rules, tests)) in
    (search (rules, tests), sym (digits_list w) ∙ sym all ∙ c.if-not-all.false, refl, omega arith)

pub returns-in_err-n : goal.returns-in_err-n
returns-in_err-n c =
    let w = c.args.w.now in
    let e = width_error _ _ (sym c.with_digit.ensures ∙ c.in_err-n.was) in
    let p = err_from_is_err_and c.from_residual.result c.from_residual.ensures.1 in
    let v = c.loop-b.invariant.2 ∙ value_step w c.loop-b.b-index c.loop-b.n (omega arith) in
    p.1 ∙ ap Err (p.2 ∙ e.1) ∙ sym (number_past w _ _ c.loop-b.invariant.0 c.loop-b.invariant.1 v e.0)

pub loop-b-preserved : goal.loop-b-preserved
loop-b-preserved c =
    let w = c.args.w.now in
    let e = width_value _ _ (sym c.with_digit.ensures ∙ c.in_ok-n.was) in
    (c.loop-b.invariant.0, c.loop-b.invariant.1, c.loop-b.invariant.2 ∙ value_step w c.loop-b.b-index c.loop-b.n (omega arith) ∙ ap (λ (m : ℕ). value_from m (drop (c.loop-b.b-index + 1) w)) e.0, rw (← e.0) e.1)

pub returns : goal.returns
returns c =
    let w = c.args.w.now in
    let v = c.loop-b.invariant.2 ∙ value_end w c.loop-b.b-index c.loop-b.n (omega arith) in
    sym (number_is w [] _ c.loop-b.invariant.0 c.loop-b.invariant.1 v c.loop-b.invariant.3)
