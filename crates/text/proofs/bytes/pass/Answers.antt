-- `text::bytes::pass` meets its contract: the run from `from` on ends at the first place behind it that fails the test.
use mathlib.Core.Path.{sym, ap, ◌∙◌}
use mathlib.Core.Bool.{not}
use Prim.Native.Nat.{◌+◌, ◌-◌}
use native.Mathlib.Omega.{arith}
use borrow.Author.Rules.{rules}
use borrow.Author.Tests.{tests}
use lib.ListN.{length, take, drop}
use Rattle.std.proofs.lemmas.Iterator.{YieldsList-from_slice}
use Rattle.std.proofs.lemmas.Iterator.Search.{position_from_yields_List}
use Rattle.std.proofs.lemmas.List.{take_rest}
use Rattle.text.specs.Bytes.{member, run_length, pass}
use Rattle.text.proofs.Lists.{pass_end, run_found}
use Rattle.text.proofs.bytes.pass.Goals as goal

pub returns-then-s-from : goal.returns-then-s-from
returns-then-s-from c = sym (pass_end _ _ _ (omega arith))

pub returns : goal.returns
unfolding pass
returns c =
    let s = c.args.s.now in
    let rest = take (length s - c.args.from) (drop c.args.from s) in
    let p = member c.args.c in
    let found = position_from_yields_List (λ b. not (p b)) _ _ c.position-run.result c.position-run.ensures.ran (YieldsList-from_slice rest cc) (λ x b q k. search (rules, tests)) in
    ap (λ n. c.args.from + n) (c.unwrap_or.ensures ∙ run_found p rest c.position-run.result found ∙ ap (run_length p) (take_rest s c.args.from))
