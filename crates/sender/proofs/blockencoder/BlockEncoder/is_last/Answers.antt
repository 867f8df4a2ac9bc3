use mathlib.Core.Path.{◌≡◌, ◌∙◌}
use borrow.Author.Rules.{rules}
use borrow.Author.Tests.{le-leb, tests}
use lib.ListN.{take, set}
use Rattle.std.specs.List.{list_all}
use Rattle.std.proofs.lemmas.Iterator.{YieldsList-from_slice}
use Rattle.std.proofs.lemmas.Iterator.Search.{all_from_yields_List}
use Rattle.sender.specs.EncoderCalls.{is_empty, last_of}
use Rattle.sizes.proofs.Arrays.{all_is}
use Rattle.sender.proofs.blockencoder.BlockEncoder.is_last.Goals as goal

pub returns : goal.returns
unfolding last_of
returns c =
    let x = c.args.self.now in
    let l = take x.filled (set x.window c.args.at c.args.o) in
    let e : c.all.result ≡ list_all (is_empty x.content.partition) l =
    all_from_yields_List (is_empty x.content.partition) _ _ c.all.result c.all.ensures.ran (YieldsList-from_slice l cc) (λ x b q k. search (rules, tests)) in
    rw (le-leb _ _ c.if-self-p.false) (e ∙ all_is _ l)
