use Rattle.std.proofs.Common.{sym, ◌∙◌, arith}
use Rattle.std.proofs.lemmas.Result.{err_from_is_err_and}
use Rattle.sizes.specs.Allocator.{entry_gone}
use Rattle.sizes.proofs.Tests.{ok_told, err_told}
use Rattle.sizes.proofs.AllocatorLaws.{found_inside, dropped_some, dropped_none, becomes, valid_dropped}
use Rattle.sizes.proofs.toiallocator.ToiAllocator.drop_entry.Goals as goal

pub returns-in_err-at : goal.returns-in_err-at
returns-in_err-at c =
    let a = c.args.self.now in
    let w = err_told _ _ _ c.in_err-at.ensures.value in
    let r = err_from_is_err_and c.from_residual.result c.from_residual.ensures.1 in
    becomes _ _ (rw (r.1, r.2, w.1) (sym (dropped_none a c.args.loose c.args.toi (sym c.find.ensures ∙ w.0)))) (valid_dropped a c.requires c.args.loose c.args.toi)

pub returns : goal.returns
unfolding entry_gone
returns c =
    let p = sym c.find.ensures ∙ ok_told _ _ _ c.in_ok-at.ensures.value in
    let h = found_inside c.args.self.now c.args.toi c.args.loose _ p in
    let r = c.requires.room in
    let s = c.requires.sized in
    becomes _ _ (rw (c.close_gap.ensures.inside (omega arith)) (sym (dropped_some c.args.self.now c.args.loose c.args.toi _ p))) (valid_dropped c.args.self.now c.requires c.args.loose c.args.toi)
