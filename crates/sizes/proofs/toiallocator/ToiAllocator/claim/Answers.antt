use Rattle.std.proofs.Common.{◌≡◌, true, get_or, sym, ◌∙◌, arith, rules}
use Rattle.std.specs.Prelude.{Some}
use Rattle.sizes.specs.Words.{place}
use Rattle.std.proofs.lemmas.Result.{err_from_is_err_and}
use Rattle.sizes.specs.Allocator.{noted, no_entry, entry_is, bound_at}
use Rattle.sizes.proofs.Tests.{ok_told, err_told}
use Rattle.sizes.proofs.AllocatorLaws.{found_inside, found_toi, claimed_some, claimed_none, becomes, valid_claimed}
use Rattle.sizes.proofs.toiallocator.ToiAllocator.claim.Goals as goal

pub returns-in_err-at : goal.returns-in_err-at
returns-in_err-at c =
    let a = c.args.self.now in
    let w = err_told _ _ _ c.in_err-at.ensures.value in
    let r = err_from_is_err_and c.from_residual.result c.from_residual.ensures.1 in
    becomes _ _ (rw (r.1, r.2, w.1) (sym (claimed_none a c.args.toi (sym c.find.ensures ∙ w.0)))) (valid_claimed a c.requires c.args.toi)

pub offset_bounds-self-at : goal.offset_bounds-self-at
offset_bounds-self-at c =
    let p = sym c.find.ensures ∙ ok_told _ _ _ c.in_ok-at.ensures.value in
    let h = found_inside c.args.self.now c.args.toi true _ p in
    let r = c.requires.room in search rules

pub bounds-self-at : goal.bounds-self-at
bounds-self-at c =
    let p = sym c.find.ensures ∙ ok_told _ _ _ c.in_ok-at.ensures.value in
    let h = found_inside c.args.self.now c.args.toi true _ p in
    let r = c.requires.room in omega arith

pub returns : goal.returns
unfolding bound_at
returns c =
    let a = c.args.self.now in
    let p : place (entry_is c.args.toi true) (noted a) ≡ Some c.in_ok-at.at = sym c.find.ensures ∙ ok_told _ _ _ c.in_ok-at.ensures.value in
    let e : (get_or a.entries c.in_ok-at.at no_entry).toi ≡ c.args.toi = found_toi a c.requires c.args.toi true _ no_entry p in
    becomes _ _ (rw e (sym (claimed_some a c.args.toi _ p))) (valid_claimed a c.requires c.args.toi)
