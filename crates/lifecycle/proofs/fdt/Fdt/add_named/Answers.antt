use mathlib.Core.Path.{sym, ◌∙◌, ap}
use Rattle.std.proofs.lemmas.Result.{err_from_is_err_and}
use Rattle.sizes.specs.Allocator.{Changed}
use Rattle.sizes.proofs.Tests.{ok_told, err_told}
use Rattle.sizes.proofs.AllocatorViews.{claimed_done}
use Rattle.lifecycle.proofs.FdtLaws.{free_found, named_unknown, named_none, named_some}
use Rattle.lifecycle.proofs.fdt.Fdt.add_named.Goals as goal

pub returns-then-not-is_loose : goal.returns-then-not-is_loose
returns-then-not-is_loose c = named_unknown c.args.self.now c.args.q c.args.z c.args.toi (sym c.is_loose.ensures ∙ c.if-not-is_loose.true)

pub returns-in_err-k : goal.returns-in_err-k
returns-in_err-k c =
    let h = sym c.is_loose.ensures ∙ c.if-not-is_loose.false in
    let w = err_told _ _ _ c.in_err-k.ensures.value in
    let r = err_from_is_err_and c.from_residual.result c.from_residual.ensures.1 in
    rw (r.1, r.2, w.1) (named_none c.args.self.now c.args.q c.args.z c.args.toi h (sym c.free_slot.ensures ∙ w.0))

-- a loose number can be claimed
pub returns-in_err-claim : goal.returns-in_err-claim
returns-in_err-claim c =
    let d = claimed_done c.args.self.now.tois c.args.toi (sym c.is_loose.ensures ∙ c.if-not-is_loose.false) in
    let a = ap (λ (x : Changed). x.answer) c.in_err-claim.ensures.exact in cc

pub put-requires : goal.put-requires
put-requires c = free_found c.args.self.now c.requires _ (sym c.free_slot.ensures ∙ ok_told _ _ _ c.in_ok-k.ensures.value)

pub returns : goal.returns
returns c =
    let h = sym c.is_loose.ensures ∙ c.if-not-is_loose.false in
    let p = sym c.free_slot.ensures ∙ ok_told _ _ _ c.in_ok-k.ensures.value in
    let e = ap (λ (x : Changed). x.allocator) c.claim.ensures.exact in
    rw (c.put.ensures, e) (named_some c.args.self.now c.args.q c.args.z c.args.toi h _ p)
