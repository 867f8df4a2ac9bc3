use mathlib.Core.Path.{sym, ◌∙◌, ap}
use Rattle.std.proofs.lemmas.Result.{err_from_is_err_and}
use Rattle.sizes.specs.Allocator.{Allocated}
use Rattle.sizes.proofs.Tests.{ok_told, err_told}
use Rattle.lifecycle.proofs.FdtLaws.{free_found, fresh_none, fresh_full, fresh_some}
use Rattle.lifecycle.proofs.fdt.Fdt.add_fresh.Goals as goal

pub returns-in_err-k : goal.returns-in_err-k
returns-in_err-k c =
    let w = err_told _ _ _ c.in_err-k.ensures.value in
    let r = err_from_is_err_and c.from_residual.result c.from_residual.ensures.1 in
    rw (r.1, r.2, w.1) (fresh_none c.args.self.now c.args.q c.args.z (sym c.free_slot.ensures ∙ w.0))

pub returns-in_err-toi : goal.returns-in_err-toi
returns-in_err-toi c =
    let p = sym c.free_slot.ensures ∙ ok_told _ _ _ c.in_ok-k.ensures.value in
    let r = err_from_is_err_and c.from_residual-in_err-toi.result c.from_residual-in_err-toi.ensures.1 in
    let a = ap (λ (x : Allocated). x.answer) c.in_err-toi.ensures.exact in
    let e = ap (λ (x : Allocated). x.allocator) c.in_err-toi.ensures.exact in
    rw (r.1, r.2, e) (fresh_full c.args.self.now c.args.q c.args.z _ p _ (sym a))

pub put-requires : goal.put-requires
put-requires c = free_found c.args.self.now c.requires _ (sym c.free_slot.ensures ∙ ok_told _ _ _ c.in_ok-k.ensures.value)

pub returns : goal.returns
returns c =
    let p = sym c.free_slot.ensures ∙ ok_told _ _ _ c.in_ok-k.ensures.value in
    let a = ap (λ (x : Allocated). x.answer) c.in_ok-toi.ensures.exact in
    let e = ap (λ (x : Allocated). x.allocator) c.in_ok-toi.ensures.exact in
    rw (c.put.ensures, e) (fresh_some c.args.self.now c.args.q c.args.z _ p _ (sym a))
