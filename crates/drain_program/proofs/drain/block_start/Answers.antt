-- `drain_program::drain::block_start` meets its contract.
use Rattle.sizes.specs.Partition.{block_start}
use Rattle.drain_program.proofs.DrainLaws.{in_large_ones, in_small_ones, first_low}
use mathlib.Core.Path.{sym, ap}
use Prim.Native.Nat.{◌*◌}
use native.Mathlib.Omega.{arith}
use Rattle.drain_program.proofs.drain.block_start.Goals as goal

pub overflow_mul-result : goal.overflow_mul-result
overflow_mul-result c =
    let x = c.args.c in
    let b = in_large_ones x c.requires.0 c.args.k c.if-n-p.true in
    let m = ap (λ f. f * x.sizes.e) b in
    let n = c.requires.1 in
    let r = first_low x c.requires.0 c.args.k in
    omega arith

pub overflow_add-result : goal.overflow_add-result
overflow_add-result c =
    let x = c.args.c in
    let b = in_large_ones x c.requires.0 c.args.k c.if-n-p.true in
    let m = ap (λ f. f * x.sizes.e) b in
    let n = c.requires.1 in
    let r = first_low x c.requires.0 c.args.k in
    omega arith

pub overflow_mul-result-then-n-p : goal.overflow_mul-result-then-n-p
overflow_mul-result-then-n-p c =
    let x = c.args.c in
    let b = in_large_ones x c.requires.0 c.args.k c.if-n-p.true in
    let m = ap (λ f. f * x.sizes.e) b in
    let n = c.requires.1 in
    let r = first_low x c.requires.0 c.args.k in
    omega arith

pub returns-then-n-p : goal.returns-then-n-p
unfolding block_start
returns-then-n-p c =
    ap (λ f. f * c.args.c.sizes.e) (sym (in_large_ones c.args.c c.requires.0 c.args.k c.if-n-p.true))

pub overflow_mul-result-2 : goal.overflow_mul-result-2
overflow_mul-result-2 c =
    let x = c.args.c in
    let b = in_small_ones x c.requires.0 c.args.k c.if-n-p.false in
    let m = ap (λ f. f * x.sizes.e) b in
    let n = c.requires.1 in
    let r = first_low x c.requires.0 c.args.k in
    omega arith

pub overflow_add-result-2 : goal.overflow_add-result-2
overflow_add-result-2 c =
    let x = c.args.c in
    let b = in_small_ones x c.requires.0 c.args.k c.if-n-p.false in
    let m = ap (λ f. f * x.sizes.e) b in
    let n = c.requires.1 in
    let r = first_low x c.requires.0 c.args.k in
    omega arith

pub overflow_mul-result-3 : goal.overflow_mul-result-3
overflow_mul-result-3 c =
    let x = c.args.c in
    let b = in_small_ones x c.requires.0 c.args.k c.if-n-p.false in
    let m = ap (λ f. f * x.sizes.e) b in
    let n = c.requires.1 in
    let r = first_low x c.requires.0 c.args.k in
    omega arith

pub returns : goal.returns
unfolding block_start
returns c =
    ap (λ f. f * c.args.c.sizes.e) (sym (in_small_ones c.args.c c.requires.0 c.args.k c.if-n-p.false))
