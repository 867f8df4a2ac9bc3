-- `drain_program::drain::line_for` meets its contract.
use Rattle.drain_program.proofs.DrainLaws.{start_of}
use Rattle.drain_program.specs.declared.drain.Line.{Line}
use Prim.Native.Nat.{ℕ}
use mathlib.Core.Path.{◌∙◌, ap}
use Prim.Native.Nat.{◌+◌, ◌*◌}
use native.Mathlib.Omega.{arith}
use Rattle.drain_program.proofs.drain.line_for.Goals as goal

pub block_start-requires : goal.block_start-requires
block_start-requires c = (c.requires.0, (start_of c.args.c c.requires.0 c.args.s c.requires.1).fits)

pub overflow_mul-result : goal.overflow_mul-result
overflow_mul-result c =
    let h = (start_of c.args.c c.requires.0 c.args.s c.requires.1).sum in
    omega arith

pub overflow_add-result : goal.overflow_add-result
overflow_add-result c =
    let h = (start_of c.args.c c.requires.0 c.args.s c.requires.1).sum in
    let e = c.block_start.ensures in
    omega arith

pub returns : goal.returns
returns c =
    let y = c.args.s in
    let e = ap (λ n. n + y.esi.0 * c.args.c.sizes.e) c.block_start.ensures ∙ (start_of c.args.c c.requires.0 y c.requires.1).same in
    let f : ℕ → Line = λ n. record { block = y.sbn; symbol = y.esi; symbols = y.symbols; start = n; length = y.payload.size; close = y.close } in
    ap f e
