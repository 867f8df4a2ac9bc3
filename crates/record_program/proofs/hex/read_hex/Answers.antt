-- `record_program::hex::read_hex` meets its contract.
use mathlib.Core.Path.{◌≡◌, sym, ◌∙◌}
use Prim.Native.Nat.{◌/◌, ◌≤◌}
use native.Mathlib.Omega.{arith}
use lib.ListN.{length, drop, length-append, length-set}
use lib.Seq.{length-take-le}
use Rattle.std.proofs.lemmas.List.{take-append-le}
use Rattle.record_program.proofs.HexLaws.{nothing_read, read_more, read_stop, read_end, odd}
use Rattle.record_program.proofs.hex.read_hex.Goals as goal
use Rattle.record_program.proofs.hex.read_hex.Goals.{then-out-n-via-then-out-n, then-out-n-via-else-out-n+then-w-ne0}

pub returns-then-out-n : goal.returns-then-out-n
returns-then-out-n c =
    elim c.then-out-n.branch [ then-out-n-via-then-out-n w ↦ λ room. absurd (omega arith) | then-out-n-via-else-out-n+then-w-ne0 w ↦ λ room. record { exact = sym (odd _ (omega arith)); inside = tt } ]

pub returns-in_err-b : goal.returns-in_err-b
returns-in_err-b c =
    let w = c.args.w.now in
    let e = read_stop w c.loop-i.i _ (omega arith) (sym c.pair.ensures ∙ c.in_err-b.was) c.loop-i.invariant.same in
    λ room. rw c.from_residual.ensures (record { exact = sym e; inside = tt })

pub loop-i-init : goal.loop-i-init
loop-i-init c = record { even = omega arith; room = length-take-le (length c.args.w.now / 2) c.args.out.now (omega arith); same = nothing_read _ }

pub loop-i-preserved : goal.loop-i-preserved
loop-i-preserved c =
    let w = c.args.w.now in record {
      even = c.loop-i.invariant.even;
      room = length-set c.loop-i.b-items c.loop-i.i c.in_ok-b.field-0 ∙ c.loop-i.invariant.room;
      same = read_more w c.loop-i.i c.loop-i.b-items _ (omega arith) (omega arith) (sym c.pair.ensures ∙ c.in_ok-b.was) c.loop-i.invariant.same;
    }

pub returns : goal.returns
returns c =
    let w = c.args.w.now in
    let rest = drop (length w / 2) c.args.out.now in
    let e = read_end w c.loop-i.i _ (omega arith) c.loop-i.invariant.same in
    let k : c.loop-i.i ≡ length w / 2 = omega arith in
    let h : length w / 2 ≤ length c.loop-i.b-items = omega arith in
    λ room. record { exact = rw take-append-le (rw k at (sym e)); inside = omega (arith, length-append c.loop-i.b-items rest) }
