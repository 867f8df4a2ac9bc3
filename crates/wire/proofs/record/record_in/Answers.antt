-- `wire::record::record_in` meets its contract: above its 26 bits of padding the half word has 6.
use mathlib.Core.Path.{◌≡◌}
use Prim.Native.Nat.{◌/◌, ◌%◌, ◌^◌}
use native.Mathlib.Nat.{mod-eq_of_lt}
use native.Mathlib.Omega.{arith}
use Rattle.wire.specs.RecordWords.{record_in}
use Rattle.wire.proofs.record.record_in.Goals as goal

pub returns : goal.returns
unfolding record_in
returns c =
    let e : c.args.d / 2 ^ 26 % 2 ^ 6 ≡ c.args.d / 2 ^ 26 = mod-eq_of_lt (omega arith) in
    rw e
