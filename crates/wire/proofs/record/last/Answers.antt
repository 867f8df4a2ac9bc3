-- `wire::record::last` meets its contract.
use native.Mathlib.Omega.{arith}
use Rattle.wire.proofs.RecordLaws.{last_sum}
use Rattle.wire.proofs.record.last.Goals as goal

pub returns : goal.returns
returns c = omega (arith, last_sum c.args.r)
