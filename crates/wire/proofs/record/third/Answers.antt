-- `wire::record::third` meets its contract: no sum passes 64 bits, since the values fit.
use native.Mathlib.Omega.{arith}
use Rattle.wire.proofs.RecordLaws.{good_fit, third_sum}
use Rattle.wire.proofs.record.third.Goals as goal

pub overflow_mul-result-2 : goal.overflow_mul-result-2
overflow_mul-result-2 c = let g = good_fit _ c.requires in omega arith

pub overflow_add-result : goal.overflow_add-result
overflow_add-result c = let g = good_fit _ c.requires in omega arith

pub overflow_add-result-2 : goal.overflow_add-result-2
overflow_add-result-2 c = let g = good_fit _ c.requires in omega arith

pub returns : goal.returns
returns c = omega (arith, third_sum c.args.r)
