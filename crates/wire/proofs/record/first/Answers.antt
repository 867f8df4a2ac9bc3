-- `wire::record::first` meets its contract: no sum passes 64 bits, since the values fit.
use native.Mathlib.Omega.{arith}
use Rattle.wire.proofs.RecordLaws.{good_fit, flag_below, byte_flag, first_sum}
use Rattle.wire.proofs.record.first.Goals as goal

pub overflow_mul-result-3 : goal.overflow_mul-result-3
overflow_mul-result-3 c = let g = good_fit _ c.requires in omega arith

pub overflow_add-result-2 : goal.overflow_add-result-2
overflow_add-result-2 c = let g = good_fit _ c.requires in omega (arith, byte_flag c.args.r.is_fdt, flag_below c.args.r.is_fdt, byte_flag c.args.r.close, flag_below c.args.r.close)

pub overflow_add-result-3 : goal.overflow_add-result-3
overflow_add-result-3 c = let g = good_fit _ c.requires in omega (arith, byte_flag c.args.r.is_fdt, flag_below c.args.r.is_fdt, byte_flag c.args.r.close, flag_below c.args.r.close)

pub returns : goal.returns
returns c = omega (arith, first_sum c.args.r, byte_flag c.args.r.is_fdt, byte_flag c.args.r.close)
