-- `lent_allocator::reserve` passes on what it is lent: its code is that of the law (`passes_true` of `lending`).
use mathlib.Core.Path.{◌≡◌, refl}
use denote.Memory.{lone, pointee}
use denote.Builtin.{u64}
use Rattle.std.specs.contracts.result.Result as G
use Rattle.sizes.specs.contracts.refusal.Refusal as N
use Rattle.sizes.specs.contracts.toiallocator.ToiAllocator as T
use Rattle.sizes.proofs.toiallocator.ToiAllocator.allocate.Symbol.{name as called}
use Rattle.lending.proofs.Passed.{passes_true_fn}
use Rattle.lent_allocator.proofs.reserve.Code as code

reserve_code : code.function ≡ passes_true_fn (pointee T.the_row.written) (lone T.the_row.mir) (pointee T.the_row.written) (lone (G.the_row u64 N.the_row).mir) called
reserve_code = refl
