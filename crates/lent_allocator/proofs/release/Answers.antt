-- `lent_allocator::release` passes on what it is lent: its code is that of the law (`passes₁` of `lending`).
use mathlib.Core.Path.{◌≡◌, refl}
use denote.Memory.{lone, pointee}
use denote.Builtin.{u64}
use denote.Plain.{Nothing}
use Rattle.std.specs.contracts.result.Result as G
use Rattle.sizes.specs.contracts.refusal.Refusal as N
use Rattle.sizes.specs.contracts.toiallocator.ToiAllocator as T
use Rattle.sizes.proofs.toiallocator.ToiAllocator.release.Symbol.{name as called}
use Rattle.lending.proofs.Passed.{passes₁_fn}
use Rattle.lent_allocator.proofs.release.Code as code

release_code : code.function ≡ passes₁_fn (pointee T.the_row.written) (lone T.the_row.mir) (pointee T.the_row.written) (lone (G.the_row Nothing N.the_row).mir) (lone u64.mir) called
release_code = refl
