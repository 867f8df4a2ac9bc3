-- `saltdoodle::calls::sd_listed` only reads, and passes on what it is lent: its code is that of the law (`views₁` of `lending`).
use mathlib.Core.Path.{◌≡◌, refl}
use denote.Memory.{lone, pointee}
use denote.Builtin.{u64, bool}
use Rattle.sender.specs.contracts.sender.Sender as T
use Rattle.sender.proofs.sender.Sender.listed.Symbol.{name as called}
use Rattle.lending.proofs.Passed.{views₁_fn}
use Rattle.saltdoodle.proofs.calls.sd_listed.Code as code

listed_code : code.function ≡ views₁_fn (pointee T.the_row.written) (lone bool.mir) (lone u64.mir) called
listed_code = refl
