-- `saltdoodle::calls::sd_complete` passes on what it is lent: its code is that of the law (`passed₀` of `lending`).
use mathlib.Core.Path.{◌≡◌, refl}
use denote.Memory.{lone, pointee}
use Rattle.sender.specs.contracts.sender.Sender as T
use Rattle.sender.proofs.sender.Sender.complete.Symbol.{name as called}
use Rattle.lending.proofs.Passed.{passed₀_fn}
use Rattle.saltdoodle.proofs.calls.sd_complete.Code as code

complete_code : code.function ≡ passed₀_fn (pointee T.the_row.written) (lone T.the_row.mir) (pointee T.the_row.written) called
complete_code = refl
