-- `saltdoodle::calls::sd_trigger` passes on what it is lent: its code is that of the law (`passes₂` of `lending`).
use mathlib.Core.Path.{◌≡◌, refl}
use denote.Memory.{lone, pointee}
use denote.Builtin.{u64, bool}
use Rattle.sender.specs.contracts.sender.Sender as T
use Rattle.lifecycle.specs.contracts.filedesc.Time as I
use Rattle.sender.proofs.sender.Sender.trigger.Symbol.{name as called}
use Rattle.lending.proofs.Passed.{passes₂_fn}
use Rattle.saltdoodle.proofs.calls.sd_trigger.Code as code

trigger_code : code.function ≡ passes₂_fn (pointee T.the_row.written) (lone T.the_row.mir) (pointee T.the_row.written) (lone bool.mir) (lone u64.mir) (lone I.the_row.mir) called
trigger_code = refl
