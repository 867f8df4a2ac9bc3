-- `desk_program::store::checksum` meets its contract. The invariant: the checksum so far, with the bytes that are left, is the checksum of all.
use mathlib.Core.Path.{◌≡◌}
use Prim.Native.Nat.{◌<◌}
use lib.ListN.{drop}
use Rattle.desk_program.specs.Stores.{sum_of}
use Rattle.desk_program.proofs.store.checksum.Given as goal

abbrev pub invariant-loop-b : goal.invariant-loop-b
invariant-loop-b l = (l.sum < 4294967291) × (sum_of l.sum (drop l.b-index l.bytes) ≡ sum_of 1 l.bytes)
