-- `desk_program::store::fill` meets its contract. The invariant: the bytes so far are the store's.
use mathlib.Core.Path.{◌≡◌}
use Prim.Native.Nat.{ℕ, ◌<◌}
use lib.ListN.{get_or}
use Rattle.desk_program.specs.Stores.{byte_at}
use Rattle.desk_program.proofs.store.fill.Given as goal

abbrev pub invariant-loop-i : goal.invariant-loop-i
invariant-loop-i l = (k : ℕ) → k < l.i → get_or l.store k 0 ≡ byte_at l.is_fdt k
