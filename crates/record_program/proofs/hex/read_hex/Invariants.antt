-- `record_program::hex::read_hex` meets its contract. The invariant: the word spells the bytes read so far, and behind them what its
-- rest spells.
use mathlib.Core.Path.{◌≡◌}
use Prim.Native.Nat.{◌*◌}
use lib.ListN.{length, take, drop}
use Rattle.record_program.specs.Hex.{spelled}
use Rattle.record_program.proofs.HexLaws.{behind}
use Rattle.record_program.proofs.hex.read_hex.Given as goal

abbrev pub invariant-loop-i : goal.invariant-loop-i
invariant-loop-i l = record {
  even : 2 * l.n ≡ length l.w;
  room : length l.b-items ≡ l.n;
  same : spelled l.w ≡ behind (take l.i l.b-items) (spelled (drop (2 * l.i) l.w));
}
