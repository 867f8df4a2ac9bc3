-- `record_program::hex::put_hex` meets its contract. The invariant: where there is room, the bytes so far stand there in hex.
use Prim.Native.Nat.{◌+◌, ◌*◌, ◌≤◌}
use lib.ListN.{length, take}
use Rattle.text.specs.Put.{Appended}
use Rattle.record_program.specs.Hex.{hex_of}
use Rattle.record_program.proofs.hex.put_hex.Given as goal

abbrev pub invariant-loop-b : goal.invariant-loop-b
invariant-loop-b l =
    l.at + 2 * length l.bytes ≤ length l.initial.out → Appended l.initial.out l.at (hex_of (take l.b-index l.bytes)) l.out l.end
