-- The numbers of a command that writes a record.
use Rattle.std.specs.Prelude.{Bool, ◌&&◌, List, ℕ, ◌^◌, leb, ltb, get_or}
use Rattle.wire.specs.Record.{record_size, good}
use Rattle.wire.specs.declared.record.Record.{Record}

-- two flags; the FDT id, the block and the symbol have 32 bits; the buffer has at most 64 bytes. The others have 64 bits as all numbers have
unfoldable pub fit : List ℕ → Bool
fit a =
    leb (get_or a 0 0) 1
    && leb (get_or a 1 0) 1
    && ltb (get_or a 2 0) (2 ^ 32)
    && ltb (get_or a 4 0) (2 ^ 32)
    && ltb (get_or a 5 0) (2 ^ 32)
    && leb (get_or a 9 0) 64

-- can the record be written into a buffer with this room
unfoldable pub room_for : ℕ → Record → Bool
room_for room r = leb record_size room && good r
