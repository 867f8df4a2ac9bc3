-- The largest numbers that are admitted, each once and by name.
use Rattle.std.specs.Prelude.{ℕ, ◌-◌, ◌^◌}

-- the longest symbol, in bytes (E)
abbrev pub largest_symbol : ℕ
largest_symbol = 65_535

-- the most symbols of a block (B)
abbrev pub largest_block : ℕ
largest_block = 65_535

-- the most blocks of an object or FDT
abbrev pub most_blocks : ℕ
most_blocks = 65_535

-- the longest store, in bytes, and so the longest object
abbrev pub longest_store : ℕ
longest_store = 2 ^ 40

-- what a 64-bit number stays below
abbrev pub wide : ℕ
wide = 2 ^ 64

-- how many object numbers can be held at a time
abbrev pub toi_entries : ℕ
toi_entries = 64

-- how many file sessions there may be, and how large their priorities
abbrev pub most_sessions : ℕ
most_sessions = 4

abbrev pub largest_priority : ℕ
largest_priority = 2 ^ 32 - 1

-- the largest window of open blocks
abbrev pub largest_window : ℕ
largest_window = 16

-- how many objects can be held at a time
abbrev pub object_slots : ℕ
object_slots = 32

-- how many FDTs can wait beside the current one
abbrev pub waiting_fdts : ℕ
waiting_fdts = 4

-- the largest FDT id; the next after it is 0
abbrev pub largest_fdt_id : ℕ
largest_fdt_id = 0xFFFFF

-- where the count of transfers and their total stop
abbrev pub largest_count : ℕ
largest_count = 2 ^ 32 - 1

abbrev pub largest_total : ℕ
largest_total = 2 ^ 64 - 1
