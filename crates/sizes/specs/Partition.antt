-- Partition of an object into blocks (RFC 5052, section 9.1), and the length of one block in bytes.
use Rattle.std.specs.Prelude.{ℕ, ◌+◌, ◌-◌, ◌*◌, ◌/◌, min, Bool, ◌&&◌, ◌||◌, ◌==◌, nat_lt}
use Rattle.std.specs.Prelude.{Option, None, Some}
use Rattle.sizes.specs.Words.{when◌then◌else◌, ceil}
use Rattle.sizes.specs.Limits.{wide}
use Rattle.sizes.specs.declared.numbers.Sbn.{Sbn}
use Rattle.sizes.specs.declared.numbers.Esi.{Esi}
use Rattle.sizes.specs.declared.partition.Partition.{Partition}
use Rattle.sizes.specs.declared.partition.Sizes.{Sizes}

-- the block with this number
abbrev pub sbn : ℕ → Sbn
sbn k = record { 0 = k }

-- the symbol with this number in its block
abbrev pub esi : ℕ → Esi
esi n = record { 0 = n }

-- T: the symbols that l bytes take
unfoldable pub symbols_of : ℕ → ℕ → ℕ
symbols_of l e = ceil l e

-- T symbols in N blocks: A_large, A_small, I and N of the RFC
unfoldable pub split : ℕ → ℕ → Partition
split t n = record { large = ceil t n; small = t / n; nb_a_large = t - t / n * n; blocks = n }

abbrev pub no_blocks : Partition
no_blocks = record { large = 0; small = 0; nb_a_large = 0; blocks = 0 }

-- the partition of l bytes into symbols of e bytes and blocks of at most b symbols; all zeros where b, e or T is 0
unfoldable pub partition_of : ℕ → ℕ → ℕ → Partition
partition_of b l e =
    when b == 0 || e == 0 || symbols_of l e == 0 then no_blocks
    else split (symbols_of l e) (ceil (symbols_of l e) b)

-- the partition of l bytes by the E and B that the set-up or an object names
abbrev pub blocks_of : Sizes → ℕ → Partition
blocks_of z l = partition_of z.b l z.e

-- how many symbols a block has: the first I blocks are large
unfoldable pub symbols_in : Partition → Sbn → ℕ
symbols_in p k = when nat_lt k.0 p.nb_a_large then p.large else p.small

-- how many symbols stand before a block
unfoldable pub first_symbol : Partition → Sbn → ℕ
first_symbol p k = when nat_lt k.0 p.nb_a_large then k.0 * p.large else p.nb_a_large * p.large + (k.0 - p.nb_a_large) * p.small

-- where a block begins, in bytes
unfoldable pub block_start : Partition → ℕ → Sbn → ℕ
block_start p e k = first_symbol p k * e

-- a block's symbols in bytes, each of e
unfoldable pub block_size : Partition → ℕ → Sbn → ℕ
block_size p e k = symbols_in p k * e

-- does a number fit 64 bits
unfoldable pub fits : ℕ → Bool
fits n = nat_lt n wide

-- a number, where it fits 64 bits
unfoldable pub checked : ℕ → Option ℕ
checked n = when fits n then Some n else None

-- of a block of this size that begins at offset, the bytes that l bytes reach, or none
unfoldable pub reach : ℕ → ℕ → ℕ → Option ℕ
reach offset size l = when nat_lt offset l && nat_lt 0 size then Some (min size (l - offset)) else None

-- a block's length: none where a number passes 64 bits (both block sizes are always formed), else what l bytes reach of it
unfoldable pub block_length : Partition → ℕ → ℕ → Sbn → Option ℕ
block_length p l e k =
    when fits (p.large * e) && fits (p.small * e) && fits (block_start p e k)
    then reach (block_start p e k) (block_size p e k) l
    else None

-- three sizes, as a partition: block_length does not ask how many blocks there are
abbrev pub sizes_given : ℕ → ℕ → ℕ → Partition
sizes_given large small larges = record { large = large; small = small; nb_a_large = larges; blocks = 0 }
