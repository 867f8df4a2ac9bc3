-- What is promised of a partition: statements only, proved in proofs/PartitionLaws.
use Rattle.std.specs.Prelude.{◌≡◌, ℕ, ◌+◌, ◌-◌, ◌*◌, ◌<◌, ◌≤◌, min}
use Rattle.std.specs.Prelude.{None, Some}
use Rattle.sizes.specs.Words.{sum_below}
use Rattle.sizes.specs.Limits.{largest_symbol, largest_block, most_blocks, longest_store, wide}
use Rattle.sizes.specs.Partition.{sbn, symbols_of, partition_of, symbols_in, first_symbol, block_start, block_size, block_length}
use Rattle.sizes.specs.declared.numbers.Sbn.{Sbn}
use Rattle.sizes.specs.declared.partition.Partition.{Partition}

-- all four numbers are 0
pub record Empty (p : Partition) : Type 0 where
  pub large : p.large ≡ 0
  pub small : p.small ≡ 0
  pub larges : p.nb_a_large ≡ 0
  pub blocks : p.blocks ≡ 0

-- the symbols of l bytes in blocks of at most b, for b and e of at least 1
pub record Parted (b l e : ℕ) (p : Partition) : Type 0 where
  pub at_most : (k : Sbn) → symbols_in p k ≤ b
  pub enough : symbols_of l e ≤ p.blocks * b
  -- no smaller count of blocks holds them
  pub fewest : (n : ℕ) → symbols_of l e ≤ n * b → p.blocks ≤ n
  pub all_symbols : sum_below p.blocks (λ k. symbols_in p (sbn k)) ≡ symbols_of l e
  pub begins : first_symbol p (sbn 0) ≡ 0
  -- a block begins where the one before it ends
  pub follows : (k : ℕ) → first_symbol p (sbn (k + 1)) ≡ first_symbol p (sbn k) + symbols_in p (sbn k)
  pub ends : first_symbol p (sbn p.blocks) ≡ symbols_of l e
  pub none_empty : 0 < l → (k : Sbn) → 1 ≤ symbols_in p k
  pub some_block : 0 < l → 1 ≤ p.blocks
  pub larger : p.small ≤ p.large
  pub by_one : p.large ≤ p.small + 1

-- the bytes of a block that l bytes reach
unfoldable pub block_bytes : Partition → ℕ → ℕ → Sbn → ℕ
block_bytes p l e k = min (block_size p e k) (l - block_start p e k)

-- by how many bytes the last symbol is short
unfoldable pub short_by : ℕ → ℕ → ℕ
short_by l e = symbols_of l e * e - l

-- the same in bytes
pub record PartedBytes (b l e : ℕ) (p : Partition) : Type 0 where
  -- only the very last symbol may be short, and it is never empty
  pub all_symbols : l + short_by l e ≡ symbols_of l e * e
  pub short : short_by l e < e
  pub full : (k : ℕ) → k + 1 < p.blocks → block_bytes p l e (sbn k) ≡ block_size p e (sbn k)
  pub last : (k : ℕ) → k + 1 ≡ p.blocks → block_bytes p l e (sbn k) + short_by l e ≡ block_size p e (sbn k)
  -- a block begins where the one before it ends
  pub begins : block_start p e (sbn 0) ≡ 0
  pub follows : (k : ℕ) → k + 1 < p.blocks → block_start p e (sbn (k + 1)) ≡ block_start p e (sbn k) + block_bytes p l e (sbn k)
  pub all_bytes : sum_below p.blocks (λ k. block_bytes p l e (sbn k)) ≡ l

-- symbol, block, block count and length are in their ranges
pub record Admissible (b l e : ℕ) : Type 0 where
  pub some_symbol : 1 ≤ e
  pub symbol : e ≤ largest_symbol
  pub some_block : 1 ≤ b
  pub block : b ≤ largest_block
  pub blocks : (partition_of b l e).blocks ≤ most_blocks
  pub long : l ≤ longest_store

-- then no number passes 64 bits, and exactly the blocks below the count have a length
pub record Reached (l e : ℕ) (p : Partition) : Type 0 where
  pub large_fits : p.large * e < wide
  pub small_fits : p.small * e < wide
  pub start_fits : (k : ℕ) → k ≤ p.blocks → block_start p e (sbn k) < wide
  pub inside : (k : ℕ) → k < p.blocks → block_length p l e (sbn k) ≡ Some (block_bytes p l e (sbn k))
  pub outside : (k : ℕ) → p.blocks ≤ k → block_length p l e (sbn k) ≡ None
