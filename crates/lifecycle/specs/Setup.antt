-- Set-up of the desk: what is named once, and the ranges that refusals 1 and 4 ask for.
use Rattle.std.specs.Prelude.{Bool, not, ◌&&◌, ◌||◌, List, [], ◌∷◌, ℕ, ltb, leb, length}
use Rattle.sizes.specs.Words.{all, has, within}
use Rattle.sizes.specs.Limits.{largest_symbol, largest_block, most_blocks, longest_store, most_sessions, largest_priority, largest_window, largest_fdt_id}
use Rattle.sizes.specs.Partition.{blocks_of}
use Rattle.sizes.specs.declared.partition.Sizes.{Sizes}
use Rattle.lifecycle.specs.Lifecycle.{Carousel}

pub record Setup : Type 0 where
  pub priorities : List ℕ  -- of the file sessions, from session 0
  pub window : ℕ  -- how many blocks are open at a time
  pub sizes : Sizes  -- E and B of every FDT, and of an object that brings none
  pub object_store : ℕ  -- the stores' lengths
  pub fdt_store : ℕ
  pub width : ℕ  -- of object numbers, in bits
  pub first : ℕ  -- the first object number
  pub first_id : ℕ  -- the first FDT id
  pub carousel : Carousel  -- of FDTs: there always is one
  pub validity : ℕ  -- of FDTs, in nanoseconds

-- are E and B in their ranges
unfoldable pub sound_sizes : Sizes → Bool
sound_sizes z = within 1 largest_symbol z.e && within 1 largest_block z.b

-- refusal 4: E, B or the block count is out of range
unfoldable pub bad_blocks : Sizes → ℕ → Bool
bad_blocks z l = not (sound_sizes z) || ltb most_blocks (blocks_of z l).blocks

-- the widths that object numbers may have
abbrev pub widths : List ℕ
widths = 16 ∷ 32 ∷ 48 ∷ 64 ∷ []

-- is every number in its range; refusal 1 is given exactly where not
unfoldable pub sound : Setup → Bool
sound s =
    within 1 most_sessions (length s.priorities) && all (λ p. leb p largest_priority) s.priorities
    && within 1 largest_window s.window && sound_sizes s.sizes
    && leb s.object_store longest_store && leb s.fdt_store longest_store
    && has s.width widths && leb s.first_id largest_fdt_id
