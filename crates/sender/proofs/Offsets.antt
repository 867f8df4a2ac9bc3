-- Where a symbol stands in what is sent: inside it, and no number on the way passes 64 bits.
use mathlib.Core.Path.{◌≡◌, sym, subst}
use mathlib.Core.Bool.{false}
use Prim.Native.Nat.{ℕ, ◌+◌, ◌-◌, ◌*◌, ◌≤◌, ◌<◌}
use native.Mathlib.Nat.{le-mul_of_pos_right, mul-le-mul_right}
use native.Mathlib.Omega.{arith}
use borrow.Author.Tests.{leb-false}
use Rattle.sizes.specs.Limits.{wide, largest_block}
use Rattle.sizes.specs.Partition.{symbols_of, symbols_in, first_symbol}
use Rattle.sizes.specs.PartitionPromises.{Parted}
use Rattle.sizes.proofs.Arithmetic.{one_more}
use Rattle.sizes.proofs.Lengths.{before_large, before_small}
use Rattle.sizes.proofs.PartitionLaws.{parted, parted_bytes, rises}
use Rattle.lifecycle.proofs.SetupLaws.{SizesTold, blocks_told}
use Rattle.sender.specs.EncoderCalls.{Sound, Inside, is_empty, offset_of}
use Rattle.sender.specs.declared.block.Open.{Open}
use Rattle.sender.specs.declared.blockencoder.Content.{Content}

module _ (c : Content) (s : Sound c) where
  abbrev l : ℕ
  l = c.part.size

  abbrev e : ℕ
  e = c.sizes.e

  pub told : SizesTold c.sizes l
  told = blocks_told c.sizes l s.sizes

  pub cut_up : Parted c.sizes.b l e c.partition
  cut_up = subst (Parted c.sizes.b l e) (sym s.cut) (parted c.sizes.b l e told.sizes.block.0 told.sizes.symbol.0)

  module _ (o : Open) (i : Inside c o) where
    -- the symbol's number in all that is sent
    abbrev pub rank : ℕ
    rank = first_symbol c.partition o.sbn + o.esi.0

    pub few : symbols_in c.partition o.sbn ≤ largest_block
    few = let a = cut_up.at_most o.sbn in let b = told.sizes.block.1 in omega arith

    pub esi_small : o.esi.0 ≤ largest_block
    esi_small = let a = i.symbol in let b = few in omega arith

    module _ (some_left : is_empty c.partition o ≡ false) where
      pub left : o.esi.0 < symbols_in c.partition o.sbn
      unfolding is_empty
      left = leb-false (symbols_in c.partition o.sbn) o.esi.0 some_left

      pub rank_early : rank < symbols_of l e
      rank_early =
          let k = o.sbn.0 in
          let z : k + 1 + (c.partition.blocks - (k + 1)) ≡ c.partition.blocks = let b = i.block in omega arith in
          let r = rw z at (rises c.partition (k + 1) (c.partition.blocks - (k + 1))) in
          omega (arith, r, cut_up.follows k, cut_up.ends, left)

      -- it begins before the end
      pub offset_early : rank * e < l
      offset_early =
          let p = parted_bytes c.sizes.b l e told.sizes.block.0 told.sizes.symbol.0 in
          let a = mul-le-mul_right e (let r : rank + 1 ≤ symbols_of l e = let q = rank_early in omega arith in r) in
          let b = one_more rank e in
          let f = p.all_symbols in
          let g = p.short in
          omega arith

      pub rank_low : rank ≤ rank * e
      rank_low = le-mul_of_pos_right rank (let q = told.sizes.symbol.0 in omega arith)

      pub offset_inside : offset_of c o < l
      unfolding offset_of
      offset_inside = offset_early

      -- f symbols stand before its block: no number on the way to its offset passes 64 bits
      abbrev pub OnTheWay : ℕ → Type 0
      OnTheWay f = (f + o.esi.0 ≤ (f + o.esi.0) * e) × ((f + o.esi.0) * e < wide)

      on_the_way : {f : ℕ} → f ≡ first_symbol c.partition o.sbn → OnTheWay f
      on_the_way q = (rw q rank_low, rw q (omega (arith, offset_early, s.fits)))

      pub fits_large : o.sbn.0 < c.partition.nb_a_large → OnTheWay (o.sbn.0 * c.partition.large)
      fits_large h = on_the_way (sym (before_large c.partition o.sbn h))

      pub fits_small : c.partition.nb_a_large ≤ o.sbn.0 → OnTheWay (c.partition.nb_a_large * c.partition.large + (o.sbn.0 - c.partition.nb_a_large) * c.partition.small)
      fits_small h = on_the_way (sym (before_small c.partition o.sbn h))

-- what the offset of a symbol is proved by
pub ruleset offsets = (before_large, before_small, fits_large, fits_small)
