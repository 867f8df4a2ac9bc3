-- Laws of block-length: by which tests it is none, and what it is where every number fits.
use Rattle.std.proofs.Common.{◌≡◌, ℕ, ◌+◌, ◌-◌, ◌*◌, ◌<◌, ◌≤◌, min, sym, ap, ◌∙◌, ⊎_elim, mul_assoc, add-mul, arith, le-ltb, lt-ltb}
use mathlib.Core.Bool.{and-false}
use Rattle.std.specs.Prelude.{Option, None, Some, SomeIff}
use Rattle.sizes.specs.Limits.{wide}
use Rattle.sizes.specs.Partition.{fits, checked, reach, symbols_in, first_symbol, block_start, block_size, block_length, sizes_given}
use Rattle.sizes.proofs.Arithmetic.{below_or}
use Rattle.sizes.specs.declared.numbers.Sbn.{Sbn}
use Rattle.sizes.specs.declared.partition.Partition.{Partition}

-- what a checked number tells
module _ (n : ℕ) where
  pub checked_fits : n < wide → checked n ≡ Some n
  unfolding checked fits
  checked_fits h = rw (lt-ltb n wide h)

  pub checked_past : wide ≤ n → checked n ≡ None
  unfolding checked fits
  checked_past h = rw (le-ltb n wide h)

  pub past : checked n ≡ None → wide ≤ n
  past e =
      ⊎_elim
      (λ h. let f = checked_fits h in let z : ◌≡◌ {A = ℕ} 0 1 = cc in omega arith)
      (λ h. h)
      (below_or n wide)

  pub fitted : (x : ℕ) → checked n ≡ Some x → (x ≡ n) × (n < wide)
  fitted x e =
      ⊎_elim
      (λ h. let f = checked_fits h in ((cc), h))
      (λ h. let f = checked_past h in let z : ◌≡◌ {A = ℕ} 0 1 = cc in absurd (omega arith))
      (below_or n wide)

  -- what the library's checked sum or product says
  pub checked_by : (o : Option ℕ) → SomeIff o (n < wide) n → checked n ≡ o
  checked_by None h = checked_past (omega (arith, h))
  checked_by (Some x) h = checked_fits h.0 ∙ ap Some (sym h.1)

-- of a block, what l bytes reach
module _ (offset size l : ℕ) where
  pub reach_later : l ≤ offset → reach offset size l ≡ None
  unfolding reach
  reach_later h = rw (le-ltb _ _ h)

  pub reach_empty : size ≡ 0 → reach offset size l ≡ None
  unfolding reach
  reach_empty h = rw (h, and-false)

  pub reach_some : offset < l → 0 < size → reach offset size l ≡ Some (min size (l - offset))
  unfolding reach
  reach_some h g = rw (lt-ltb _ _ h, lt-ltb _ _ g)

module _ (p : Partition) (k : Sbn) where
  -- a block of the first ones
  module _ (first : k.0 < p.nb_a_large) where
    pub in_large : symbols_in p k ≡ p.large
    unfolding symbols_in
    in_large = rw (lt-ltb _ _ first)

    pub before_large : first_symbol p k ≡ k.0 * p.large
    unfolding first_symbol
    before_large = rw (lt-ltb _ _ first)

    pub size_large : (e : ℕ) → block_size p e k ≡ p.large * e
    unfolding block_size
    size_large e = rw in_large

    pub start_large : (e : ℕ) → block_start p e k ≡ k.0 * (p.large * e)
    unfolding block_start
    start_large e = rw before_large (mul_assoc _ _ _)

  -- and one of the others
  module _ (later : p.nb_a_large ≤ k.0) where
    pub in_small : symbols_in p k ≡ p.small
    unfolding symbols_in
    in_small = rw (le-ltb _ _ later)

    pub before_small : first_symbol p k ≡ p.nb_a_large * p.large + (k.0 - p.nb_a_large) * p.small
    unfolding first_symbol
    before_small = rw (le-ltb _ _ later)

    pub size_small : (e : ℕ) → block_size p e k ≡ p.small * e
    unfolding block_size
    size_small e = rw in_small

    pub start_small : (e : ℕ) → block_start p e k ≡ p.nb_a_large * (p.large * e) + (k.0 - p.nb_a_large) * (p.small * e)
    unfolding block_start
    start_small e = rw before_small (add-mul _ _ _ ∙ rw (mul_assoc p.nb_a_large, mul_assoc (k.0 - p.nb_a_large)))

module _ (p : Partition) (l e : ℕ) (k : Sbn) where
  pub large_past : wide ≤ p.large * e → block_length p l e k ≡ None
  unfolding block_length fits
  large_past h = rw (le-ltb _ _ h)

  module _ (large : p.large * e < wide) where
    pub small_past : wide ≤ p.small * e → block_length p l e k ≡ None
    unfolding block_length fits
    small_past h = rw (lt-ltb _ _ large, le-ltb _ _ h)

    module _ (small : p.small * e < wide) where
      pub start_past : wide ≤ block_start p e k → block_length p l e k ≡ None
      unfolding block_length fits
      start_past h = rw (lt-ltb _ _ large, lt-ltb _ _ small, le-ltb _ _ h)

      pub all_fit : block_start p e k < wide → block_length p l e k ≡ reach (block_start p e k) (block_size p e k) l
      unfolding block_length fits
      all_fit h = rw (lt-ltb _ _ large, lt-ltb _ _ small, lt-ltb _ _ h)

  -- what the steps of block_length tell: x and y are the two sizes
  pub large_told : checked (p.large * e) ≡ None → block_length p l e k ≡ None
  large_told h = large_past (past _ h)

  module _ (x : ℕ) (large : checked (p.large * e) ≡ Some x) where
    pub small_told : checked (p.small * e) ≡ None → block_length p l e k ≡ None
    small_told h = small_past (fitted _ x large).1 (past _ h)

    module _ (y : ℕ) (small : checked (p.small * e) ≡ Some y) where
      start_told : wide ≤ block_start p e k → block_length p l e k ≡ None
      start_told = start_past (fitted _ x large).1 (fitted _ y small).1

      module _ (first : k.0 < p.nb_a_large) where
        begun : block_start p e k ≡ k.0 * x
        begun = rw (fitted _ x large).0 (start_large p k first e)

        pub first_past : checked (k.0 * x) ≡ None → block_length p l e k ≡ None
        first_past h = start_told (rw begun (past _ h))

        pub first_fits : (o : ℕ) → checked (k.0 * x) ≡ Some o → block_length p l e k ≡ reach o x l
        first_fits o h =
            let f = fitted _ o h in
            all_fit (fitted _ x large).1 (fitted _ y small).1 (rw begun f.1) ∙ rw (begun, size_large p k first e, f.0, (fitted _ x large).0)

      module _ (later : p.nb_a_large ≤ k.0) where
        begun' : block_start p e k ≡ p.nb_a_large * x + (k.0 - p.nb_a_large) * y
        begun' = rw ((fitted _ x large).0, (fitted _ y small).0) (start_small p k later e)

        pub small_offset_past : checked ((k.0 - p.nb_a_large) * y) ≡ None → block_length p l e k ≡ None
        small_offset_past h = start_told (rw begun' (omega (arith, past _ h)))

        pub large_offset_past : checked (p.nb_a_large * x) ≡ None → block_length p l e k ≡ None
        large_offset_past h = start_told (rw begun' (omega (arith, past _ h)))

        module _ (s t : ℕ) (after : checked ((k.0 - p.nb_a_large) * y) ≡ Some s) (before : checked (p.nb_a_large * x) ≡ Some t) where
          both : block_start p e k ≡ t + s
          both = begun' ∙ rw ((fitted _ s after).0, (fitted _ t before).0)

          pub offset_past : checked (t + s) ≡ None → block_length p l e k ≡ None
          offset_past h = start_told (rw both (past _ h))

          pub later_fits : (o : ℕ) → checked (t + s) ≡ Some o → block_length p l e k ≡ reach o y l
          later_fits o h =
              let f = fitted _ o h in
              all_fit (fitted _ x large).1 (fitted _ y small).1 (rw both f.1) ∙ rw (both, size_small p k later e, f.0, (fitted _ y small).0)

-- how many blocks there are is not asked
pub length_of_sizes : (p : Partition) (l e : ℕ) (k : Sbn) → block_length p l e k ≡ block_length (sizes_given p.large p.small p.nb_a_large) l e k
unfolding block_length block_start block_size symbols_in first_symbol
length_of_sizes p l e k = λ i. block_length p l e k
