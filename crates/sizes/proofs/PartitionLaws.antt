-- What is promised of a partition (specs/PartitionPromises) holds.
use Rattle.std.proofs.Common.{◌≡◌, ℕ, zero, suc, ◌+◌, ◌-◌, ◌*◌, ◌/◌, ◌%◌, ◌<◌, ◌≤◌, ◌⊎◌, ◌↔◌, sym, refl, ap, ◌∙◌, inl, inr, ⊎_elim, mul-le-mul_right, mod-lt, mul_comm, add-mul, one-mul, div-add-mod', le-div_iff_mul-le, zero-mul, mul-one, mul-add, le-mul_of_pos_right, add-one, arith, ne_eqb}
use Rattle.std.specs.Prelude.{None, Some}
use Rattle.sizes.specs.Words.{ceil, sum_below}
use Rattle.sizes.specs.Limits.{wide}
use Rattle.sizes.specs.Partition.{sbn, symbols_of, split, no_blocks, partition_of, symbols_in, first_symbol, block_start, block_size, block_length}
use Rattle.sizes.specs.PartitionPromises.{Empty, Parted, PartedBytes, Admissible, Reached, block_bytes, short_by}
use Rattle.sizes.specs.declared.numbers.Sbn.{Sbn}
use Rattle.sizes.specs.declared.partition.Partition.{Partition}
use Rattle.sizes.proofs.Arithmetic.{below_or, one_more, ceil_cases, ceil_enough, ceil_close, ceil_least, ceil_some}
use Rattle.sizes.proofs.Lengths.{in_large, in_small, before_large, before_small, start_past, all_fit, reach_later, reach_some}

-- ---- where blocks begin, whatever the four numbers are
module _ (p : Partition) where
  abbrev first : ℕ → ℕ
  first k = first_symbol p (sbn k)

  abbrev count : ℕ → ℕ
  count k = symbols_in p (sbn k)

  begins : first 0 ≡ 0
  begins =
      ⊎_elim
      (λ h. before_large p (sbn 0) h ∙ zero-mul _)
      (λ h.
      let z : p.nb_a_large ≡ 0 = omega arith in
      before_small p (sbn 0) h ∙ simp (z, zero-mul))
      (below_or 0 p.nb_a_large)

  -- a block begins where the one before it ends
  follows : (k : ℕ) → first (k + 1) ≡ first k + count k
  follows k =
      ⊎_elim
      (λ (h : k < p.nb_a_large).
      ⊎_elim
      (λ (g : k + 1 < p.nb_a_large). rw (before_large p (sbn (k + 1)) g, before_large p (sbn k) h, in_large p (sbn k) h) (one_more k p.large))
      (λ (g : p.nb_a_large ≤ k + 1).
      let z : p.nb_a_large ≡ k + 1 = omega arith in
      let n : k + 1 - p.nb_a_large ≡ 0 = omega arith in
      rw (before_small p (sbn (k + 1)) g, before_large p (sbn k) h, in_large p (sbn k) h, n, zero-mul, z) (omega (arith, one_more k p.large)))
      (below_or (k + 1) p.nb_a_large))
      (λ (h : p.nb_a_large ≤ k).
      let n : k + 1 - p.nb_a_large ≡ k - p.nb_a_large + 1 = omega arith in
      rw (before_small p (sbn (k + 1)) (omega arith), before_small p (sbn k) h, in_small p (sbn k) h, n) (omega (arith, one_more (k - p.nb_a_large) p.small)))
      (below_or k p.nb_a_large)

  sums : (n : ℕ) → sum_below n count ≡ first n
  sums zero = sym begins
  sums (suc n) = rw (sums n, ← add-one n) (sym (follows n))

  -- a later block begins no earlier
  pub rises : (k d : ℕ) → first k ≤ first (k + d)
  rises k zero =
      let z : k + 0 ≡ k = omega arith in
      rw z (omega arith)
  rises k (suc d) =
      let z : k + suc d ≡ k + d + 1 = omega arith in
      rw (z, follows (k + d)) (omega (arith, rises k d))

-- ---- the four numbers of t symbols in blocks of at most b
record Cut (b t : ℕ) (p : Partition) : Type 0 where
  fewest : p.blocks ≡ ceil t b
  inside : p.nb_a_large ≤ p.blocks
  total : p.nb_a_large * p.large + (p.blocks - p.nb_a_large) * p.small ≡ t
  larger : p.small ≤ p.large
  by_one : p.large ≤ p.small + 1
  at_most : p.large ≤ b
  within : p.large ≤ t
  none_empty : 0 < t → 1 ≤ p.small

-- t symbols in n blocks: each has t / n, and where t % n are left over, so many blocks have one more
module _ (t n : ℕ) (some_block : 0 < n) where
  left : t - t / n * n ≡ t % n
  left = omega (arith, div-add-mod' t n)

  total : (t - t / n * n) * ceil t n + (n - (t - t / n * n)) * (t / n) ≡ t
  total =
      let h = div-add-mod' t n in
      let c = mul_comm n (t / n) in
      ⊎_elim
      (λ (g : (t % n ≡ 0) × (ceil t n ≡ t / n)).
      let z : n - 0 ≡ n = omega arith in
      rw (left, g.0, zero-mul, z) (omega arith))
      (λ (g : (0 < t % n) × (ceil t n ≡ t / n + 1)).
      let r = t % n in
      let z : r + (n - r) ≡ n = omega (arith, mod-lt t some_block) in
      let s = rw z at (add-mul r (n - r) (t / n)) in
      rw (left, g.1, mul-add, mul-one) (omega arith))
      (ceil_cases t n some_block)

-- t symbols, at least one, in blocks of at most b
module _ (b t : ℕ) (some_size : 0 < b) (some_symbol : 0 < t) where
  split_cut : Cut b t (split t (ceil t b))
  unfolding split
  split_cut =
      let n = ceil t b in
      let some_block : 0 < n = ceil_some t b some_size some_symbol in
      let few : n ≤ t = ceil_least t b some_size t (le-mul_of_pos_right t some_size) in
      record {
        fewest = refl;
        inside = omega (arith, left t n some_block, mod-lt t some_block);
        total = total t n some_block;
        larger = ⊎_elim (λ h. omega arith) (λ h. omega arith) (ceil_cases t n some_block);
        by_one = ⊎_elim (λ h. omega arith) (λ h. omega arith) (ceil_cases t n some_block);
        at_most = ceil_least t n some_block b (omega (arith, mul_comm b n, ceil_enough t b some_size));
        within = ceil_least t n some_block t (le-mul_of_pos_right t some_block);
        none_empty = λ _. (le-div_iff_mul-le some_block).1 (omega arith);
      }

-- no symbol, in no block
no_cut : (b : ℕ) → 0 < b → Cut b 0 no_blocks
no_cut b some_size =
    record {
      fewest = omega (arith, ceil_least 0 b some_size 0 (omega arith));
      inside = omega arith;
      total = refl;
      larger = omega arith;
      by_one = omega arith;
      at_most = omega arith;
      within = omega arith;
      none_empty = λ h. absurd (omega arith);
    }

-- ---- the partition of l bytes
module _ (b l e : ℕ) where
  abbrev p : Partition
  p = partition_of b l e

  abbrev t : ℕ
  t = symbols_of l e

  zero_b : b ≡ 0 → p ≡ no_blocks
  unfolding partition_of
  zero_b h = rw h

  zero_e : 1 ≤ b → e ≡ 0 → p ≡ no_blocks
  unfolding partition_of
  zero_e i h = rw (ne_eqb b 0 (omega arith), h)

  module _ (some-b : 1 ≤ b) (some-e : 1 ≤ e) where
    zero_t : t ≡ 0 → p ≡ no_blocks
    unfolding partition_of
    zero_t h = rw (ne_eqb b 0 (omega arith), ne_eqb e 0 (omega arith), h)

    is_split : 0 < t → p ≡ split t (ceil t b)
    unfolding partition_of
    is_split h = rw (ne_eqb b 0 (omega arith), ne_eqb e 0 (omega arith), ne_eqb t 0 (omega arith))

    cut : Cut b t p
    cut =
        ⊎_elim
        (λ h. rw (is_split h) (split_cut b t some-b h))
        (λ h.
        let z : t ≡ 0 = omega arith in
        rw (zero_t z, z) (no_cut b some-b))
        (below_or 0 t)

    -- the symbols hold the bytes, and the last one is not empty
    holds : l ≤ t * e
    unfolding symbols_of
    holds = ceil_enough l e some-e

    close : t * e < l + e
    unfolding symbols_of
    close = ceil_close l e some-e

    some_symbol : 0 < l → 0 < t
    unfolding symbols_of
    some_symbol = ceil_some l e some-e

    some_block : 0 < t → 1 ≤ p.blocks
    some_block h = rw cut.fewest (ceil_some t b some-b h)

    ends : first p p.blocks ≡ t
    ends = before_small p (sbn p.blocks) cut.inside ∙ cut.total

    -- each block has as many symbols as the small ones or the large ones
    between : (k : Sbn) → (p.small ≤ symbols_in p k) × (symbols_in p k ≤ p.large)
    between k =
        let c = cut.larger in
        ⊎_elim (λ h. rw (in_large p k h) (omega arith)) (λ h. rw (in_small p k h) (omega arith)) (below_or k.0 p.nb_a_large)

    none_empty : 0 < t → (k : Sbn) → 1 ≤ symbols_in p k
    none_empty h k = omega (arith, between k, cut.none_empty h)

    pub parted : Parted b l e (partition_of b l e)
    parted =
        record {
          at_most = λ k. omega (arith, between k, cut.at_most);
          enough = rw cut.fewest (ceil_enough t b some-b);
          fewest = λ n h. rw cut.fewest (ceil_least t b some-b n h);
          all_symbols = sums p p.blocks ∙ ends;
          begins = begins p;
          follows = follows p;
          ends = ends;
          none_empty = λ h. none_empty (some_symbol h);
          some_block = λ h. some_block (some_symbol h);
          larger = cut.larger;
          by_one = cut.by_one;
        }

    -- ---- the same in bytes
    abbrev start : ℕ → ℕ
    start k = block_start p e (sbn k)

    abbrev size : ℕ → ℕ
    size k = block_size p e (sbn k)

    abbrev bytes : ℕ → ℕ
    bytes k = block_bytes p l e (sbn k)

    start_0 : start 0 ≡ 0
    unfolding block_start
    start_0 = rw (begins p) (zero-mul e)

    start_next : (k : ℕ) → start (k + 1) ≡ start k + size k
    unfolding block_start block_size
    start_next k = rw (follows p k) (add-mul _ _ e)

    -- no block begins before one that stands before it
    start_rises : (k n : ℕ) → k ≤ n → start k ≤ start n
    unfolding block_start
    start_rises k n h =
        let z : k + (n - k) ≡ n = omega arith in
        mul-le-mul_right e (rw z at (rises p k (n - k)))

    start_end : start p.blocks ≡ t * e
    unfolding block_start
    start_end = rw ends

    -- where there is a block there is a symbol
    symbol_there : 1 ≤ p.blocks → 0 < t
    symbol_there h =
        ⊎_elim
        (λ g. g)
        (λ g. absurd (omega (arith, cut.fewest, ceil_least t b some-b 0 (omega arith))))
        (below_or 0 t)

    -- each block has room for a symbol
    whole_symbol : 1 ≤ p.blocks → (k : ℕ) → e ≤ size k
    unfolding block_size
    whole_symbol h k = rw one-mul at (mul-le-mul_right e (none_empty (symbol_there h) (sbn k)))

    start_inside : (k : ℕ) → k < p.blocks → start k < l
    start_inside k h =
        omega (arith, start_next k, whole_symbol (omega arith) k, start_rises (k + 1) p.blocks (omega arith), start_end, close)

    full : (k : ℕ) → k + 1 < p.blocks → bytes k ≡ size k
    unfolding block_bytes
    full k h = omega (arith, start_next k, start_inside (k + 1) h)

    last : (k : ℕ) → k + 1 ≡ p.blocks → bytes k + short_by l e ≡ size k
    unfolding short_by block_bytes
    last k h = omega (arith, start_next k, start_inside k (omega arith), ap start h ∙ start_end, holds)

    all_symbols : l + short_by l e ≡ t * e
    unfolding short_by
    all_symbols = omega (arith, holds)

    bytes_below : (n : ℕ) → n < p.blocks → sum_below n bytes ≡ start n
    bytes_below zero h = sym start_0
    bytes_below (suc n) h = rw (bytes_below n (omega arith), full n (omega arith), ← add-one n) (sym (start_next n))

    bytes_all : (n : ℕ) → n ≡ p.blocks → sum_below n bytes ≡ l
    bytes_all zero h = omega (arith, ap start h ∙ start_end, start_0, holds)
    bytes_all (suc n) h =
        let z : n + 1 ≡ p.blocks = omega arith in
        rw (bytes_below n (omega arith)) (omega (arith, last n z, start_next n, ap start z ∙ start_end, all_symbols))

    pub parted_bytes : PartedBytes b l e (partition_of b l e)
    parted_bytes =
        record {
          all_symbols = all_symbols;
          short = omega (arith, all_symbols, close);
          full = full;
          last = last;
          begins = start_0;
          follows = λ k h. rw (full k h) (start_next k);
          all_bytes = bytes_all p.blocks refl;
        }

    -- ---- what fits, and which blocks have a length
    module _ (short-enough : l + e ≤ wide) where
      large_fits : p.large * e < wide
      large_fits = omega (arith, mul-le-mul_right e cut.within, close)

      small_fits : p.small * e < wide
      small_fits = omega (arith, mul-le-mul_right e cut.larger, large_fits)

      start_fits : (k : ℕ) → k ≤ p.blocks → start k < wide
      start_fits k h = omega (arith, start_rises k p.blocks h, start_end, close)

      inside : (k : ℕ) → k < p.blocks → block_length p l e (sbn k) ≡ Some (bytes k)
      unfolding block_bytes
      inside k h =
          all_fit p l e (sbn k) large_fits small_fits (start_fits k (omega arith))
          ∙ reach_some (start k) (size k) l (start_inside k h) (omega (arith, whole_symbol (omega arith) k))

      outside : (k : ℕ) → p.blocks ≤ k → block_length p l e (sbn k) ≡ None
      outside k h =
          ⊎_elim
          (λ g. all_fit p l e (sbn k) large_fits small_fits g ∙ reach_later (start k) (size k) l (omega (arith, start_rises p.blocks k h, start_end, holds)))
          (start_past p l e (sbn k) large_fits small_fits)
          (below_or (start k) wide)

      pub reached : Reached l e (partition_of b l e)
      reached = record { large_fits = large_fits; small_fits = small_fits; start_fits = start_fits; inside = inside; outside = outside }

  pub admissible_reached : Admissible b l e → Reached l e (partition_of b l e)
  admissible_reached a = reached a.some_block a.some_symbol (omega arith)

  -- ---- nothing is cut exactly where b, e or l is 0
  pub some_blocks : 1 ≤ b → 1 ≤ e → 1 ≤ l → (1 ≤ (partition_of b l e).blocks) × (1 ≤ (partition_of b l e).large)
  some_blocks i j h =
      let g = some_symbol i j h in
      (some_block i j g, omega (arith, (cut i j).none_empty g, (cut i j).larger))

  no_symbol : l ≡ 0 → 1 ≤ e → t ≡ 0
  unfolding symbols_of
  no_symbol h j = omega (arith, ceil_least l e j 0 (omega arith))

  gone : (b ≡ 0) ⊎ (e ≡ 0) ⊎ (l ≡ 0) → p ≡ no_blocks
  gone h =
      ⊎_elim
      (λ i.
      ⊎_elim
      (λ j. zero_t i j (no_symbol (⊎_elim (λ g. absurd (omega arith)) (⊎_elim (λ g. absurd (omega arith)) (λ g. g)) h) j))
      (λ j. zero_e i (omega arith))
      (below_or 0 e))
      (λ i. zero_b (omega arith))
      (below_or 0 b)

  not_gone : Empty (partition_of b l e) → (b ≡ 0) ⊎ (e ≡ 0) ⊎ (l ≡ 0)
  not_gone n =
      ⊎_elim
      (λ i.
      ⊎_elim
      (λ j. ⊎_elim (λ h. absurd (omega (arith, some_blocks i j h, n.blocks))) (λ h. inr (inr (omega arith))) (below_or 0 l))
      (λ j. inr (inl (omega arith)))
      (below_or 0 e))
      (λ i. inl (omega arith))
      (below_or 0 b)

  pub empty_exactly : Empty (partition_of b l e) ↔ (b ≡ 0) ⊎ (e ≡ 0) ⊎ (l ≡ 0)
  empty_exactly = (not_gone, λ h. rw (gone h) (record { large = refl; small = refl; larges = refl; blocks = refl }))
