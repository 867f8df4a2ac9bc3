-- Where a block begins, counted another way; what the lines of a transfer say.
use mathlib.Core.Logic.{◌⊎◌, inl, inr, ⊎_elim}
use mathlib.Core.Path.{◌≡◌, refl, sym, ◌∙◌, ap, subst}
use mathlib.Core.Bool.{true, false, not, ◌||◌}
use Prim.Native.Nat.{ℕ, ◌+◌, ◌-◌, ◌*◌, ◌/◌, ◌%◌, ◌≤◌, ◌<◌}
use native.Mathlib.Nat.{add-mul, mul-add, mul-one, zero-mul, le-mul_of_pos_right, div-add-mod'}
use native.Mathlib.Omega.{arith}
use lib.Dec.{ltb, eqb}
use borrow.Author.Tests.{ltb-false, eqb-false, not-false}
use Rattle.sizes.specs.Words.{ceil, within}
use Rattle.sizes.specs.Limits.{wide, largest_window, longest_store}
use Rattle.sizes.specs.Partition.{symbols_of, split, partition_of, first_symbol, block_start}
use Rattle.sizes.specs.declared.numbers.Sbn.{Sbn}
use Rattle.sizes.specs.declared.partition.Partition.{Partition}
use Rattle.sizes.proofs.Tests.{or_left, or_right, if_on}
use Rattle.sizes.proofs.Arithmetic.{ceil_cases, ceil_some}
use Rattle.sizes.proofs.Lengths.{before_large, before_small}
use Rattle.lifecycle.specs.Setup.{bad_blocks}
use Rattle.lifecycle.proofs.SetupLaws.{in_range}
use Rattle.sender.specs.EncoderCalls.{Sound, ValidEncoder, offset_of, new_of}
use Rattle.sender.specs.EncoderPromises.{Shown, named}
use Rattle.drain_program.specs.DrainCalls.{drain_refuses}
use Rattle.sender.specs.declared.blockencoder.Content.{Content}
use Rattle.sender.specs.declared.blockencoder.Symbol.{Symbol}
use Rattle.sender.proofs.EncoderPromises.{new_sound}
use Rattle.sender.proofs.Offsets.{told, cut_up, offset_early}

-- ---- every block has the small count, and each large one a symbol more

abbrev OneMore : Partition → Type 0
OneMore p = (p.large ≡ p.small + 1) ⊎ (p.nb_a_large ≡ 0)

split_more : (t n : ℕ) → 1 ≤ n → OneMore (split t n)
unfolding split
split_more t n h = ⊎_elim
    (λ (c : (t % n ≡ 0) × (ceil t n ≡ t / n)). inr (let d = div-add-mod' t n in let z = c.0 in omega arith))
    (λ (c : (0 < t % n) × (ceil t n ≡ t / n + 1)). inl c.1)
    (ceil_cases t n h)

one_more_each : (b l e : ℕ) → OneMore (partition_of b l e)
unfolding partition_of
one_more_each b l e = if_on OneMore (eqb b 0 || eqb e 0 || eqb (symbols_of l e) 0)
    (λ h. inr refl)
    (λ h.
    let z = eqb-false (symbols_of l e) 0 (or_right (eqb b 0 || eqb e 0) (eqb (symbols_of l e) 0) h) in
    let y = eqb-false b 0 (or_left (eqb b 0) (eqb e 0) (or_left (eqb b 0 || eqb e 0) (eqb (symbols_of l e) 0) h)) in
    split_more (symbols_of l e) (ceil (symbols_of l e) b) (let r = ceil_some (symbols_of l e) b (omega arith) (omega arith) in omega arith))

module _ (c : Content) (s : Sound c) where
  abbrev p : Partition
  p = c.partition

  more : OneMore p
  more = subst OneMore (sym s.cut) (one_more_each c.sizes.b c.part.size c.sizes.e)

  -- a large block begins after as many symbols more as there are blocks before it
  pub in_large_ones : (k : Sbn) → k.0 < p.nb_a_large → first_symbol p k ≡ k.0 * p.small + k.0
  in_large_ones k h = before_large p k h ∙ ⊎_elim
      (λ (e : p.large ≡ p.small + 1). ap (λ n. k.0 * n) e ∙ mul-add k.0 p.small 1 ∙ ap (λ n. k.0 * p.small + n) (mul-one k.0))
      (λ (e : p.nb_a_large ≡ 0). absurd (omega arith))
      more

  -- a small one after as many more as there are large ones
  pub in_small_ones : (k : Sbn) → p.nb_a_large ≤ k.0 → first_symbol p k ≡ k.0 * p.small + p.nb_a_large
  in_small_ones k h = before_small p k h ∙ ⊎_elim
      (λ (e : p.large ≡ p.small + 1).
      let z : p.nb_a_large + (k.0 - p.nb_a_large) ≡ k.0 = omega arith in
      let a = ap (λ n. p.nb_a_large * n) e ∙ mul-add p.nb_a_large p.small 1 ∙ ap (λ n. p.nb_a_large * p.small + n) (mul-one p.nb_a_large) in
      let d = sym (add-mul p.nb_a_large (k.0 - p.nb_a_large) p.small) ∙ ap (λ n. n * p.small) z in
      omega arith)
      (λ (e : p.nb_a_large ≡ 0).
      let z : k.0 - p.nb_a_large ≡ k.0 = omega arith in
      let a = ap (λ n. n * p.large) e ∙ zero-mul p.large in
      let d = ap (λ n. n * p.small) z in
      omega arith)
      more

  pub first_low : (k : Sbn) → first_symbol p k ≤ first_symbol p k * c.sizes.e
  first_low k = le-mul_of_pos_right (first_symbol p k) (let q = (told c s).sizes.symbol.0 in omega arith)

  -- ---- a packet's line

  pub record Start (y : Symbol) : Type 0 where
    pub fits : first_symbol p y.sbn * c.sizes.e < wide
    pub sum : block_start p c.sizes.e y.sbn + y.esi.0 * c.sizes.e < wide
    pub same : block_start p c.sizes.e y.sbn + y.esi.0 * c.sizes.e ≡ y.payload.start - c.part.start

  pub start_of : (y : Symbol) → Shown c y → Start y
  unfolding block_start offset_of
  start_of y (Shown.of_block b) =
      let o = offset_early c s (named y) b.inside b.left in
      let d = add-mul (first_symbol p y.sbn) y.esi.0 c.sizes.e in
      let f = ap (λ q. q.start) b.payload in
      let w = s.fits in
      record { fits = omega arith; sum = omega arith; same = omega arith }
  start_of y (Shown.of_nothing n) =
      let k = ap (λ t. t.sbn) n.shown in
      let a = ap (λ q. first_symbol p q * c.sizes.e) k ∙ ap (λ q. q * c.sizes.e) (cut_up c s).begins ∙ zero-mul c.sizes.e in
      let d = ap (λ t. t.esi.0 * c.sizes.e) n.shown ∙ zero-mul c.sizes.e in
      let f = ap (λ t. t.payload.start) n.shown in
      record { fits = omega arith; sum = omega arith; same = omega arith }

-- ---- what is refused

module _ (l e b w : ℕ) where
  -- what is not refused is an encoder's
  pub begun_valid : drain_refuses l e b w ≡ false → ValidEncoder (new_of (record { start = 0; size = l }) (record { e = e; b = b }) w true)
  unfolding drain_refuses new_of
  begun_valid h =
      let a = not (within 1 largest_window w) in
      let m = ltb longest_store l in
      let d = bad_blocks (record { e = e; b = b }) l in
      let t = or_right a (m || d) h in
      let f = ltb-false longest_store l (or_left m d t) in
      let i = in_range 1 largest_window w (not-false (within 1 largest_window w) (or_left a (m || d) h)) in
      new_sound (record { start = 0; size = l }) (record { e = e; b = b }) w true (record { cut = refl; sizes = or_right m d t; fits = omega arith }) i.1
