-- What an accepted set-up tells, and when E, B or the block count is out of range.
use mathlib.Core.Path.{◌≡◌, sym, ◌∙◌, ap}
use mathlib.Core.Bool.{Bool, true, false, not, ◌&&◌, and-true, false≢true}
use Prim.Native.Nat.{ℕ, ◌≤◌}
use native.Mathlib.Omega.{arith}
use lib.Dec.{ltb, leb}
use borrow.Author.Tests.{ltb-false, leb-true, not-false}
use lib.ListN.{length}
use Rattle.sizes.specs.Words.{all, has, within}
use Rattle.sizes.specs.Limits.{largest_symbol, largest_block, most_blocks, longest_store, most_sessions, largest_priority, largest_window, largest_fdt_id}
use Rattle.sizes.specs.Partition.{blocks_of}
use Rattle.sizes.specs.declared.partition.Sizes.{Sizes}
use Rattle.sizes.proofs.Tests.{Tested, pass, fail, tested, and_left, and_right, or_left, or_right}
use Rattle.sizes.proofs.Lists.{each_has}
use Rattle.lifecycle.specs.Setup.{Setup, bad_blocks, sound, sound_sizes, widths}

-- both ends of a range
pub in_range : (low high n : ℕ) → within low high n ≡ true → (low ≤ n) × (n ≤ high)
in_range low high n h = (leb-true low n (and_left (leb low n) (leb n high) h), leb-true n high (and_right (leb low n) (leb n high) h))

pub record SoundSizes (z : Sizes) : Type 0 where
  pub symbol : (1 ≤ z.e) × (z.e ≤ largest_symbol)
  pub block : (1 ≤ z.b) × (z.b ≤ largest_block)

pub sizes_told : (z : Sizes) → sound_sizes z ≡ true → SoundSizes z
unfolding sound_sizes
sizes_told z h =
    record {
      symbol = in_range 1 largest_symbol z.e (and_left (within 1 largest_symbol z.e) (within 1 largest_block z.b) h);
      block = in_range 1 largest_block z.b (and_right (within 1 largest_symbol z.e) (within 1 largest_block z.b) h);
    }

-- ---- every number in its range

-- what an accepted set-up passes, but for its priorities and its first FDT id
pub record Passed (s : Setup) : Type 0 where
  pub sessions : within 1 most_sessions (length s.priorities) ≡ true
  pub window : within 1 largest_window s.window ≡ true
  pub sizes : sound_sizes s.sizes ≡ true
  pub object_store : leb s.object_store longest_store ≡ true
  pub fdt_store : leb s.fdt_store longest_store ≡ true
  pub width : has s.width widths ≡ true

module _ (s : Setup) where
  pub passed : sound s ≡ true → Passed s
  unfolding sound
  passed k =
      let a = within 1 most_sessions (length s.priorities) in
      let b = all (λ p. leb p largest_priority) s.priorities in
      let c = within 1 largest_window s.window in
      let d = sound_sizes s.sizes in
      let e = leb s.object_store longest_store in
      let f = leb s.fdt_store longest_store in
      let g = has s.width widths in
      let h = leb s.first_id largest_fdt_id in
      let r7 = and_left (a && b && c && d && e && f && g) h k in
      let r6 = and_left (a && b && c && d && e && f) g r7 in
      let r5 = and_left (a && b && c && d && e) f r6 in
      let r4 = and_left (a && b && c && d) e r5 in
      let r3 = and_left (a && b && c) d r4 in
      record {
        sessions = and_left a b (and_left (a && b) c r3);
        window = and_right (a && b) c r3;
        sizes = and_right (a && b && c) d r4;
        object_store = and_right (a && b && c && d) e r5;
        fdt_store = and_right (a && b && c && d && e) f r6;
        width = and_right (a && b && c && d && e && f) g r7;
      }

  -- one test that fails refuses it
  pub refused_by : {t : Bool} → (sound s ≡ true → t ≡ true) → t ≡ false → sound s ≡ false
  refused_by f q = go (tested (sound s))
    where
      go : Tested (sound s) → sound s ≡ false
      go (pass k) = absurd (false≢true (sym q ∙ f k))
      go (fail k) = k

  passed_id : sound s ≡ true → leb s.first_id largest_fdt_id ≡ true
  unfolding sound
  passed_id k = and_right
      (within 1 most_sessions (length s.priorities) && all (λ p. leb p largest_priority) s.priorities && within 1 largest_window s.window && sound_sizes s.sizes
      && leb s.object_store longest_store && leb s.fdt_store longest_store && has s.width widths) (leb s.first_id largest_fdt_id) k

-- the same as bounds
pub record Told (s : Setup) : Type 0 where
  pub sessions : (1 ≤ length s.priorities) × (length s.priorities ≤ most_sessions)
  pub window : (1 ≤ s.window) × (s.window ≤ largest_window)
  pub sizes : SoundSizes s.sizes
  pub object_store : s.object_store ≤ longest_store
  pub fdt_store : s.fdt_store ≤ longest_store
  pub width : 16 ≤ s.width
  pub first_id : s.first_id ≤ largest_fdt_id

pub told : (s : Setup) → sound s ≡ true → Told s
told s k =
    let p = passed s k in
    record {
      sessions = in_range 1 most_sessions (length s.priorities) p.sessions;
      window = in_range 1 largest_window s.window p.window;
      sizes = sizes_told s.sizes p.sizes;
      object_store = leb-true s.object_store longest_store p.object_store;
      fdt_store = leb-true s.fdt_store longest_store p.fdt_store;
      width = each_has (λ n. 16 ≤ n) s.width widths (omega arith, (omega arith, (omega arith, (omega arith, tt)))) p.width;
      first_id = leb-true s.first_id largest_fdt_id (passed_id s k);
    }

-- ---- refusal 4

-- two tests, the second where the first passes
pub both : {a b x y : Bool} → x ≡ a → x ≡ true → y ≡ b → y ≡ (a && b)
both {a} {b} e t f = f ∙ ap (λ q. q && b) (sym t ∙ e)

pub not_first : (b : Bool) {a x : Bool} → x ≡ a → x ≡ false → x ≡ (a && b)
not_first b e f = f ∙ ap (λ q. q && b) (sym f ∙ e)

-- E or B out of its range, or else the block count
module _ (z : Sizes) (l : ℕ) where
  pub unsound : sound_sizes z ≡ false → bad_blocks z l ≡ true
  unfolding bad_blocks
  unsound e = rw e

  pub blocks_counted : sound_sizes z ≡ true → bad_blocks z l ≡ ltb most_blocks (blocks_of z l).blocks
  unfolding bad_blocks
  blocks_counted e = rw e

-- what refusal 4 leaves: E, B and the block count are in their ranges
pub record SizesTold (z : Sizes) (l : ℕ) : Type 0 where
  pub sizes : SoundSizes z
  pub blocks : (blocks_of z l).blocks ≤ most_blocks

pub blocks_told : (z : Sizes) (l : ℕ) → bad_blocks z l ≡ false → SizesTold z l
unfolding bad_blocks
blocks_told z l e =
    record {
      sizes = sizes_told z (not-false (sound_sizes z) (or_left (not (sound_sizes z)) (ltb most_blocks (blocks_of z l).blocks) e));
      blocks = ltb-false most_blocks (blocks_of z l).blocks (or_right (not (sound_sizes z)) (ltb most_blocks (blocks_of z l).blocks) e);
    }

-- the tests of a set-up, where every priority is in its range
pub sound_tests : (s : Setup) → all (λ p. leb p largest_priority) s.priorities ≡ true → sound s
    ≡ (within 1 most_sessions (length s.priorities) && within 1 largest_window s.window && sound_sizes s.sizes
    && leb s.object_store longest_store && leb s.fdt_store longest_store && has s.width widths && leb s.first_id largest_fdt_id)
unfolding sound
sound_tests s e =
    let a = within 1 most_sessions (length s.priorities) in
    let first : (a && all (λ p. leb p largest_priority) s.priorities) ≡ a = ap (λ b. a && b) e ∙ and-true a in
    ap (λ b. b && within 1 largest_window s.window && sound_sizes s.sizes
    && leb s.object_store longest_store && leb s.fdt_store longest_store && has s.width widths && leb s.first_id largest_fdt_id) first
