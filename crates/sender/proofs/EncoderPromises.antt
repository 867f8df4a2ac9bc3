-- What specs/EncoderPromises says of each packet holds; and a new encoder is one of its object.
use mathlib.Core.Path.{◌≡◌, refl, sym, ap, subst}
use mathlib.Core.Bool.{Bool, false, not, ◌||◌}
use Rattle.std.specs.Prelude.{Option, None, Some}
use Prim.Native.Nat.{ℕ, zero, suc, ◌+◌, ◌≤◌, ◌<◌}
use native.Mathlib.Nat.{mul-le-mul_right, one-mul}
use native.Mathlib.Omega.{arith}
use lib.Dec.{eqb}
use lib.ListN.{get_or, replicate}
use borrow.Author.Tests.{eqb-true, eqb-false, not-false}
use Rattle.sizes.specs.Limits.{largest_window}
use Rattle.sizes.specs.Partition.{symbols_of}
use Rattle.sizes.specs.declared.partition.Sizes.{Sizes}
use Rattle.sizes.proofs.Tests.{none≢some, or_right, if_on}
use Rattle.sizes.proofs.Arithmetic.{one_more}
use Rattle.sizes.proofs.PartitionLaws.{parted_bytes}
use Rattle.lifecycle.specs.declared.parts.Part.{Part}
use Rattle.definition.specs.Encoder as Def
use Rattle.sender.specs.EncoderCalls.{Read, Sound, ValidEncoder, no_open, encoder_of, new_of, place_to_visit, stuck, ready_of, offset_of, visit_of, emptied_of, stopping_of, emitted_of, read_of}
use Rattle.sender.specs.EncoderPromises.{OfBlock, Shown, Carried, named}
use Rattle.sender.specs.declared.blockencoder.Content.{Content}
use Rattle.sender.specs.declared.blockencoder.BlockEncoder.{BlockEncoder}
use Rattle.sender.specs.declared.blockencoder.Symbol.{Symbol}
use Rattle.sender.proofs.EncoderLaws.{place_inside}
use Rattle.sender.proofs.EncoderViews.{free_visited, valid_flags}
use Rattle.sender.proofs.EncoderCounts.{ready_content, valid_ready, ready_free}
use Rattle.sender.proofs.Offsets.{told, rank, offset_early}

-- ---- what a packet shows

-- the symbol that was given, or else another
abbrev symbol_or : Symbol → Option Symbol → Symbol
symbol_or z (Some s) = s
symbol_or z None = z

-- whatever symbol a read gives is shown so
abbrev Shows : Content → Read → Type 0
Shows c r = (s : Symbol) → r.answer ≡ Some s → Shown c s

silent : (c : Content) (x : BlockEncoder) → Shows c (record { answer = None; encoder = x })
silent c x s e = absurd (none≢some e)

emptied_shows : (x : BlockEncoder) → Shows x.content (emptied_of x)
unfolding emptied_of
emptied_shows x = if_on (Shows x.content) (x.begun || not (eqb x.content.part.size 0))
    (λ h. silent x.content x)
    (λ h s e. Shown.of_nothing (record {
      empty = eqb-true x.content.part.size 0 (not-false (eqb x.content.part.size 0) (or_right x.begun (not (eqb x.content.part.size 0)) h));
      shown = sym (ap (symbol_or s) e);
    }))

visit_shows : (force : Bool) (x : BlockEncoder) → ValidEncoder x → 0 < x.filled → stuck x ≡ false → Shown x.content (visit_of force x).symbol
unfolding visit_of
visit_shows force x v h e = Shown.of_block (record {
  inside = v.each (place_to_visit x) (place_inside x h);
  left = free_visited x h e;
  symbols = refl;
  payload = refl;
  transfer_length = refl;
})

emitted_shows : (force : Bool) (x : BlockEncoder) → ValidEncoder x → stuck x ≡ false → Shows x.content (emitted_of force x)
unfolding emitted_of
emitted_shows force x v f = if_on (Shows x.content) (eqb x.filled 0)
    (λ h. emptied_shows x)
    (λ h s e. subst (Shown x.content) (ap (symbol_or s) e) (visit_shows force x v (let n = eqb-false x.filled 0 h in omega arith) f))

pub read_shows : (force : Bool) (x : BlockEncoder) → ValidEncoder x → Shows x.content (read_of force x)
unfolding read_of
read_shows force x v = if_on (Shows x.content) x.stopped
    (λ h. silent x.content x)
    (λ h.
    let y = stopping_of force x in
    let u = valid_flags x v x.begun force in
    subst (λ c. Shows c (emitted_of force (ready_of y))) (ready_content y) (emitted_shows force (ready_of y) (valid_ready y u) (ready_free y u)))

-- ---- what it carries

module _ (c : Content) (k : Sound c) (s : Symbol) where
  block_carried : OfBlock c s → Carried c s
  unfolding offset_of
  block_carried b =
      let o = offset_early c k (named s) b.inside b.left in
      let z = ap (λ p. p.size) b.payload in
      let f = ap (λ p. p.start) b.payload in
      let t = (told c k).sizes.symbol.0 in
      let p = parted_bytes c.sizes.b c.part.size c.sizes.e (told c k).sizes.block.0 t in
      record {
        after_start = omega arith;
        before_end = omega arith;
        at_most = omega arith;
        full = λ h. (
            let m = mul-le-mul_right c.sizes.e h in
            let a = one_more (rank c k (named s) b.inside) c.sizes.e in
            let d = one_more (rank c k (named s) b.inside + 1) c.sizes.e in
            let q = p.all_symbols in
            let r = p.short in
            omega arith);
        some_bytes = λ h. omega arith;
      }

  pub carried : Shown c s → Carried c s
  carried (Shown.of_block b) = block_carried b
  carried (Shown.of_nothing n) =
      let e = n.shown in
      let z = ap (λ t. t.payload.size) e in
      let f = ap (λ t. t.payload.start) e in
      let t = (told c k).sizes.symbol.0 in
      let p = parted_bytes c.sizes.b c.part.size c.sizes.e (told c k).sizes.block.0 t in
      record {
        after_start = omega arith;
        before_end = omega arith;
        at_most = omega arith;
        full = λ h. (
            let m = mul-le-mul_right c.sizes.e (let r : 1 ≤ symbols_of c.part.size c.sizes.e = omega arith in r) in
            let a = one-mul c.sizes.e in
            let q = p.all_symbols in
            let r = p.short in
            let g = n.empty in absurd (omega arith));
        some_bytes = λ h. let g = n.empty in absurd (omega arith);
      }

-- ---- a new encoder

pub new_sound : (c : Part) (z : Sizes) (w : ℕ) (closable : Bool) → Sound (new_of c z w closable).content → w ≤ largest_window → ValidEncoder (new_of c z w closable)
unfolding new_of
new_sound c z w closable s n =
    record {
      content = s;
      narrow = n;
      filled = omega arith;
      next = omega arith;
      long = refl;
      each = λ i h. absurd (omega arith);
      clear = λ i h. blank i largest_window;
    }
  where
    blank : (i n : ℕ) → get_or (replicate n no_open) i no_open ≡ no_open
    blank i zero = refl
    blank zero (suc n) = refl
    blank (suc i) (suc n) = blank i n

pub new_view : (c : Part) (z : Sizes) (w : ℕ) (closable : Bool) → encoder_of (new_of c z w closable) ≡ Def.fresh closable
unfolding new_of
new_view c z w closable = refl
