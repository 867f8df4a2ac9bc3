-- A read of the encoder is the definition's read.
use mathlib.Core.Path.{◌≡◌, refl, sym, ◌∙◌, ap, subst}
use mathlib.Core.Bool.{Bool, true, false, not, ◌&&◌, ◌||◌, and-false}
use Rattle.std.specs.Prelude.{Option, None, Some}
use mathlib.Core.List.{List, [], ◌∷◌}
use Prim.Native.Nat.{ℕ, zero, suc, ◌+◌, ◌≤◌, ◌<◌}
use native.Mathlib.Omega.{arith}
use lib.Dec.{eqb, ltb}
use borrow.Author.Tests.{eqb-true, eqb-false, ne_eqb, le-ltb, lt-leb, ltb-true, not-true}
use lib.ListN.{length, take, set}
use Rattle.sizes.specs.Words.{when◌then◌else◌, maybe, at, all}
use Rattle.sizes.specs.Limits.{largest_block}
use Rattle.sizes.specs.Partition.{blocks_of, symbols_in}
use Rattle.sizes.specs.declared.partition.Partition.{Partition}
use Rattle.sizes.proofs.Tests.{Tested, pass, fail, tested, and_left, and_right, if_on}
use Rattle.definition.specs.Encoder as Def
use Rattle.sender.specs.EncoderCalls.{Read, open_said, opened_blocks, encoder_of, is_empty, ValidEncoder, has_room, filled_of, place_to_visit, stuck, without_of, drained_count, settled, ready_of, last_of, next_symbol, closes_of, shown_of, visit_of, goes_on, midway, glance_of, moved_of, emptied_of, stopping_of, emitted_of, read_of, read_said, Reads, Steps}
use Rattle.sender.specs.declared.block.Open.{Open}
use Rattle.sender.specs.declared.blockencoder.Content.{Content}
use Rattle.sender.specs.declared.blockencoder.BlockEncoder.{BlockEncoder}
use Rattle.sender.specs.declared.blockencoder.Visit.{Visit}
use Rattle.sender.proofs.Offsets.{few, left, esi_small}
use Rattle.sender.proofs.EncoderLaws.{filled_none, valid_filled, valid_without, place_inside, place_low}
use Rattle.sender.proofs.EncoderViews.{place_view, open_none, drained_view, fill_view, without_view, visited, visited_view, free_visited, stuck_some, stuck_visited, moved_view, symbol_view, valid_moved, said, emptied_view, valid_flags}
use Rattle.sender.proofs.EncoderCounts.{count_most, count_filled, count_without, settled_more, settled_end, filled_kept, ready_kept, valid_ready, ready_free}

-- with no block open none is stuck
stuck_none : (x : BlockEncoder) → x.filled ≡ 0 → stuck x ≡ false
unfolding stuck
stuck_none x e = ap (λ b. b && is_empty x.content.partition (visited x)) (le-ltb 0 x.filled (omega arith))

-- the two cases of what a window that is ready gives
pub emitted_none : (force : Bool) (x : BlockEncoder) → eqb x.filled 0 ≡ true → emitted_of force x ≡ emptied_of x
unfolding emitted_of
emitted_none force x e = rw e

pub emitted_some : (force : Bool) (x : BlockEncoder) → eqb x.filled 0 ≡ false → emitted_of force x ≡ record { answer = Some (visit_of force x).symbol; encoder = moved_of x (visit_of force x) }
unfolding emitted_of
emitted_some force x e = rw e

-- ---- one turn of the definition's visit, once the window is filled

module _ (k : ℕ) (force : Bool) where
  -- k turns of it
  abbrev visits : ℕ → Content → Def.Encoder → Option Def.Symbol × Def.Encoder
  visits w c y = Def.visit k w c.part c.sizes force y

  -- k turns come to what the encoder does
  abbrev Visits : BlockEncoder → Type 0
  Visits x = visits x.width x.content (encoder_of x) ≡ said (emitted_of force (ready_of x))

  -- a block is drained and leaves, or gives a symbol
  abbrev chosen : ℕ → Content → Def.Encoder → ℕ → Def.Open → Bool → Option Def.Symbol × Def.Encoder
  chosen w c y i o b = when b then visits w c (Def.without y i) else (Some (Def.symbol_of c.part c.sizes force o (Def.advanced y i o)), Def.advanced y i o)

  -- the block to visit has been looked up
  abbrev looked : ℕ → Content → Def.Encoder → ℕ → Option Def.Open → Option Def.Symbol × Def.Encoder
  looked w c y i = maybe (Def.emptied c.part y) (λ o. chosen w c y i o (Def.drained (blocks_of c.sizes c.part.size) o))

  abbrev turn : ℕ → Content → Def.Encoder → Option Def.Symbol × Def.Encoder
  turn w c y = looked w c y (Def.wrapped y) (at y.window (Def.wrapped y))

  -- a turn comes to what the encoder does from a filled window
  abbrev Turns : BlockEncoder → Type 0
  Turns x = turn x.width x.content (encoder_of x) ≡ said (emitted_of force (settled (drained_count x) x))

  module _ (x : BlockEncoder) (v : ValidEncoder x) where
    turn_none : eqb x.filled 0 ≡ true → Turns x
    turn_none e =
        let z = eqb-true x.filled 0 e in
        ap (looked x.width x.content (encoder_of x) (Def.wrapped (encoder_of x))) (open_none x z (Def.wrapped (encoder_of x)))
        ∙ sym (emptied_view x)
        ∙ ap said (sym (emitted_none force x e))
        ∙ ap (λ y. said (emitted_of force y)) (sym (settled_end x (stuck_none x z) (drained_count x)))

    module _ (h : 0 < x.filled) where
      -- the definition looks at the same block, and sees it drained where the encoder does
      turn_some : (b : Bool) → is_empty x.content.partition (visited x) ≡ b → turn x.width x.content (encoder_of x) ≡ chosen x.width x.content (encoder_of x) (place_to_visit x) (open_said (visited x)) b
      turn_some b e =
          ap (λ i. looked x.width x.content (encoder_of x) i (at (opened_blocks x) i)) (sym (place_view x v))
          ∙ ap (looked x.width x.content (encoder_of x) (place_to_visit x)) (visited_view x v h)
          ∙ ap (λ (p : Partition). chosen x.width x.content (encoder_of x) (place_to_visit x) (open_said (visited x)) (Def.drained p (open_said (visited x)))) (sym v.content.cut)
          ∙ ap (chosen x.width x.content (encoder_of x) (place_to_visit x) (open_said (visited x))) (drained_view x.content.partition (visited x) ∙ e)

      turn_free : stuck x ≡ false → Turns x
      turn_free e =
          turn_some false (free_visited x h e)
          ∙ sym (λ i. (Some (symbol_view x v h force i), moved_view x v h force i))
          ∙ ap said (sym (emitted_some force x (ne_eqb x.filled 0 (λ q. absurd (omega arith)))))
          ∙ ap (λ y. said (emitted_of force y)) (sym (settled_end x e (drained_count x)))

      turn_stuck : stuck x ≡ true → drained_count x ≤ k → ((y : BlockEncoder) → ValidEncoder y → drained_count y < k → Visits y) → Turns x
      unfolding without_of ready_of
      turn_stuck e g again =
          turn_some true (stuck_visited x e)
          ∙ ap (visits x.width x.content) (sym (without_view x v h))
          ∙ again (without_of x) (valid_without x v h) (let c = count_without x v e in omega arith)
          ∙ ap (λ y. said (emitted_of force y)) (sym (settled_more x v e))

    turn_view : drained_count x ≤ k → ((y : BlockEncoder) → ValidEncoder y → drained_count y < k → Visits y) → Turns x
    turn_view g again = go (tested (eqb x.filled 0)) (tested (stuck x))
      where
        go : Tested (eqb x.filled 0) → Tested (stuck x) → Turns x
        go (pass e) s = turn_none e
        go (fail e) (pass s) = turn_stuck (stuck_some x s) s g again
        go (fail e) (fail s) = let n = eqb-false x.filled 0 e in turn_free (omega arith) s

-- ---- the whole visit

visit_all : (k : ℕ) (force : Bool) (x : BlockEncoder) → ValidEncoder x → drained_count x < k → Visits k force x
unfolding Def.visit ready_of
visit_all zero force x v h = absurd (omega arith)
visit_all (suc k) force x v h =
    let y = filled_of x in
    let s = filled_kept x in
    ap (λ (p : Partition). turn k force x.width x.content (Def.fill x.width p (encoder_of x))) (sym v.content.cut)
    ∙ ap (turn k force x.width x.content) (sym (fill_view x v))
    ∙ sym (λ i. turn k force (s.width i) (s.content i) (encoder_of y))
    ∙ turn_view k force y (valid_filled x v) (let c = count_filled x v in omega arith) (λ z u g. visit_all k force z u g)

-- a turn for each drained block and one more are enough
pub visit_view : (force : Bool) (x : BlockEncoder) → ValidEncoder x → (k : ℕ) → drained_count x ≤ k
    → Def.visit (suc k) x.width x.content.part x.content.sizes force (encoder_of x) ≡ said (emitted_of force (ready_of x))
visit_view force x v k h = visit_all (suc k) force x v (omega arith)

-- ---- a read

-- the same transfer goes on
record Goes (x y : BlockEncoder) : Type 0 where
  content : y.content ≡ x.content
  width : y.width ≡ x.width
  valid : ValidEncoder y

emitted_goes : (force : Bool) (x : BlockEncoder) → ValidEncoder x → stuck x ≡ false → Goes x (emitted_of force x).encoder
unfolding emitted_of emptied_of moved_of
emitted_goes force x v s = if_on (λ (r : Read). Goes x r.encoder) (eqb x.filled 0)
    (λ e. if_on (λ (r : Read). Goes x r.encoder) (x.begun || not (eqb x.content.part.size 0))
    (λ f. record { content = refl; width = refl; valid = v })
    (λ f. record { content = refl; width = refl; valid = valid_flags x v true x.stopped }))
    (λ e. record { content = refl; width = refl; valid = valid_moved x v (let n = eqb-false x.filled 0 e in omega arith) force s })

module _ (force : Bool) (x : BlockEncoder) where
  -- after a forced read there is nothing
  read_stopped : x.stopped ≡ true → read_said force x ≡ (None, encoder_of x)
  unfolding Def.read
  read_stopped e = rw e

  read_begins : x.stopped ≡ false → read_said force x ≡ visits (suc (length (opened_blocks x))) force x.width x.content (encoder_of (stopping_of force x))
  unfolding Def.read Def.stopping
  read_begins e = rw e

  -- the encoder's read is the definition's, and the encoder stays one of its object
  pub read_means : ValidEncoder x → Reads force x (read_of force x)
  unfolding read_of
  read_means v = if_on (Reads force x) x.stopped
      (λ e. record {
        exact = rw e;
        said = ap (λ p. p.0) (sym (read_stopped e));
        next = ap (λ p. p.1) (sym (read_stopped e));
        content = refl;
        width = refl;
        valid = v;
      })
      (λ e.
      let y = stopping_of force x in
      let u : ValidEncoder y = valid_flags x v x.begun force in
      let g = emitted_goes force (ready_of y) (valid_ready y u) (ready_free y u) in
      let m = read_begins e ∙ visit_view force y u (length (opened_blocks x)) (count_most x v) in
      record {
        exact = rw e;
        said = ap (λ p. p.0) (sym m);
        next = ap (λ p. p.1) (sym m);
        content = g.content ∙ (ready_kept y).content;
        width = g.width ∙ (ready_kept y).width;
        valid = g.valid;
      })

  -- the two cases of a read
  pub read_ended : x.stopped ≡ true → read_of force x ≡ record { answer = None; encoder = x }
  unfolding read_of
  read_ended e = rw e

  pub read_goes : x.stopped ≡ false → read_of force x ≡ emitted_of force (ready_of (stopping_of force x))
  unfolding read_of
  read_goes e = rw e

-- the block that is read is an open one, and its next symbol's number fits
pub visit_fits : (force : Bool) (x : BlockEncoder) → ValidEncoder x → 0 < x.filled → stuck x ≡ false → ((visit_of force x).place < x.filled) × ((visit_of force x).symbol.esi.0 < largest_block)
unfolding visit_of
visit_fits force x v h e =
    let i = place_inside x h in
    let a = v.each (place_to_visit x) i in
    (i, omega (arith, left x.content v.content (visited x) a (free_visited x h e), few x.content v.content (visited x) a))

-- ---- a read in the middle of a transfer

-- what the test of it tells
pub record Midway (x : BlockEncoder) : Type 0 where
  pub going : x.stopped ≡ false
  pub begun : x.begun ≡ true
  pub full : has_room x ≡ false
  pub filled : 0 < x.filled
  pub free : stuck x ≡ false
  pub more : goes_on x ≡ true

pub midway_told : (x : BlockEncoder) → midway x ≡ true → Midway x
unfolding midway
midway_told x e =
    let a = not x.stopped in
    let b = a && x.begun in
    let c = b && not (has_room x) in
    let d = c && not (eqb x.filled 0) in
    let f = d && not (stuck x) in
    let ef = and_left f (goes_on x) e in
    let ed = and_left d (not (stuck x)) ef in
    let ec = and_left c (not (eqb x.filled 0)) ed in
    let eb = and_left b (not (has_room x)) ec in
    record {
      going = not-true x.stopped (and_left a x.begun eb);
      begun = and_right a x.begun eb;
      full = not-true (has_room x) (and_right b (not (has_room x)) ec);
      filled = let n = eqb-false x.filled 0 (not-true (eqb x.filled 0) (and_right c (not (eqb x.filled 0)) ed)) in omega arith;
      free = not-true (stuck x) (and_right d (not (stuck x)) ef);
      more = and_right f (goes_on x) e;
    }

-- one place that does not pass
all_but : {A : Type 0} (ok : A → Bool) (l : List A) (n i : ℕ) (a : A) → i < n → i < length l → ok a ≡ false → all ok (take n (set l i a)) ≡ false
all_but ok [] n i a h g e = absurd (omega arith)
all_but ok (b ∷ l) zero i a h g e = absurd (omega arith)
all_but ok (b ∷ l) (suc n) zero a h g e = rw e
all_but ok (b ∷ l) (suc n) (suc i) a h g e = rw (all_but ok l n i a (omega arith) (omega arith) e, and-false)

module _ (x : BlockEncoder) (v : ValidEncoder x) (m : Midway x) where
  abbrev p : Partition
  p = x.content.partition

  abbrev o : Open
  o = visited x

  -- something remains after the symbol
  remains : last_of x (place_to_visit x) (next_symbol o) ≡ false
  unfolding last_of is_empty
  remains = go (tested (ltb x.next.0 p.blocks))
    where
      go : Tested (ltb x.next.0 p.blocks) → last_of x (place_to_visit x) (next_symbol o) ≡ false
      go (pass e) = rw (lt-leb p.blocks x.next.0 (ltb-true x.next.0 p.blocks e))
      go (fail e) =
          let h = place_inside x m.filled in
          let more = ltb-true (o.esi.0 + 1) (symbols_in p o.sbn) (rw e at m.more) in
          let full : is_empty p (next_symbol o) ≡ false = lt-leb (symbols_in p o.sbn) (o.esi.0 + 1) more in
          let inn : place_to_visit x < length x.window = let a = v.filled in let b = v.narrow in let d = v.long in omega arith in
          rw (all_but (is_empty p) x.window x.filled (place_to_visit x) (next_symbol o) h inn full, and-false)

  -- so it closes nothing
  stays_open : closes_of false x (place_to_visit x) o ≡ false
  stays_open = rw (remains, and-false)

  -- nothing is opened or removed
  ready_same : ready_of x ≡ x
  unfolding ready_of
  ready_same = ap (λ y. settled (drained_count y) y) (filled_none x m.full) ∙ settled_end x m.free (drained_count x)

  midway_read : read_of false x ≡ record { answer = Some (visit_of false x).symbol; encoder = moved_of x (visit_of false x) }
  midway_read = read_goes false x m.going ∙ ap (λ b. emitted_of false (ready_of (stopping_of b x))) (sym m.going) ∙ ap (emitted_of false) ready_same ∙ emitted_some false x (ne_eqb x.filled 0 (λ q. let h = m.filled in absurd (omega arith)))

  pub midway_visit : visit_of false x ≡ shown_of x.content (place_to_visit x) o false
  unfolding visit_of
  midway_visit = rw stays_open

  pub midway_steps : Steps x (visit_of false x)
  unfolding visit_of
  midway_steps = let f = visit_fits false x v m.filled m.free in record { read = midway_read; begun = m.begun; place = f.0; block = refl; symbol = f.1; close = stays_open }

-- what a glance tells of the read
pub glance_steps : (x : BlockEncoder) → ValidEncoder x → (s : Visit) → glance_of x ≡ Some s → Steps x s
unfolding glance_of
glance_steps x v s = if_on (λ g. g ≡ Some s → Steps x s) (midway x)
    (λ e q. subst (Steps x) (cc) (midway_steps x v (midway_told x e)))
    (λ e q. absurd (let z : ◌≡◌ {A = ℕ} 0 1 = cc in omega arith))

-- what a visit, and what a read, is proved by
pub ruleset visiting = (place_low, place_inside, free_visited, esi_small, midway_told, midway_visit)

pub ruleset reading = (visit_fits, valid_flags, valid_ready, ready_free)
