-- What each step of the encoder is for the definition: filling the window, a drained block leaving, a symbol read, an empty object.
use mathlib.Core.Path.{◌≡◌, refl, sym, ◌∙◌, ap, ap₂}
use mathlib.Core.Bool.{Bool, true, false, not, ◌&&◌, ◌||◌}
use Rattle.std.specs.Prelude.{Option, None, Some}
use mathlib.Core.List.{List, [], ◌∷◌, ◌++◌, map, append-nil}
use Prim.Native.Nat.{ℕ, zero, suc, ◌+◌, ◌-◌, ◌*◌, ◌<◌, min}
use native.Mathlib.Omega.{arith}
use native.Mathlib.Numerals.{add-one}
use lib.Dec.{ltb, eqb, leb}
use borrow.Author.Tests.{leb-false, ltb-true, lt-ltb}
use lib.ListN.{length, set, take, length-map, length-set}
use lib.Seq.{append_snoc, length-take-le, get_or-take, get_or-set_other, take-set-lt, take-suc-set}
use Rattle.sizes.specs.Words.{when◌then◌else◌, all, over, at, cut}
use Rattle.sizes.specs.Partition.{sbn, esi, symbols_in, first_symbol}
use Rattle.sizes.specs.declared.partition.Partition.{Partition}
use Rattle.sizes.proofs.Tests.{and_left, and_right}
use Rattle.sizes.proofs.Lists.{map_set, map_append, map_cut, at_map}
use Rattle.sizes.proofs.Arrays.{take_shut}
use Rattle.sizes.proofs.Collects.{at_inside}
use Rattle.definition.specs.Encoder as Def
use Rattle.sender.specs.EncoderCalls.{Read, open_said, opened_blocks, encoder_of, symbol_said, emitted_said, no_open, open_at, is_empty, ValidEncoder, has_room, one_opened, blocks_opened, filled_of, place_to_visit, stuck, without_of, offset_of, last_of, next_symbol, visit_of, moved_of, emptied_of}
use Rattle.sender.specs.declared.block.Open.{Open}
use Rattle.sender.specs.declared.blockencoder.BlockEncoder.{BlockEncoder}
use Rattle.sender.proofs.EncoderLaws.{room_told, missing, missing_less, missing_room, inside_set, valid_one, place_inside}

-- ---- the open blocks

module _ (x : BlockEncoder) (v : ValidEncoder x) where
  -- as many are open as the record says
  pub taken_count : length (take x.filled x.window) ≡ x.filled
  taken_count = length-take-le x.filled x.window (omega arith)

  pub open_count : length (opened_blocks x) ≡ x.filled
  open_count = length-map (take x.filled x.window) open_said ∙ taken_count

  pub taken_at : (i : ℕ) → i < x.filled → at (take x.filled x.window) i ≡ Some (open_at x i)
  taken_at i h = at_inside no_open (take x.filled x.window) i (let c = taken_count in omega arith) ∙ ap Some (get_or-take x.filled x.window i no_open h)

  pub open_view : (i : ℕ) → i < x.filled → at (opened_blocks x) i ≡ Some (open_said (open_at x i))
  open_view i h = at_map open_said (take x.filled x.window) i ∙ ap (over open_said) (taken_at i h)

  -- the place to visit is the definition's
  pub place_view : place_to_visit x ≡ Def.wrapped (encoder_of x)
  unfolding place_to_visit Def.wrapped
  place_view = ap (λ n. when ltb x.index n then x.index else 0) (sym open_count)

-- with no block open there is none at any place
pub open_none : (x : BlockEncoder) → x.filled ≡ 0 → (i : ℕ) → at (opened_blocks x) i ≡ None
open_none x e i = ap (λ n. at (map open_said (take n x.window)) i) e

pub drained_view : (p : Partition) (o : Open) → Def.drained p (open_said o) ≡ is_empty p o
unfolding Def.drained is_empty
drained_view p o = refl

-- ---- filling

-- the block that is opened next
abbrev pub new_open : BlockEncoder → Open
new_open x = record { sbn = x.next; esi = esi 0 }

-- the same with other open blocks, for the definition
abbrev seen : BlockEncoder → ℕ → List Def.Open → Def.Encoder
seen x n l = record { closable = x.closable; next = sbn n; window = l; index = x.index; begun = x.begun; stopped = x.stopped }

module _ (x : BlockEncoder) (v : ValidEncoder x) (e : has_room x ≡ true) where
  pub one_taken : take (one_opened x).filled (one_opened x).window ≡ take x.filled x.window ++ (new_open x ∷ [])
  unfolding one_opened
  one_taken = rw (add-one x.filled) (take-suc-set x.window x.filled (new_open x) (let r = room_told x e in omega arith))

  one_view : opened_blocks (one_opened x) ≡ opened_blocks x ++ (open_said (new_open x) ∷ [])
  one_view = ap (map open_said) one_taken ∙ map_append open_said (take x.filled x.window) (new_open x ∷ [])

opened_view : (n : ℕ) (x : BlockEncoder) → ValidEncoder x → n ≡ missing x → encoder_of (blocks_opened n x) ≡ seen x (x.next.0 + n) (opened_blocks x ++ Def.opened x.next.0 n)
unfolding one_opened
opened_view zero x v e = ap₂ (seen x) (omega arith) (sym (append-nil (opened_blocks x)))
opened_view (suc n) x v e =
    let r = missing_room x n e in
    let m = missing_less x r in
    opened_view n (one_opened x) (valid_one x v r) (omega arith)
    ∙ ap₂ (seen x) (omega arith) ((λ i. one_view x v r i ++ Def.opened (add-one x.next.0 i) n) ∙ append_snoc (opened_blocks x) (open_said (new_open x)) (Def.opened (suc x.next.0) n))

pub fill_view : (x : BlockEncoder) → ValidEncoder x → encoder_of (filled_of x) ≡ Def.fill x.width x.content.partition (encoder_of x)
unfolding filled_of Def.fill
fill_view x v =
    opened_view (missing x) x v refl
    ∙ ap (λ n. let m = min (x.width - n) (x.content.partition.blocks - x.next.0) in seen x (x.next.0 + m) (opened_blocks x ++ Def.opened x.next.0 m)) (sym (open_count x v))

-- ---- a drained block leaves

module _ (x : BlockEncoder) (v : ValidEncoder x) (h : 0 < x.filled) where
  pub without_taken : take (without_of x).filled (without_of x).window ≡ cut (take x.filled x.window) (place_to_visit x)
  unfolding without_of
  without_taken = take_shut no_open x.window (place_to_visit x) x.filled (place_inside x h) (omega arith)

  pub without_view : encoder_of (without_of x) ≡ Def.without (encoder_of x) (place_to_visit x)
  unfolding without_of Def.without
  without_view =
      ap (λ (l : List Def.Open). record { closable = x.closable; next = x.next; window = l; index = place_to_visit x; begun = x.begun; stopped = x.stopped })
      (ap (map open_said) without_taken ∙ map_cut open_said (take x.filled x.window) (place_to_visit x))

-- ---- a symbol is read

-- the block to visit
abbrev pub visited : BlockEncoder → Open
visited x = open_at x (place_to_visit x)

pub visited_view : (x : BlockEncoder) → ValidEncoder x → 0 < x.filled → at (opened_blocks x) (place_to_visit x) ≡ Some (open_said (visited x))
visited_view x v h = open_view x v (place_to_visit x) (place_inside x h)

-- the encoder after its symbol, for the definition
abbrev pub after : BlockEncoder → Def.Encoder
after x = Def.advanced (encoder_of x) (place_to_visit x) (open_said (visited x))

-- it has a symbol left exactly where the encoder is not stuck
pub free_visited : (x : BlockEncoder) → 0 < x.filled → stuck x ≡ false → is_empty x.content.partition (visited x) ≡ false
unfolding stuck
free_visited x h e = ap (λ b. b && is_empty x.content.partition (visited x)) (sym (lt-ltb 0 x.filled h)) ∙ e

pub visited_stuck : (x : BlockEncoder) → 0 < x.filled → (o : Open) → o ≡ visited x → (b : Bool) → is_empty x.content.partition o ≡ b → stuck x ≡ b
unfolding stuck
visited_stuck x h o q b e = ap (λ t. t && is_empty x.content.partition (visited x)) (lt-ltb 0 x.filled h) ∙ ap (is_empty x.content.partition) (sym q) ∙ e

pub stuck_some : (x : BlockEncoder) → stuck x ≡ true → 0 < x.filled
unfolding stuck
stuck_some x e = ltb-true 0 x.filled (and_left (ltb 0 x.filled) (is_empty x.content.partition (visited x)) e)

pub stuck_visited : (x : BlockEncoder) → stuck x ≡ true → is_empty x.content.partition (visited x) ≡ true
unfolding stuck
stuck_visited x e = and_right (ltb 0 x.filled) (is_empty x.content.partition (visited x)) e

all_map : {A B : Type 0} (ok : B → Bool) (f : A → B) (l : List A) → all ok (map f l) ≡ all (λ a. ok (f a)) l
all_map ok f [] = refl
all_map ok f (a ∷ l) = ap (λ b. ok (f a) && b) (all_map ok f l)

module _ (x : BlockEncoder) (v : ValidEncoder x) (h : 0 < x.filled) (force : Bool) where
  moved_window : map open_said (take x.filled (set x.window (place_to_visit x) (next_symbol (visited x)))) ≡ (after x).window
  unfolding Def.advanced
  moved_window =
      let o = visited x in
      ap (map open_said) (take-set-lt x.filled x.window (place_to_visit x) (next_symbol o) (place_inside x h))
      ∙ map_set open_said (take x.filled x.window) (place_to_visit x) (next_symbol o)
      ∙ ap (λ n. set (opened_blocks x) (place_to_visit x) (record { block = o.sbn; symbol = esi n })) (add-one o.esi.0)

  pub moved_view : encoder_of (moved_of x (visit_of force x)) ≡ after x
  unfolding moved_of visit_of Def.advanced
  moved_view = λ i. record { closable = x.closable; next = x.next; window = moved_window i; index = add-one (place_to_visit x) i; begun = true; stopped = x.stopped }

  pub symbol_view : symbol_said (visit_of force x).symbol ≡ Def.symbol_of x.content.part x.content.sizes force (open_said (visited x)) (after x)
  unfolding visit_of offset_of last_of is_empty Def.symbol_of Def.nothing_left Def.drained Def.advanced
  symbol_view = (λ i. F x.content.partition (closes i)) ∙ ap (λ p. F p (all (Def.drained p) (after x).window)) v.content.cut
    where
      F : Partition → Bool → Def.Symbol
      F p b =
          let o = visited x in let c = x.content in
          let from = (first_symbol p o.sbn + o.esi.0) * c.sizes.e in record {
            block = o.sbn;
            symbol = o.esi;
            symbols = symbols_in p o.sbn;
            payload = record { start = c.part.start + from; size = min c.sizes.e (c.part.size - from) };
            transfer_length = c.part.size;
            close = force || (x.closable && (leb p.blocks x.next.0 && b));
          }

      closes : all (is_empty x.content.partition) (take x.filled (set x.window (place_to_visit x) (next_symbol (visited x)))) ≡ all (Def.drained x.content.partition) (after x).window
      closes =
          sym (all_map (Def.drained x.content.partition) open_said (take x.filled (set x.window (place_to_visit x) (next_symbol (visited x)))))
          ∙ ap (all (Def.drained x.content.partition)) moved_window

  pub valid_moved : stuck x ≡ false → ValidEncoder (moved_of x (visit_of force x))
  unfolding moved_of visit_of is_empty
  valid_moved e =
      let i = place_to_visit x in
      let o = visited x in
      let k = place_inside x h in
      let more = leb-false (symbols_in x.content.partition o.sbn) o.esi.0 (free_visited x h e) in
      record {
        content = v.content;
        narrow = v.narrow;
        filled = v.filled;
        next = v.next;
        long = length-set x.window i (next_symbol o) ∙ v.long;
        each = λ j g. inside_set x.content x.window i (next_symbol o) (omega arith) (record { block = (v.each i k).block; symbol = omega arith }) j (λ n. v.each j g);
        clear = λ j g. get_or-set_other x.window i j (next_symbol o) no_open (λ q. absurd (omega arith)) ∙ v.clear j g;
      }

-- ---- with no block open

-- what a read says, and the encoder after it
abbrev pub said : Read → Option Def.Symbol × Def.Encoder
said r = (emitted_said r.answer, encoder_of r.encoder)

pub if_both : {A B : Type 0} (f : A → B) (b : Bool) {a a' : A} {c c' : B} → f a ≡ c → f a' ≡ c' → f (when b then a else a') ≡ (when b then c else c')
if_both f true p q = p
if_both f false p q = q

pub emptied_view : (x : BlockEncoder) → said (emptied_of x) ≡ Def.emptied x.content.part (encoder_of x)
unfolding emptied_of Def.emptied
emptied_view x = if_both said (x.begun || not (eqb x.content.part.size 0)) refl refl

-- whether a packet was sent and whether one was forced is free
pub valid_flags : (x : BlockEncoder) → ValidEncoder x → (begun stopped : Bool) → ValidEncoder (record { content = x.content; width = x.width; closable = x.closable; begun = begun; stopped = stopped; next = x.next; filled = x.filled; index = x.index; window = x.window })
valid_flags x v begun stopped = record { content = v.content; narrow = v.narrow; filled = v.filled; next = v.next; long = v.long; each = v.each; clear = v.clear }
