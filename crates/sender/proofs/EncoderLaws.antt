-- What filling the window and taking a block out of it keep, and when the window is full.
use mathlib.Core.Logic.{⊎_elim}
use mathlib.Core.Path.{◌≡◌, refl, sym, ◌∙◌, ap, subst}
use mathlib.Core.Bool.{Bool, true, false, ◌&&◌, true≢false}
use mathlib.Core.List.{List, [], ◌∷◌}
use Prim.Native.Nat.{ℕ, zero, suc, ◌-◌, ◌≤◌, ◌<◌, min}
use native.Mathlib.Omega.{arith}
use lib.Dec.{ltb, eqb}
use borrow.Author.Tests.{ltb-true, ltb-false, le-ltb, lt-ltb, eqb-true, eqb-false}
use lib.ListN.{length, set, get_or, length-set}
use lib.Seq.{get_or-set_same, get_or-set_other}
use Rattle.sizes.specs.Words.{when◌then◌else◌, shut}
use Rattle.sizes.specs.Partition.{esi}
use Rattle.sizes.proofs.Tests.{Tested, pass, fail, tested, and_left, and_right}
use Rattle.sizes.proofs.Arithmetic.{below_or}
use Rattle.sizes.proofs.Arrays.{getD_shut, length_shut}
use Rattle.sender.specs.EncoderCalls.{Inside, ValidEncoder, no_open, has_room, one_opened, blocks_opened, filled_of, place_to_visit, without_of}
use Rattle.sender.specs.declared.block.Open.{Open}
use Rattle.sender.specs.declared.blockencoder.Content.{Content}
use Rattle.sender.specs.declared.blockencoder.BlockEncoder.{BlockEncoder}

-- there is room exactly where fewer blocks are open than may be, and one is left to open
pub record Room (x : BlockEncoder) : Type 0 where
  pub filled : x.filled < x.width
  pub next : x.next.0 < x.content.partition.blocks

pub room_told : (x : BlockEncoder) → has_room x ≡ true → Room x
unfolding has_room
room_told x e =
    let a = ltb x.filled x.width in
    let b = ltb x.next.0 x.content.partition.blocks in
    record { filled = ltb-true x.filled x.width (and_left a b e); next = ltb-true x.next.0 x.content.partition.blocks (and_right a b e) }

-- how many blocks filling opens
abbrev pub missing : BlockEncoder → ℕ
missing x = min (x.width - x.filled) (x.content.partition.blocks - x.next.0)

pub room_none : (x : BlockEncoder) → has_room x ≡ false → missing x ≡ 0
unfolding has_room
room_none x e = go (tested (ltb x.filled x.width)) (tested (ltb x.next.0 x.content.partition.blocks))
  where
    go : Tested (ltb x.filled x.width) → Tested (ltb x.next.0 x.content.partition.blocks) → missing x ≡ 0
    go (pass a) (pass b) = absurd (true≢false (sym (λ i. a i && b i) ∙ e))
    go (pass a) (fail b) = let h = ltb-false x.next.0 x.content.partition.blocks b in omega arith
    go (fail a) q = let h = ltb-false x.filled x.width a in omega arith

pub no_room : (x : BlockEncoder) → missing x ≡ 0 → has_room x ≡ false
unfolding has_room
no_room x e = ⊎_elim
    (λ (h : x.filled < x.width). and_none (ltb x.filled x.width) (le-ltb x.next.0 x.content.partition.blocks (omega arith)))
    (λ (h : x.width ≤ x.filled). ap (λ b. b && ltb x.next.0 x.content.partition.blocks) (le-ltb x.filled x.width h))
    (below_or x.filled x.width)
  where
    and_none : (a : Bool) {b : Bool} → b ≡ false → (a && b) ≡ false
    and_none true e = e
    and_none false e = refl

-- one block less is missing once one is opened
pub missing_less : (x : BlockEncoder) → has_room x ≡ true → missing x ≡ suc (missing (one_opened x))
unfolding one_opened
missing_less x e = let r = room_told x e in omega arith

pub missing_room : (x : BlockEncoder) (n : ℕ) → suc n ≡ missing x → has_room x ≡ true
unfolding has_room
missing_room x n e = (λ i. lt-ltb x.filled x.width (omega arith) i && lt-ltb x.next.0 x.content.partition.blocks (omega arith) i)

-- ---- opening goes on until there is no room

pub filled_more : (x : BlockEncoder) → has_room x ≡ true → filled_of (one_opened x) ≡ filled_of x
unfolding filled_of
filled_more x e = sym (ap (λ n. blocks_opened n x) (missing_less x e))

pub filled_none : (x : BlockEncoder) → has_room x ≡ false → filled_of x ≡ x
unfolding filled_of
filled_none x e = ap (λ n. blocks_opened n x) (room_none x e)

-- what each opening keeps holds of the filled window
opened_keeps : (P : BlockEncoder → Type 0) → ((x : BlockEncoder) → has_room x ≡ true → P x → P (one_opened x)) → (n : ℕ) (x : BlockEncoder) → n ≡ missing x → P x → P (blocks_opened n x)
opened_keeps P step zero x e p = p
opened_keeps P step (suc n) x e p =
    let r = missing_room x n e in
    let m = missing_less x r in
    opened_keeps P step n (one_opened x) (omega arith) (step x r p)

pub filled_keeps : (P : BlockEncoder → Type 0) → ((x : BlockEncoder) → has_room x ≡ true → P x → P (one_opened x)) → (x : BlockEncoder) → P x → P (filled_of x)
unfolding filled_of
filled_keeps P step x p = opened_keeps P step (missing x) x refl p

-- ---- what stays an encoder of its object

-- a place is set to a block of what is sent, and the others are such blocks
pub inside_set : (c : Content) (l : List Open) (k : ℕ) (o : Open) → k < length l → Inside c o → (i : ℕ) → ((i ≡ k → ⊥) → Inside c (get_or l i no_open)) → Inside c (get_or (set l k o) i no_open)
inside_set c l k o inn new i old = go (tested (eqb i k))
  where
    go : Tested (eqb i k) → Inside c (get_or (set l k o) i no_open)
    go (pass q) = subst (λ j. Inside c (get_or (set l k o) j no_open)) (sym (eqb-true i k q)) (subst (Inside c) (sym (get_or-set_same l k o no_open inn)) new)
    go (fail q) = let n = eqb-false i k q in subst (Inside c) (sym (get_or-set_other l k i o no_open n)) (old n)

pub valid_one : (x : BlockEncoder) → ValidEncoder x → has_room x ≡ true → ValidEncoder (one_opened x)
unfolding one_opened
valid_one x v e =
    let r = room_told x e in
    let o : Open = record { sbn = x.next; esi = esi 0 } in
    record {
      content = v.content;
      narrow = v.narrow;
      filled = omega arith;
      next = omega arith;
      long = length-set x.window x.filled o ∙ v.long;
      each = λ i h. inside_set x.content x.window x.filled o (omega arith) (record { block = r.next; symbol = omega arith }) i (λ n. v.each i (omega arith));
      clear = λ i h. get_or-set_other x.window x.filled i o no_open (λ q. absurd (omega arith)) ∙ v.clear i (omega arith);
    }

pub valid_filled : (x : BlockEncoder) → ValidEncoder x → ValidEncoder (filled_of x)
valid_filled = filled_keeps ValidEncoder (λ x e v. valid_one x v e)

-- the place to visit is an open block's, where there is one
pub place_inside : (x : BlockEncoder) → 0 < x.filled → place_to_visit x < x.filled
unfolding place_to_visit
place_inside x h = go (tested (ltb x.index x.filled))
  where
    go : Tested (ltb x.index x.filled) → (when ltb x.index x.filled then x.index else 0) < x.filled
    go (pass e) = rw e (ltb-true x.index x.filled e)
    go (fail e) = rw e h

-- and a place of the window in any case
pub place_low : (x : BlockEncoder) → ValidEncoder x → place_to_visit x < 16
unfolding place_to_visit
place_low x v = go (tested (ltb x.index x.filled))
  where
    go : Tested (ltb x.index x.filled) → (when ltb x.index x.filled then x.index else 0) < 16
    go (pass e) = rw e (let h = ltb-true x.index x.filled e in let a = v.filled in let b = v.narrow in omega arith)
    go (fail e) = rw e (omega arith)

-- a place before the one that is left out
getD_before : {A : Type 0} (z : A) (l : List A) (i j : ℕ) → j < i → get_or (shut z l i) j z ≡ get_or l j z
getD_before z [] i zero h = refl
getD_before z [] i (suc j) h = refl
getD_before z (a ∷ l) zero j h = absurd (omega arith)
getD_before z (a ∷ l) (suc i) zero h = refl
getD_before z (a ∷ l) (suc i) (suc j) h = getD_before z l i j (omega arith)

pub valid_without : (x : BlockEncoder) → ValidEncoder x → 0 < x.filled → ValidEncoder (without_of x)
unfolding without_of
valid_without x v h =
    let k = place_inside x h in
    let inn : place_to_visit x < length x.window = omega arith in
    record {
      content = v.content;
      narrow = v.narrow;
      filled = omega arith;
      next = v.next;
      long = length_shut no_open x.window (place_to_visit x) inn ∙ v.long;
      each = λ i g. ⊎_elim
          (λ (q : i < place_to_visit x). subst (Inside x.content) (sym (getD_before no_open x.window (place_to_visit x) i q)) (v.each i (omega arith)))
          (λ (q : place_to_visit x ≤ i). subst (Inside x.content) (sym (getD_shut no_open x.window (place_to_visit x) i q)) (v.each (suc i) (omega arith)))
          (below_or i (place_to_visit x));
      clear = λ i g. getD_shut no_open x.window (place_to_visit x) i (omega arith) ∙ v.clear (suc i) (omega arith);
    }

-- what filling the window is proved by
pub ruleset filling = (valid_one, missing_less, filled_more, filled_none)
