-- How many open blocks have no symbol left, and so how many leave before one is read.
use mathlib.Core.Logic.{inr, ⊎_elim}
use mathlib.Core.Path.{◌≡◌, refl, sym, ◌∙◌, ap, subst}
use mathlib.Core.Bool.{Bool, true, false}
use Rattle.std.specs.Prelude.{Some}
use mathlib.Core.List.{List, [], ◌∷◌, ◌++◌}
use Prim.Native.Nat.{ℕ, zero, suc, ◌+◌, ◌≤◌, ◌<◌}
use native.Mathlib.Omega.{arith}
use borrow.Author.Tests.{lt-leb}
use lib.ListN.{length, take}
use Rattle.sizes.specs.Words.{when◌then◌else◌, at, cut, one_if, tally}
use Rattle.sizes.specs.Partition.{symbols_in}
use Rattle.sizes.specs.declared.numbers.Sbn.{Sbn}
use Rattle.sizes.specs.declared.partition.Partition.{Partition}
use Rattle.sizes.proofs.Tests.{none≢some, if_on}
use Rattle.sizes.proofs.Arithmetic.{below_or}
use Rattle.sizes.proofs.Tables.{tally_le}
use Rattle.sizes.proofs.PartitionLaws.{parted, empty_exactly}
use Rattle.lifecycle.proofs.SetupLaws.{blocks_told}
use Rattle.sender.specs.EncoderCalls.{opened_blocks, is_empty, Sound, ValidEncoder, has_room, one_opened, filled_of, place_to_visit, stuck, without_of, drained_count, settled, ready_of}
use Rattle.sender.specs.declared.blockencoder.Content.{Content}
use Rattle.sender.specs.declared.blockencoder.BlockEncoder.{BlockEncoder}
use Rattle.sender.proofs.EncoderLaws.{room_told, filled_keeps, valid_one, valid_filled, place_inside, valid_without}
use Rattle.sender.proofs.EncoderViews.{taken_count, taken_at, open_count, new_open, one_taken, without_taken, visited, stuck_some, stuck_visited}

-- ---- counts of lists

module _ {A : Type 0} (p : A → Bool) where
  tally_append : (a b : List A) → tally p (a ++ b) ≡ tally p a + tally p b
  tally_append [] b = omega arith
  tally_append (x ∷ a) b = let h = tally_append a b in omega arith

  -- one place left out
  tally_cut : (l : List A) (i : ℕ) (a : A) → at l i ≡ Some a → tally p l ≡ one_if (p a) + tally p (cut l i)
  tally_cut [] i a e = absurd (none≢some e)
  tally_cut (b ∷ l) zero a e = let s : b ≡ a = cc in let c = ap (λ x. one_if (p x)) s in omega arith
  tally_cut (b ∷ l) (suc i) a e = let h = tally_cut l i a e in omega arith

-- ---- a block of the object has at least one symbol

pub some_symbol : (c : Content) → Sound c → (k : Sbn) → k.0 < c.partition.blocks → 1 ≤ symbols_in c.partition k
some_symbol c s k = subst (λ (p : Partition). k.0 < p.blocks → 1 ≤ symbols_in p k) (sym s.cut) (λ h.
    let z = c.sizes in
    let l = c.part.size in
    let t = (blocks_told z l s.sizes).sizes in
    let l0 : 0 < l = ⊎_elim (λ g. g) (λ g. absurd (omega (arith, ((empty_exactly z.b l z.e).1 (inr (inr (omega arith)))).blocks))) (below_or 0 l) in
    (parted z.b l z.e t.block.0 t.symbol.0).none_empty l0 k)

-- ---- the drained blocks among the open ones

pub count_most : (x : BlockEncoder) → ValidEncoder x → drained_count x ≤ length (opened_blocks x)
count_most x v =
    let a = tally_le (is_empty x.content.partition) (take x.filled x.window) in
    let b = taken_count x v in
    let c = open_count x v in omega arith

-- a block that is opened is not drained
pub count_one : (x : BlockEncoder) → ValidEncoder x → has_room x ≡ true → drained_count (one_opened x) ≡ drained_count x
unfolding one_opened is_empty
count_one x v e =
    let p = x.content.partition in
    let l = take x.filled x.window in
    let a = ap (tally (is_empty p)) (one_taken x v e) in
    let b = tally_append (is_empty p) l (new_open x ∷ []) in
    let c = ap one_if (lt-leb (symbols_in p x.next) 0 (some_symbol x.content v.content x.next (room_told x e).next)) in
    omega arith

pub count_filled : (x : BlockEncoder) → ValidEncoder x → drained_count (filled_of x) ≡ drained_count x
count_filled x v = (filled_keeps (λ y. ValidEncoder y × (drained_count y ≡ drained_count x)) (λ y e h. (valid_one y h.0 e, count_one y h.0 e ∙ h.1)) x (v, refl)).1

-- a drained block that leaves is one less
pub count_without : (x : BlockEncoder) → ValidEncoder x → stuck x ≡ true → drained_count x ≡ suc (drained_count (without_of x))
unfolding without_of
count_without x v e =
    let p = x.content.partition in
    let h = stuck_some x e in
    let l = take x.filled x.window in
    let a = tally_cut (is_empty p) l (place_to_visit x) (visited x) (taken_at x v (place_to_visit x) (place_inside x h)) in
    let b = ap one_if (stuck_visited x e) in
    let c = ap (tally (is_empty p)) (without_taken x v h) in
    omega arith

pub count_less : (x : BlockEncoder) → ValidEncoder x → stuck x ≡ true → drained_count x ≡ suc (drained_count (filled_of (without_of x)))
count_less x v e = count_without x v e ∙ ap suc (sym (count_filled (without_of x) (valid_without x v (stuck_some x e))))

-- ---- drained blocks leave

pub valid_next : (x : BlockEncoder) → ValidEncoder x → stuck x ≡ true → ValidEncoder (filled_of (without_of x))
valid_next x v e = valid_filled (without_of x) (valid_without x v (stuck_some x e))

pub settled_more : (x : BlockEncoder) → ValidEncoder x → stuck x ≡ true → settled (drained_count x) x ≡ settled (drained_count (filled_of (without_of x))) (filled_of (without_of x))
settled_more x v e =
    let y = filled_of (without_of x) in
    ap (λ n. settled n x) (count_less x v e) ∙ ap (λ b. when b then settled (drained_count y) y else x) e

pub settled_end : (x : BlockEncoder) → stuck x ≡ false → (n : ℕ) → settled n x ≡ x
settled_end x e zero = refl
settled_end x e (suc n) = ap (λ b. when b then settled n (filled_of (without_of x)) else x) e

-- what each leaving keeps holds in the end
pub settled_keeps : (P : BlockEncoder → Type 0) → ((x : BlockEncoder) → stuck x ≡ true → P x → P (filled_of (without_of x))) → (n : ℕ) (x : BlockEncoder) → P x → P (settled n x)
settled_keeps P step zero x p = p
settled_keeps P step (suc n) x p = if_on P (stuck x) (λ e. settled_keeps P step n (filled_of (without_of x)) (step x e p)) (λ e. p)

pub valid_settled : (n : ℕ) (x : BlockEncoder) → ValidEncoder x → ValidEncoder (settled n x)
valid_settled = settled_keeps ValidEncoder (λ x e v. valid_next x v e)

-- and the block to visit then has a symbol left
pub settled_free : (x : BlockEncoder) → ValidEncoder x → stuck (settled (drained_count x) x) ≡ false
settled_free x v = go (drained_count x) x v refl
  where
    go : (n : ℕ) (x : BlockEncoder) → ValidEncoder x → n ≡ drained_count x → stuck (settled n x) ≡ false
    go zero x v h = if_false (stuck x) (λ e. let c = count_less x v e in absurd (omega arith))
      where
        if_false : (b : Bool) → (b ≡ true → ⊥) → b ≡ false
        if_false true f = absurd (f refl)
        if_false false f = refl
    go (suc n) x v h = if_on (λ y. stuck y ≡ false) (stuck x) (λ e. go n (filled_of (without_of x)) (valid_next x v e) (let c = count_less x v e in omega arith)) (λ e. e)

-- ---- the window is ready

-- what no opening and no leaving changes
pub record Kept (x y : BlockEncoder) : Type 0 where
  pub content : y.content ≡ x.content
  pub width : y.width ≡ x.width
  pub closable : y.closable ≡ x.closable
  pub begun : y.begun ≡ x.begun
  pub stopped : y.stopped ≡ x.stopped

kept_same : (x : BlockEncoder) → Kept x x
kept_same x = record { content = refl; width = refl; closable = refl; begun = refl; stopped = refl }

kept_one : (x y : BlockEncoder) → Kept x y → Kept x (one_opened y)
unfolding one_opened
kept_one x y k = record { content = k.content; width = k.width; closable = k.closable; begun = k.begun; stopped = k.stopped }

kept_without : (x y : BlockEncoder) → Kept x y → Kept x (without_of y)
unfolding without_of
kept_without x y k = record { content = k.content; width = k.width; closable = k.closable; begun = k.begun; stopped = k.stopped }

kept_filled : (x y : BlockEncoder) → Kept x y → Kept x (filled_of y)
kept_filled x = filled_keeps (Kept x) (λ y e k. kept_one x y k)

pub filled_kept : (x : BlockEncoder) → Kept x (filled_of x)
filled_kept x = kept_filled x x (kept_same x)

pub ready_kept : (x : BlockEncoder) → Kept x (ready_of x)
unfolding ready_of
ready_kept x = settled_keeps (Kept x) (λ y e k. kept_filled x (without_of y) (kept_without x y k)) (drained_count (filled_of x)) (filled_of x) (filled_kept x)

pub ready_content : (x : BlockEncoder) → (ready_of x).content ≡ x.content
ready_content x = (ready_kept x).content

pub valid_ready : (x : BlockEncoder) → ValidEncoder x → ValidEncoder (ready_of x)
unfolding ready_of
valid_ready x v = valid_settled (drained_count (filled_of x)) (filled_of x) (valid_filled x v)

pub ready_free : (x : BlockEncoder) → ValidEncoder x → stuck (ready_of x) ≡ false
unfolding ready_of
ready_free x v = settled_free (filled_of x) (valid_filled x v)

-- what taking drained blocks out is proved by
pub ruleset draining = (stuck_some, valid_filled, valid_without, valid_next, count_less, settled_more, settled_end)
