-- The searches over the slots, read off the objects that wait and the slots in transfer.
use mathlib.Core.Path.{◌≡◌, refl, sym, ◌∙◌, ap, subst}
use mathlib.Core.Bool.{Bool, true, false, not, ◌&&◌, ◌||◌}
use Rattle.std.specs.Prelude.{Some}
use mathlib.Core.List.{List, [], ◌∷◌}
use Prim.Native.Nat.{ℕ, suc, ◌+◌}
use native.Mathlib.Omega.{arith}
use lib.Dec.{eqb, ltb}
use borrow.Author.Tests.{lt-ltb, le-ltb, not-false}
use Rattle.sizes.specs.Words.{given, any, at, place, one_if, tally}
use Rattle.sizes.specs.Limits.{object_slots}
use Rattle.sizes.proofs.Lists.{Sought, hit, miss, sought, at_get, found_none}
use Rattle.sizes.proofs.Tables.{find_any, tally_all, tally_lt, any_counts}
use Rattle.lifecycle.specs.Parts.{shares, past_store}
use Rattle.lifecycle.specs.Slots.{no_slot, slot_at, is_free, is_listed_as, holds_byte}
use Rattle.lifecycle.specs.FdtCalls.{waiting, files, sends, used, waits, Tidy, ValidFdt, bad_part_of, is_added_of}
use Rattle.lifecycle.specs.declared.parts.Part.{Part}
use Rattle.lifecycle.specs.declared.filedesc.FileDesc.{FileDesc}
use Rattle.lifecycle.specs.declared.slots.Slot.{Slot}
use Rattle.lifecycle.specs.declared.fdt.Fdt.{Fdt}
use Rattle.lifecycle.proofs.FdtFacts.{free_at}

-- a slot is free exactly if it is not used
pub free_used : (y : Slot) → Tidy y → is_free y ≡ not (used y)
unfolding is_free
free_used y t = ap (λ n. eqb n 0) t.count ∙ sum y.listed (sends y)
  where
    sum : (a b : Bool) → eqb (one_if a + one_if b) 0 ≡ not (a || b)
    sum true true = refl
    sum true false = refl
    sum false true = refl
    sum false false = refl

-- ---- a test over the slots

-- two tests that say the same of each slot
any_same : (p q : Slot → Bool) (t : List Slot) → ((k : ℕ) → p (slot_at t k) ≡ q (slot_at t k)) → any p t ≡ any q t
any_same p q [] h = refl
any_same p q (y ∷ t) h = λ i. h 0 i || any_same p q t (λ k. h (suc k)) i

-- a held object waits or is in transfer
any_split : (ok : Slot → Bool) (t : List Slot) → any (λ y. used y && ok y) t ≡ (any (λ y. waits y && ok y) t || any (λ y. sends y && ok y) t)
any_split ok [] = refl
any_split ok (y ∷ t) = ap (λ b. (used y && ok y) || b) (any_split ok t) ∙ sort y.listed (sends y) (ok y) (any (λ y. waits y && ok y) t) (any (λ y. sends y && ok y) t)
  where
    sort : (l s o b c : Bool) → (((l || s) && o) || (b || c)) ≡ ((((l && not s) && o) || b) || ((s && o) || c))
    sort true true true true c = refl
    sort true true true false c = refl
    sort true true false b c = refl
    sort true false true b c = refl
    sort true false false b c = refl
    sort false true true true c = refl
    sort false true true false c = refl
    sort false true false b c = refl
    sort false false o b c = refl

module _ (f : Fdt) (v : ValidFdt f) where
  -- those that wait are the objects in the queue
  any_waiting : (ok : FileDesc → Bool) → any (λ (y : Slot). waits y && ok y.file) f.slots ≡ any ok (files f)
  any_waiting ok = sym (any_counts no_slot waits f.slots (waiting f) refl v.in_queue ok (λ (y : Slot). y.file))

  -- does a held object share a byte with the part
  bytes_used : (c : Part) → any (holds_byte c) f.slots ≡ any (λ (y : Slot). used y && shares c y.file.part) f.slots
  unfolding holds_byte
  bytes_used c = any_same (holds_byte c) (λ (y : Slot). used y && shares c y.file.part) f.slots
      (λ k. let y = slot_at f.slots k in ap (λ b. not b && shares c y.file.part) (free_used y (v.tidy k)) ∙ ap (λ b. b && shares c y.file.part) (twice (used y)))
    where
      twice : (b : Bool) → not (not b) ≡ b
      twice true = refl
      twice false = refl

  -- refusal 5: past the store, or a byte shared with a held object
  pub bad_part_used : (c : Part) → bad_part_of f c ≡ (past_store f.settings.object_store c || any (λ (y : Slot). used y && shares c y.file.part) f.slots)
  unfolding bad_part_of
  bad_part_used c = ap (λ b. past_store f.settings.object_store c || b) (bytes_used c)

  -- is there a listed object with the number: one that waits, or a listed one in transfer
  pub added_said : (t : ℕ) → is_added_of t f ≡ (any (λ (o : FileDesc). eqb o.toi t) (files f) || any (λ (y : Slot). sends y && is_listed_as t y) f.slots)
  unfolding is_added_of is_listed_as
  added_said t =
      found_any (is_listed_as t) f.slots
      ∙ any_same (is_listed_as t) (λ y. used y && is_listed_as t y) f.slots (λ k. let y = slot_at f.slots k in more y.listed (sends y) (eqb y.file.toi t))
      ∙ any_split (is_listed_as t) f.slots
      ∙ ap (λ b. b || any (λ (y : Slot). sends y && is_listed_as t y) f.slots)
      (any_same (λ y. waits y && is_listed_as t y) (λ y. waits y && eqb y.file.toi t) f.slots (λ k. let y = slot_at f.slots k in less y.listed (sends y) (eqb y.file.toi t))
      ∙ any_waiting (λ (o : FileDesc). eqb o.toi t))
    where
      found_any : {A : Type 0} (ok : A → Bool) (l : List A) → given (place ok l) ≡ any ok l
      found_any ok l = go (sought ok l)
        where
          go : Sought ok l → given (place ok l) ≡ any ok l
          go (hit n a h) = ap given h.found ∙ sym (sym (find_any ok l) ∙ ap given h.first)
          go (miss p u) = ap given p ∙ sym (sym (find_any ok l) ∙ ap given (found_none ok l p).0)

      more : (l s o : Bool) → (l && o) ≡ ((l || s) && (l && o))
      more true s o = refl
      more false true o = refl
      more false false o = refl

      less : (l s o : Bool) → ((l && not s) && (l && o)) ≡ ((l && not s) && o)
      less true s o = refl
      less false s o = refl

  -- ---- how many

  -- no slot is free exactly if all are used
  pub free_view : given (place is_free f.slots) ≡ ltb (tally used f.slots) object_slots
  free_view = go (sought is_free f.slots)
    where
      taken : ((i : ℕ) (y : Slot) → at f.slots i ≡ Some y → is_free y ≡ false) → (i : ℕ) (y : Slot) → at f.slots i ≡ Some y → used y ≡ true
      taken u i y e =
          let t : Tidy y = subst Tidy (at_get no_slot f.slots i y e).0 (v.tidy i) in
          not-false (used y) (sym (free_used y t) ∙ u i y e)

      go : Sought is_free f.slots → given (place is_free f.slots) ≡ ltb (tally used f.slots) object_slots
      go (hit k y h) = (
          let a = free_at f v k h.found in
          let b = tally_lt no_slot used f.slots k a.0 a.1.unused in
          ap given h.found ∙ sym (lt-ltb (tally used f.slots) object_slots (let c = v.slots_long in omega arith)))
      go (miss p u) = (
          let b = tally_all used f.slots (taken u) in
          ap given p ∙ sym (le-ltb (tally used f.slots) object_slots (let c = v.slots_long in omega arith)))
