-- The desk's numbers and objects, counted on the records: the numbers are the allocator's entries, the objects are the used slots.
use mathlib.Core.Path.{◌≡◌, refl, sym, ◌∙◌, ap}
use mathlib.Core.Bool.{Bool, true, false, not, ◌&&◌, ◌||◌}
use Rattle.std.specs.Prelude.{Option, None, Some}
use mathlib.Core.List.{List, [], ◌∷◌, ◌++◌, map}
use Prim.Native.Nat.{ℕ, suc, ◌+◌, ◌<◌}
use native.Mathlib.Omega.{arith}
use lib.Dec.{eqb, ltb, leb}
use borrow.Author.Tests.{eq-eqb, ltb-true, ltb-false, le-leb, lt-leb}
use lib.ListN.{length, set, get_or, length-map}
use Rattle.sizes.specs.Words.{when◌then◌else◌, maybe, given, collect, place, one_if, times, tally, Counts}
use Rattle.sizes.specs.Limits.{toi_entries, object_slots}
use Rattle.sizes.specs.Toi.{next_toi}
use Rattle.sizes.specs.Allocator as Alloc
use Rattle.sizes.proofs.Tests.{Tested, pass, fail, tested}
use Rattle.sizes.proofs.Lists.{map_append, times_append}
use Rattle.sizes.proofs.Tables.{one_true, map_in, same_length, same_has, inside, other, leaves, counts_length}
use Rattle.sizes.proofs.Collects.{adds, at_inside, collect_set}
use Rattle.sizes.proofs.ToiLaws.{next_same}
use Rattle.sizes.proofs.AllocatorLaws.{held_length, held_noting}
use Rattle.sizes.proofs.AllocatorViews.{held_split, given_next}
use Rattle.lifecycle.specs.Setup.{Setup}
use Rattle.lifecycle.specs.Slots.{no_slot, slot_at, is_free}
use Rattle.lifecycle.specs.FdtCalls.{file_at, waiting, sends, used}
use Rattle.lifecycle.specs.declared.slots.Slot.{Slot}
use Rattle.lifecycle.proofs.FdtViews.{differs, map_two}
use Rattle.lifecycle.proofs.FdtSearches.{free_view}
use Rattle.definition.specs.Session.{Object, Hand}
use Rattle.definition.specs.Desk.{in_hands, objects, numbers, full}
use Rattle.sender.specs.SessionCalls.{object_of, hand_of, session_of}
use Rattle.sender.specs.SenderCalls.{working, desk_of, Agrees, slot_in, ValidSender}
use Rattle.sender.specs.declared.sendersession.SenderSession.{SenderSession}
use Rattle.sender.specs.declared.sender.Sender.{Sender}

-- ---- a list that counts the places of a table that pass has their numbers as often as the table

module _ {A : Type 0} (z : A) (p : A → Bool) (g : A → ℕ) (n : p z ≡ false) where
  -- the number of an element that passes
  abbrev number_in : A → Option ℕ
  number_in a = when p a then Some (g a) else None

  pub counts_times : (m : ℕ) (t : List A) (l : List ℕ) → Counts z p t l → times m (map (λ k. g (get_or t k z)) l) ≡ times m (collect number_in t)
  counts_times m t [] c = sym (nothing t (λ k. c k))
    where
      no : (b : Bool) (k : ℕ) → 0 ≡ one_if b → (when b then Some k else None) ≡ None
      no true k e = absurd (omega arith)
      no false k e = refl

      nothing : (t : List A) → ((k : ℕ) → 0 ≡ one_if (p (get_or t k z))) → times m (collect number_in t) ≡ 0
      nothing [] h = refl
      nothing (a ∷ t) h = rw (no (p a) (g a) (h 0)) (nothing t (λ k. h (suc k)))
  counts_times m t (k ∷ l) c =
      let r = ap one_if (eq-eqb k k refl) in
      let e = c k in
      let y : p (get_or t k z) ≡ true = one_true (p (get_or t k z)) (omega arith) in
      let one = ap one_if y in
      let inn = inside z p t k n y in
      let gone : times k l ≡ 0 = omega arith in
      let h = counts_times m (set t k z) l (leaves z p t k z inn (k ∷ l) l c (λ j. omega arith) n) in
      let f = ap (times m) (map_in (λ j. g (get_or (set t k z) j z)) (λ j. g (get_or t j z)) l (λ j u. ap g (other z t k z j (differs k j l gone u)))) in
      let d = collect_set number_in m t k (get_or t k z) z (at_inside z t k inn) in
      let a : adds m (number_in (get_or t k z)) ≡ one_if (eqb (g (get_or t k z)) m) = rw y in
      let b : adds m (number_in z) ≡ 0 = rw n in omega arith

not_below : (n m : ℕ) → leb m n ≡ not (ltb n m)
not_below n m = go (tested (ltb n m))
  where
    go : Tested (ltb n m) → leb m n ≡ not (ltb n m)
    go (pass e) = lt-leb m n (ltb-true n m e) ∙ sym (ap not e)
    go (fail e) = le-leb m n (ltb-false n m e) ∙ sym (ap not e)

-- ---- the objects

-- the slots of all objects: those that wait, then those in hand
abbrev pub owners : Sender → List ℕ
owners s = waiting s.fdt ++ collect slot_in (working s)

-- the objects in hands are those of the slots in hands
pub hands_view : (t : List Slot) (l : List SenderSession) → in_hands (map (session_of t) l) ≡ map (λ k. object_of (file_at t k)) (collect slot_in l)
unfolding in_hands
hands_view t [] = refl
hands_view t (x ∷ l) = elim x.busy
    as (λ b. maybe (in_hands (map (session_of t) l)) (λ o. o ∷ in_hands (map (session_of t) l))
    (maybe None (λ (h : Hand). Some h.object) (when b then Some (hand_of (slot_at t x.slot) x) else None))
    ≡ map (λ k. object_of (file_at t k)) (maybe (collect slot_in l) (λ k. k ∷ collect slot_in l) (when b then Some x.slot else None)))
    [ true ↦ ap (λ r. object_of (file_at t x.slot) ∷ r) (hands_view t l) | false ↦ hands_view t l ]

pub objects_view : (s : Sender) → objects (desk_of s) ≡ map (λ k. object_of (file_at s.fdt.slots k)) (owners s)
unfolding objects desk_of
objects_view s =
    let g : ℕ → Object = λ k. object_of (file_at s.fdt.slots k) in
    let a : map object_of (map (file_at s.fdt.slots) (waiting s.fdt)) ≡ map g (waiting s.fdt) = sym (map_two g (file_at s.fdt.slots) object_of (waiting s.fdt) (λ k u. refl)) in
    (λ i. a i ++ hands_view s.fdt.slots (working s) i) ∙ sym (map_append g (waiting s.fdt) (collect slot_in (working s)))

module _ (s : Sender) (v : ValidSender s) where
  -- each used slot has one owner
  pub owners_used : Counts no_slot used s.fdt.slots (owners s)
  owners_used k =
      let y = slot_at s.fdt.slots k in
      let a = times_append k (waiting s.fdt) (collect slot_in (working s)) in
      let b = v.holds.valid.in_queue k in
      let c = v.in_hand k in
      let d = sum y.listed (sends y) in omega arith
    where
      sum : (a b : Bool) → one_if (a || b) ≡ one_if (a && not b) + one_if b
      sum true true = refl
      sum true false = refl
      sum false true = refl
      sum false false = refl

  pub objects_length : length (objects (desk_of s)) ≡ tally used s.fdt.slots
  objects_length =
      ap length (objects_view s) ∙ length-map (owners s) (λ k. object_of (file_at s.fdt.slots k)) ∙ counts_length no_slot used s.fdt.slots (owners s) refl owners_used

  -- refusal 7: no slot is free
  pub full_slots : leb object_slots (length (objects (desk_of s))) ≡ not (given (place is_free s.fdt.slots))
  full_slots = ap (leb object_slots) objects_length ∙ not_below (tally used s.fdt.slots) object_slots ∙ sym (ap not (free_view s.fdt v.holds.valid))

  -- ---- the numbers

  -- each number is held as often as the allocator has it
  pub numbers_view : (n : ℕ) → times n (numbers (desk_of s)) ≡ times n (Alloc.held s.fdt.tois)
  unfolding numbers desk_of
  numbers_view n =
      let toi : Object → ℕ = λ o. o.toi in
      let g : ℕ → Object = λ k. object_of (file_at s.fdt.slots k) in
      let a = times_append n (Alloc.loose s.fdt.tois) (map toi (objects (desk_of s))) in
      let b = ap (λ l. times n (map toi l)) (objects_view s) in
      let c = ap (times n) (map_two (λ k. (file_at s.fdt.slots k).toi) g toi (owners s) (λ k u. refl)) in
      let d = counts_times no_slot used (λ (y : Slot). y.file.toi) refl n s.fdt.slots (owners s) owners_used in
      let e = v.holds.valid.owned n in
      let f = held_split s.fdt.tois n in omega arith

  pub numbers_length : length (numbers (desk_of s)) ≡ s.fdt.tois.entered
  numbers_length = same_length (numbers (desk_of s)) (Alloc.held s.fdt.tois) numbers_view ∙ held_length s.fdt.tois v.holds.valid.tois

  -- refusal 7: no entry is free
  pub full_view : full (desk_of s) ≡ not (ltb s.fdt.tois.entered toi_entries)
  unfolding full
  full_view = ap (leb toi_entries) numbers_length ∙ not_below s.fdt.tois.entered toi_entries

  -- the next number, once the stored one is noted
  pub next_view : (u : Setup) → Agrees u s → (flag : Bool) → s.fdt.tois.entered < toi_entries
      → next_toi u.width (s.fdt.tois.next ∷ numbers (desk_of s)) s.fdt.tois.next ≡ (Alloc.moved_on (Alloc.noting flag s.fdt.tois)).next
  next_view u w flag h =
      let a = s.fdt.tois in
      let same : (n : ℕ) → times n (a.next ∷ numbers (desk_of s)) ≡ times n (Alloc.held (Alloc.noting flag a)) = λ n. (
      let b = numbers_view n in
      let c = ap (times n) (held_noting a v.holds.valid.tois flag h) in
      let d = times_append n (Alloc.held a) (a.next ∷ []) in omega arith) in
      ap (λ k. next_toi k (a.next ∷ numbers (desk_of s)) a.next) w.width
      ∙ next_same a.width (a.next ∷ numbers (desk_of s)) (Alloc.held (Alloc.noting flag a)) a.next
      (same_length (a.next ∷ numbers (desk_of s)) (Alloc.held (Alloc.noting flag a)) same) (λ m. same_has m (a.next ∷ numbers (desk_of s)) (Alloc.held (Alloc.noting flag a)) (same m))
      ∙ sym (given_next flag a)
