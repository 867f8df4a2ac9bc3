-- Laws of refusal tables, whatever their rows: a request that splits or moves a row edits the two lists of rows here, and no law.
use mathlib.Core.Path.{◌≡◌, refl, sym, ◌∙◌}
use mathlib.Core.Bool.{Bool, true, false, true≢false}
use Rattle.std.specs.Prelude.{Option, None, Some}
use mathlib.Core.List.{List, [], ◌∷◌, ◌++◌}
use Prim.Native.Nat.{ℕ}
use Rattle.sizes.specs.Words.{when◌then◌else◌, first_of, Each}
use Rattle.sizes.specs.declared.refusal.Refusal.{Refusal}
use Rattle.sizes.specs.declared.refusal.Refusal.TheVariants as Because
use Rattle.sizes.proofs.Lists.{first_none}
use Rattle.lifecycle.specs.Setup.{Setup, bad_blocks}
use Rattle.definition.specs.Desk.{Desk, Request, own_sizes, no_session, bad_object_part, not_loose, no_room, add_refusal}
use Rattle.definition.specs.Apart.{bars}

-- the rows of an add that demand 3's premise does not bar, and those that it bars
abbrev pub early_rows : Setup → Desk → Request → List (Refusal × Bool)
early_rows s d q = (Because.NoPriority, no_session d q.priority) ∷ (Because.Complete, d.complete) ∷ (Because.Sizes, bad_blocks (own_sizes s q) q.part.size) ∷ []

abbrev pub late_rows : Setup → Desk → Option ℕ → Request → List (Refusal × Bool)
late_rows s d named q = (Because.Part, bad_object_part s d q.part) ∷ (Because.NotLoose, not_loose d named) ∷ (Because.Full, no_room d named) ∷ []

-- why an add is refused on a desk that has only the priority's calls
unfoldable pub early_refusal : Setup → Desk → Request → Option Refusal
early_refusal s d q = first_of (early_rows s d q)

-- is it a barred refusal
abbrev pub late_no : Option Refusal → Bool
late_no None = false
late_no (Some why) = bars why

abbrev Fails : Refusal × Bool → Type 0
Fails r = r.1 ≡ false

-- a table that gives nothing: no row holds
rows_fail : (l : List (Refusal × Bool)) → first_of l ≡ None → Each Fails l
rows_fail [] e = tt
rows_fail (r ∷ l) e = let k = first_none r.0 r.1 l e in (k.0, rows_fail l k.1)

fail_late : (b : List (Refusal × Bool)) → Each Fails b → late_no (first_of b) ≡ false
fail_late [] u = refl
fail_late (r ∷ b) u = rw u.0 (fail_late b u.1)

-- barred rows that do not show do not hold
barred_none : (b : List (Refusal × Bool)) → Each (λ (r : Refusal × Bool). bars r.0 ≡ true) b → late_no (first_of b) ≡ false → first_of b ≡ None
barred_none [] k h = refl
barred_none (r ∷ b) k h = (elim r.1 as (λ t. late_no (when t then Some r.0 else first_of b) ≡ false → (when t then Some r.0 else first_of b) ≡ None)
    [ true ↦ λ h. absurd (true≢false (sym k.0 ∙ h)) | false ↦ λ h. barred_none b k.1 h ]) h

rows_early : (a b : List (Refusal × Bool)) → Each (λ (r : Refusal × Bool). bars r.0 ≡ true) b → late_no (first_of (a ++ b)) ≡ false → first_of (a ++ b) ≡ first_of a
rows_early [] b k h = barred_none b k h
rows_early (r ∷ a) b k h = (elim r.1 as (λ t. late_no (when t then Some r.0 else first_of (a ++ b)) ≡ false → (when t then Some r.0 else first_of (a ++ b)) ≡ (when t then Some r.0 else first_of a))
    [ true ↦ λ h. refl | false ↦ λ h. rows_early a b k h ]) h

rows_unreached : (a b : List (Refusal × Bool)) → Each (λ (r : Refusal × Bool). bars r.0 ≡ false) a → (first_of a ≡ None → Each Fails b) → late_no (first_of (a ++ b)) ≡ false
rows_unreached [] b k h = fail_late b (h refl)
rows_unreached (r ∷ a) b k h = (elim r.1 as (λ t. ((when t then Some r.0 else first_of a) ≡ None → Each Fails b) → late_no (when t then Some r.0 else first_of (a ++ b)) ≡ false)
    [ true ↦ λ h. k.0 | false ↦ λ h. rows_unreached a b k.1 h ]) h

-- ---- of an add

-- one that is not refused passes every row
pub add_fails : (s : Setup) (d : Desk) (named : Option ℕ) (q : Request) → add_refusal s d named q ≡ None → Each Fails (early_rows s d q ++ late_rows s d named q)
unfolding add_refusal
add_fails s d named q e = rows_fail (early_rows s d q ++ late_rows s d named q) e

-- one that is not barred is refused by an early row, or not at all
pub add_early : (s : Setup) (d : Desk) (named : Option ℕ) (q : Request) → late_no (add_refusal s d named q) ≡ false → add_refusal s d named q ≡ early_refusal s d q
unfolding add_refusal early_refusal
add_early s d named q h = rows_early (early_rows s d q) (late_rows s d named q) (refl, (refl, (refl, tt))) h

pub add_unreached : (s : Setup) (d : Desk) (named : Option ℕ) (q : Request) → (early_refusal s d q ≡ None → Each Fails (late_rows s d named q)) → late_no (add_refusal s d named q) ≡ false
unfolding add_refusal early_refusal
add_unreached s d named q h = rows_unreached (early_rows s d q) (late_rows s d named q) (refl, (refl, (refl, tt))) h
