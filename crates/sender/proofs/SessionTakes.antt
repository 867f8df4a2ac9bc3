-- A file session takes an object: the definition finds the same one, and has the same in hand.
use mathlib.Core.Path.{◌≡◌, refl, sym, ◌∙◌, ap, subst}
use mathlib.Core.Bool.{Bool, true, false}
use Rattle.std.specs.Prelude.{Option, None, Some}
use mathlib.Core.List.{List, [], ◌∷◌, map}
use Prim.Native.Nat.{ℕ, suc, ◌≤◌}
use Rattle.sizes.specs.Words.{when◌then◌else◌, over, at, find, drop_first}
use Rattle.sizes.specs.Limits.{largest_window}
use Rattle.sizes.proofs.Tests.{none≢some}
use Rattle.sizes.proofs.Lists.{at_map}
use Rattle.sizes.proofs.Tables.{find_map, drop_map}
use Rattle.lifecycle.specs.Lifecycle.{is_last}
use Rattle.lifecycle.specs.FileDesc.{plan_of, life_of, startable_file}
use Rattle.lifecycle.specs.FdtCalls.{file_at, waiting, files}
use Rattle.lifecycle.specs.FdtCalls.{ValidFdt}
use Rattle.lifecycle.specs.FdtCalls.{started_slot}
use Rattle.lifecycle.specs.declared.filedesc.FileDesc.{FileDesc}
use Rattle.lifecycle.specs.declared.slots.Slot.{Slot}
use Rattle.lifecycle.specs.declared.fdt.Fdt.{Fdt}
use Rattle.lifecycle.proofs.FileDescLaws.{life_started, pace_view}
use Rattle.lifecycle.proofs.FdtFacts.{waits_at}
use Rattle.lifecycle.proofs.TakesKeep.{startable_as}
use Rattle.definition.specs.Encoder as DefEncoder
use Rattle.definition.specs.Session as Def
use Rattle.sender.specs.EncoderCalls.{new_of}
use Rattle.sender.specs.EncoderCalls.{ValidEncoder}
use Rattle.sender.specs.SessionCalls.{object_of, hand_of, Good, begun_of}
use Rattle.sender.specs.SessionMeans.{queue_of}
use Rattle.sender.proofs.EncoderPromises.{new_sound}

-- ---- what may start

-- a search by another test that says the same of each element
module _ {A : Type 0} (ok other : A → Bool) where
  find_in : (l : List A) → ((i : ℕ) (a : A) → at l i ≡ Some a → ok a ≡ other a) → find ok l ≡ find other l
  find_in [] h = refl
  find_in (a ∷ l) h = λ i. when h 0 a refl i then Some a else find_in l (λ n. h (suc n)) i

  drop_in : (l : List A) → ((i : ℕ) (a : A) → at l i ≡ Some a → ok a ≡ other a) → drop_first ok l ≡ drop_first other l
  drop_in [] h = refl
  drop_in (a ∷ l) h = λ i. when h 0 a refl i then l else a ∷ drop_in l (λ n. h (suc n)) i

over_some : {A B : Type 0} (f : A → B) (o : Option A) (b : B) → over f o ≡ Some b → (a : A) × (o ≡ Some a) × (f a ≡ b)
over_some f None b e = absurd (none≢some e)
over_some f (Some a) b e = (a, refl, cc)

-- what waits is not in transfer
files_unsent : (f : Fdt) → ValidFdt f → (n : ℕ) (o : FileDesc) → at (files f) n ≡ Some o → o.life.transferring ≡ false
files_unsent f v n o e =
    let h = over_some (file_at f.slots) (at (waiting f) n) o (sym (at_map (file_at f.slots) (waiting f) n) ∙ e) in
    subst (λ (a : FileDesc). a.life.transferring ≡ false) h.2 (waits_at f v n h.0 h.1).unsent

startable_same : (p now : ℕ) (o : FileDesc) → o.life.transferring ≡ false → Def.startable p now (object_of o) ≡ startable_file p now o
unfolding Def.startable
startable_same p now o e = sym (startable_as p now o e)

module _ (f : Fdt) (v : ValidFdt f) (p now : ℕ) where
  pub find_startable : find (Def.startable p now) (queue_of f) ≡ over object_of (find (startable_file p now) (files f))
  find_startable = find_map (Def.startable p now) object_of (files f)
      ∙ ap (over object_of) (find_in (λ o. Def.startable p now (object_of o)) (startable_file p now) (files f) (λ n o e. startable_same p now o (files_unsent f v n o e)))

  pub drop_startable : drop_first (Def.startable p now) (queue_of f) ≡ map object_of (drop_first (startable_file p now) (files f))
  drop_startable = drop_map (Def.startable p now) object_of (files f)
      ∙ ap (map object_of) (drop_in (λ o. Def.startable p now (object_of o)) (startable_file p now) (files f) (λ n o e. startable_same p now o (files_unsent f v n o e)))

-- ---- an object is taken

-- an object as it is taken, in the definition's words
pub begun_hand : (w now p k : ℕ) (y : Slot) → y.listed ≡ true
    → hand_of (started_slot now y) (begun_of w now p k (started_slot now y).file) ≡ Def.begin now (object_of y.file)
unfolding begun_of new_of Def.begin
begun_hand w now p k y e = λ i. record {
  object = Def.living (life_started y.file.plan now y.file.life i) (object_of y.file);
  listed = e i;
  encoder = DefEncoder.fresh (is_last (plan_of y.file.plan) (life_started y.file.plan now y.file.life i));
  pace = pace_view y.file.plan now y.file.part.size y.file.sizes.e i;
}

-- its encoder is one of it
pub begun_valid : (w now p k : ℕ) (o : FileDesc) → Good o → w ≤ largest_window → ValidEncoder (begun_of w now p k o).encoder
unfolding begun_of new_of
begun_valid w now p k o g n = new_sound o.part o.sizes w (is_last (plan_of o.plan) (life_of o.life)) (record { cut = refl; sizes = g.sizes; fits = g.fits }) n
