-- What holds of every held object, whatever its life, holds after each call.
use mathlib.Core.Path.{◌≡◌, refl, sym, ◌∙◌, ap, subst}
use mathlib.Core.Bool.{Bool, true, false, false≢true}
use Rattle.std.specs.Prelude.{Option, None, Some}
use mathlib.Core.List.{List, [], ◌∷◌, map}
use Prim.Native.Nat.{ℕ, ◌+◌, ◌≤◌}
use lib.Dec.{eqb}
use lib.ListN.{set}
use lib.Seq.{get_or-set_same}
use Rattle.sizes.specs.Words.{when◌then◌else◌, first_of, any}
use Rattle.sizes.specs.declared.refusal.Refusal.{Refusal}
use Rattle.sizes.specs.declared.refusal.Refusal.TheVariants as Because
use Rattle.sizes.specs.declared.partition.Sizes.{Sizes}
use Rattle.sizes.proofs.Tests.{or_left, none≢some, if_on, maybe_on}
use Rattle.sizes.proofs.Tables.{other}
use Rattle.lifecycle.specs.Setup.{bad_blocks}
use Rattle.lifecycle.specs.Parts.{past_store}
use Rattle.lifecycle.specs.FileDesc.{with_life, reset_life}
use Rattle.lifecycle.specs.Slots.{no_slot, slot_at, holds_byte, published_slot}
use Rattle.lifecycle.specs.Announce.{fdt_plan_of, next_of}
use Rattle.lifecycle.specs.FdtCalls.{Added, Touched, Taken, Published, sends, used, ValidFdt, with_slots, reserved_of, released_of, own_of, bad_part_of, new_slot, refusal, added_of, listed_place, removed_of, triggered_of, taken_of, done_of, publish_of, next_fdt_of, fdt_done_of}
use Rattle.lifecycle.proofs.FdtMeans.{Seen, ListAdds, refused, admits, unknown, full, Removal, nobody, sent, waited, Takes, nothing, takes, Ends, idle, back, gone}
use Rattle.lifecycle.specs.declared.parts.Part.{Part}
use Rattle.lifecycle.specs.declared.filedesc.Time.{Time}
use Rattle.lifecycle.specs.declared.filedesc.Life.{Life}
use Rattle.lifecycle.specs.declared.filedesc.FileDesc.{FileDesc}
use Rattle.lifecycle.specs.declared.slots.Slot.{Slot}
use Rattle.lifecycle.specs.declared.fdt.Fdt.{Fdt}
use Rattle.lifecycle.specs.declared.fdt.Request.{Request}
use Rattle.lifecycle.proofs.PartLaws.{lies_in}
use Rattle.lifecycle.proofs.FdtFacts.{used_listed, used_sends, listed_at}
use Rattle.lifecycle.proofs.FdtViews.{at_each, taken_view, done_view, published_at}
use Rattle.lifecycle.proofs.FdtByNumber.{removed_cases}
use Rattle.lifecycle.proofs.FdtAdds.{added_view, refusal_view}
use Rattle.lifecycle.proofs.FdtKeeps.{publish_refusal_of, published_by, publish_as}

-- a part that is not bad lies in the object store
pub part_lies_in : (f : Fdt) (c : Part) → bad_part_of f c ≡ false → c.start + c.size ≤ f.settings.object_store
unfolding bad_part_of
part_lies_in f c e = lies_in f.settings.object_store c (or_left (past_store f.settings.object_store c) (any (holds_byte c) f.slots) e)

-- P holds of every held object
abbrev pub EachHeld : (FileDesc → Type 0) → Fdt → Type 0
EachHeld P f = (k : ℕ) → used (slot_at f.slots k) ≡ true → P (slot_at f.slots k).file

module _ (P : FileDesc → Type 0) (lives : (o : FileDesc) (x : Life) → P o → P (with_life o x)) (f : Fdt) (h : EachHeld P f) where
  -- if anyone holds the slot, P holds of its object
  abbrev IfHeld : Slot → Type 0
  IfHeld y = used y ≡ true → P y.file

  -- slot k is so, and every other slot is as it was
  changed_held : (r : Fdt) (k : ℕ) (w : Slot) → slot_at r.slots k ≡ w → ((j : ℕ) → eqb k j ≡ false → slot_at r.slots j ≡ slot_at f.slots j) → IfHeld w → EachHeld P r
  changed_held r k w e o g = at_each (λ j. IfHeld (slot_at r.slots j)) k (subst IfHeld (sym e) g) (λ j n. subst IfHeld (sym (o j n)) (h j))

  seen_held : (r : Fdt) {l : List FileDesc} {k : ℕ} {w : Slot} → Seen f l k w r → IfHeld w → EachHeld P r
  seen_held r {l} {k} {w} s g = changed_held r k w s.new s.same g

  -- a slot that is free
  free_held : IfHeld no_slot
  free_held u = absurd (false≢true u)

  -- every listed object is published
  marked_held : (k : ℕ) → IfHeld (slot_at (map published_slot f.slots) k)
  unfolding published_slot
  marked_held k =
      let y = slot_at f.slots k in
      subst IfHeld (sym (published_at f.slots k)) (if_on IfHeld y.listed (λ l u. lives y.file _ (h k (used_listed y l))) (λ l. h k))

  -- ---- the calls

  pub reserved_held : EachHeld P (reserved_of f).fdt
  unfolding reserved_of
  reserved_held = h

  pub released_held : (t : ℕ) → EachHeld P (released_of t f).fdt
  unfolding released_of
  released_held t = h

  pub taken_held : ValidFdt f → (p now : ℕ) → EachHeld P (taken_of p now f).fdt
  taken_held v p now = by (taken_of p now f) (taken_view f v p now)
    where
      by : (r : Taken) → Takes p now f r → EachHeld P r.fdt
      by r (nothing n e) = subst (λ (x : Taken). EachHeld P x.fdt) (sym e) h
      by r (takes n k t w a s) = let y = slot_at f.slots k in seen_held r.fdt s (λ u. lives y.file _ (h k (used_listed y w.is_listed)))

  pub done_held : ValidFdt f → (now k : ℕ) → EachHeld P (done_of now k f)
  done_held v now k = by (done_of now k f) (done_view f v now k)
    where
      by : (r : Fdt) → Ends now k f r → EachHeld P r
      by r (idle s e) = subst (EachHeld P) (sym e) h
      by r (back s g t w) = let y = slot_at f.slots k in seen_held r w (λ u. lives y.file _ (h k (used_sends y s)))
      by r (gone s g t w) = seen_held r w free_held

  pub removed_held : ValidFdt f → (t : ℕ) → EachHeld P (removed_of t f).fdt
  removed_held v t = by (removed_of t f) (removed_cases t f v)
    where
      by : (r : Touched) → Removal t f r → EachHeld P r.fdt
      by r (nobody c) = subst (λ (x : Touched). EachHeld P x.fdt) (sym c.unchanged) h
      by r (sent k c) = seen_held r.fdt c.view (λ u. h k (used_sends (slot_at f.slots k) c.is_sent))
      by r (waited k n c) = seen_held r.fdt c.view free_held

  pub triggered_held : (t : ℕ) (start : Time) → EachHeld P (triggered_of t start f).fdt
  unfolding triggered_of
  triggered_held t start = maybe_on (λ (x : Touched). EachHeld P x.fdt) (listed_place t f) (λ e. h) (λ k e.
      let y = slot_at f.slots k in
      let li = listed_at t f k e in
      let w : Slot = record { holders = y.holders; listed = y.listed; file = with_life y.file (reset_life start y.file.life) } in
      if_on (EachHeld P) (sends y) (λ s. h) (λ s.
      changed_held (with_slots f (set f.slots k w)) k w (get_or-set_same f.slots k w no_slot li.inn) (λ j n. other no_slot f.slots k w j n)
      (λ u. lives y.file _ (h k (used_listed y li.is_listed)))))

  pub published_held : (now : ℕ) (c : Part) → EachHeld P (publish_of now c f).fdt
  published_held now c = subst (λ (x : Published). EachHeld P x.fdt) (sym (publish_as c f now)) (by (publish_refusal_of c f))
    where
      by : (o : Option Refusal) → EachHeld P (published_by c f now o).fdt
      by None = marked_held
      by (Some why) = h

  pub next_fdt_held : (now : ℕ) (draft : Option Part) → EachHeld P (next_fdt_of now draft f).fdt
  unfolding next_fdt_of
  next_fdt_held now draft = if_on (EachHeld P) (next_of (fdt_plan_of f.settings.from_start f.settings.interval) f.settings.validity now draft f.announcer).taken (λ e. marked_held) (λ e. h)

  pub fdt_done_held : (now : ℕ) → EachHeld P (fdt_done_of now f)
  unfolding fdt_done_of
  fdt_done_held now = h

  -- an object that is admitted was refused neither for its sizes nor for its part
  module _ (q : Request) (named : Option ℕ) where
    abbrev z : Sizes
    z = own_of q.own f.settings.sizes

    pub added_held : ValidFdt f → ((t : ℕ) → bad_blocks z q.part.size ≡ false → bad_part_of f q.part ≡ false → P (new_slot q z t).file) → EachHeld P (added_of f q named).fdt
    added_held v new = by (added_of f q named) (refusal_view f q named) (added_view f v q named)
      where
        first_none : (n : Refusal) (b : Bool) {o : Option Refusal} → None ≡ (when b then Some n else o) → (b ≡ false) × (None ≡ o)
        first_none n true e = absurd (none≢some e)
        first_none n false e = (refl, e)

        by : (r : Added)
            → refusal r.answer ≡ first_of ((Because.Complete, f.complete) ∷ (Because.Sizes, bad_blocks z q.part.size) ∷ (Because.Part, bad_part_of f q.part) ∷ (Because.NotLoose, unknown named f) ∷ (Because.Full, full named f) ∷ [])
            → ListAdds f q z named r → EachHeld P r.fdt
        by r a (refused b e) = subst (λ (x : Added). EachHeld P x.fdt) (sym e) h
        by r a (admits k t w) =
            let c = first_none Because.Complete f.complete (sym (ap refusal w.answer) ∙ a) in
            let s = first_none Because.Sizes (bad_blocks z q.part.size) c.1 in
            let p = first_none Because.Part (bad_part_of f q.part) s.1 in
            seen_held r.fdt w.view (λ u. new t s.0 p.0)
