-- Laws of the file sessions: every call of the list keeps its objects good, an object that is taken in hand is ready, and a run goes by cases.
use mathlib.Core.Path.{◌≡◌, refl, sym, ◌∙◌, ap, subst}
use mathlib.Core.Bool.{true, false, ◌||◌}
use Prim.Native.Nat.{ℕ, ◌≤◌, ◌<◌}
use native.Mathlib.Omega.{arith}
use borrow.Author.Tests.{eq-eqb}
use Rattle.sizes.specs.Words.{when◌then◌else◌}
use Rattle.sizes.specs.Limits.{object_slots, largest_window, longest_store}
use Rattle.sizes.proofs.Tables.{inside}
use Rattle.lifecycle.specs.FileDesc.{with_life}
use Rattle.lifecycle.specs.Slots.{no_slot, slot_at}
use Rattle.lifecycle.specs.Announce.{waits_of}
use Rattle.lifecycle.specs.FdtCalls.{ValidFdt, sends, completed_of, reserved_of, released_of, added_of, removed_of, triggered_of, taken_of, done_of, publish_of, next_fdt_of, fdt_done_of, Taken}
use Rattle.lifecycle.proofs.FdtMeans.{is_taken}
use Rattle.lifecycle.specs.declared.parts.Part.{Part}
use Rattle.lifecycle.specs.declared.filedesc.Time.{Time}
use Rattle.lifecycle.specs.declared.filedesc.Life.{Life}
use Rattle.lifecycle.specs.declared.filedesc.FileDesc.{FileDesc}
use Rattle.lifecycle.specs.declared.fdt.Fdt.{Fdt}
use Rattle.lifecycle.specs.declared.fdt.Request.{Request}
use Rattle.lifecycle.proofs.FdtFacts.{used_sends}
use Rattle.lifecycle.proofs.FdtValid.{valid_reserved, valid_released, valid_completed, valid_triggered, valid_taken, valid_done, valid_removed, valid_added}
use Rattle.lifecycle.proofs.FdtSent.{taken_sent}
use Rattle.lifecycle.proofs.PublishLaws.{valid_publish, valid_next_fdt, valid_fdt_done}
use Rattle.lifecycle.proofs.HeldKeep.{part_lies_in, reserved_held, released_held, taken_held, done_held, removed_held, triggered_held, published_held, next_fdt_held, fdt_done_held, added_held}
use Rattle.sender.specs.SessionCalls.{Good, Holds, Ready, begun_of, forced_slot, served_of, ran_by, attended_of, taken_on_of, again_by, ran_of, Turn}
use Rattle.sender.specs.declared.blockencoder.Symbol.{Symbol}
use Rattle.sender.specs.declared.sendersession.SenderSession.{SenderSession}
use Rattle.sender.specs.declared.sendersession.Outcome.{Outcome}
use Rattle.sender.specs.declared.sendersession.Outcome.TheVariants.{Idle, Sent, Over}
use Rattle.sender.proofs.SessionTakes.{begun_valid}
use Rattle.std.specs.Prelude.{Option, Some}

-- ---- what a session comes to

-- what holds where nothing is sent, and where a symbol is, holds where the transfer is not over
pub not_over : (P : Outcome → Type 0) (a : Outcome) → (a ≡ Over → ⊥) → P Idle → ((s : Symbol) → P (Sent s)) → P a
not_over P Idle h i s = i
not_over P (Sent y) h i s = s y
not_over P Over h i s = absurd (h refl)

-- ---- every call of the list keeps its objects good

-- whatever happens to an object, its sizes and its part stay
good_kept : (o : FileDesc) (x : Life) → Good o → Good (with_life o x)
good_kept o x g = record { sizes = g.sizes; fits = g.fits }

module _ (f : Fdt) (h : Holds f) where
  pub holds_reserved : Holds (reserved_of f).fdt
  holds_reserved = record { valid = valid_reserved f h.valid; good = reserved_held Good good_kept f h.good }

  pub holds_released : (t : ℕ) → Holds (released_of t f).fdt
  holds_released t = record { valid = valid_released f h.valid t; good = released_held Good good_kept f h.good t }

  pub holds_completed : Holds (completed_of f)
  holds_completed = record { valid = valid_completed f h.valid; good = h.good }

  pub holds_taken : (p now : ℕ) → Holds (taken_of p now f).fdt
  holds_taken p now = record { valid = valid_taken f h.valid p now; good = taken_held Good good_kept f h.good h.valid p now }

  pub holds_done : (now k : ℕ) → Holds (done_of now k f)
  holds_done now k = record { valid = valid_done f h.valid now k; good = done_held Good good_kept f h.good h.valid now k }

  pub holds_removed : (t : ℕ) → Holds (removed_of t f).fdt
  holds_removed t = record { valid = valid_removed f h.valid t; good = removed_held Good good_kept f h.good h.valid t }

  pub holds_triggered : (t : ℕ) (start : Time) → Holds (triggered_of t start f).fdt
  holds_triggered t start = record { valid = valid_triggered f h.valid t start; good = triggered_held Good good_kept f h.good t start }

  pub holds_published : (now : ℕ) (c : Part) → Holds (publish_of now c f).fdt
  holds_published now c = record { valid = valid_publish now c f h.valid; good = published_held Good good_kept f h.good now c }

  pub holds_next_fdt : (now : ℕ) (draft : Option Part) → Holds (next_fdt_of now draft f).fdt
  holds_next_fdt now draft = record { valid = valid_next_fdt now draft f h.valid; good = next_fdt_held Good good_kept f h.good now draft }

  pub holds_fdt_done : (now : ℕ) → Holds (fdt_done_of now f)
  holds_fdt_done now = record { valid = valid_fdt_done now f h.valid; good = fdt_done_held Good good_kept f h.good now }

  -- an object that is admitted was refused neither for its sizes nor for its part
  pub holds_added : f.settings.object_store ≤ longest_store → (q : Request) (named : Option ℕ) → Holds (added_of f q named).fdt
  holds_added m q named = record {
    valid = valid_added f h.valid q named;
    good = added_held Good good_kept f h.good q named h.valid (λ t s p. (let o = part_lies_in f q.part p in record { sizes = s; fits = omega arith }));
  }

-- ---- an object is taken in hand

module _ (f r : Fdt) (v : ValidFdt f) (p now k : ℕ) (e : taken_of p now f ≡ record { answer = Some k; fdt = r }) where
  -- it is in transfer
  pub taken_sends : sends (slot_at r.slots k) ≡ true
  taken_sends =
      let b = sends (slot_at f.slots k) in
      ap (λ (t : Taken). sends (slot_at t.fdt.slots k)) (sym e) ∙ taken_sent f v p now k
      ∙ ap (λ (t : Taken). is_taken t.answer k || b) e ∙ ap (λ a. a || b) (eq-eqb k k refl)

  pub taken_inside : k < object_slots
  taken_inside =
      let l = (subst (λ (t : Taken). ValidFdt t.fdt) e (valid_taken f v p now)).slots_long in
      let i = inside no_slot sends r.slots k refl taken_sends in omega arith

module _ (f r : Fdt) (h : Holds f) (p now k : ℕ) (e : taken_of p now f ≡ record { answer = Some k; fdt = r }) where
  holds_then : Holds r
  holds_then = subst (λ (t : Taken). Holds t.fdt) e (holds_taken f h p now)

  -- what a session begins with is of its object
  pub ready_begun : (w : ℕ) → w ≤ largest_window → Ready r (begun_of w now p k (slot_at r.slots k).file)
  unfolding begun_of
  ready_begun w n =
      let y = slot_at r.slots k in
      record {
        valid = holds_then.valid;
        slot = taken_inside f r h.valid p now k e;
        encoder = begun_valid w now p k y.file (holds_then.good k (used_sends y (taken_sends f r h.valid p now k e))) n;
      }

-- ---- a round of a session

-- whatever it comes to
pub holds_attended : (now : ℕ) (f : Fdt) (x : SenderSession) → Holds f → Holds (attended_of now f x).fdt
unfolding attended_of
holds_attended now f x h = let r = served_of (forced_slot (slot_at f.slots x.slot)) (waits_of f.announcer) now x in go r.session r.answer
  where
    go : (y : SenderSession) (a : Outcome) → Holds (ran_by now f x y a).fdt
    go y Over = holds_done f h now x.slot
    go y Idle = h
    go y (Sent s) = h

-- ---- a run, by cases

module _ (w now : ℕ) (f : Fdt) (x : SenderSession) where
  pub ran_busy : x.busy ≡ true → (a : Turn) → attended_of now f x ≡ a → ran_of w now f x ≡ again_by w now a a.answer
  unfolding ran_of
  ran_busy e a h =
      ap (λ b. when b then again_by w now (attended_of now f x) (attended_of now f x).answer else taken_on_of w now f x) e
      ∙ ap (λ (r : Turn). again_by w now r r.answer) h

  pub ran_idle : x.busy ≡ false → ran_of w now f x ≡ taken_on_of w now f x
  unfolding ran_of
  ran_idle e = ap (λ b. when b then again_by w now (attended_of now f x) (attended_of now f x).answer else taken_on_of w now f x) e
