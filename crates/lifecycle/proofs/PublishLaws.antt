-- Laws of the FDT calls: what they answer, put together from their steps.
use mathlib.Core.Path.{◌≡◌, refl, sym, ◌∙◌, ap, subst}
use mathlib.Core.Bool.{Bool, true, false, ◌||◌}
use Rattle.std.specs.Prelude.{Option, None, Some}
use mathlib.Core.List.{[], ◌∷◌, map}
use lib.Dec.{eqb, leb}
use Prim.Native.Nat.{ℕ, ◌<◌, ◌≤◌}
use borrow.Author.Tests.{lt-ltb}
use Rattle.sizes.specs.Words.{when◌then◌else◌, first_of}
use Rattle.sizes.specs.Limits.{waiting_fdts, largest_fdt_id}
use Rattle.sizes.specs.declared.refusal.Refusal.{Refusal}
use Rattle.sizes.specs.declared.refusal.Refusal.TheVariants as Because
use Rattle.sizes.specs.Allocator as Alloc
use Rattle.sizes.specs.declared.toiallocator.ToiMaxLength.{ToiMaxLength}
use Rattle.sizes.specs.declared.toiallocator.ToiAllocator.{ToiAllocator}
use Rattle.sizes.proofs.AllocatorLaws.{valid_opening as valid-numbers}
use Rattle.sizes.proofs.AllocatorViews.{opened_view}
use Rattle.sizes.proofs.Tests.{if_on, none≢some}
use Rattle.lifecycle.specs.Setup.{bad_blocks}
use Rattle.lifecycle.specs.Slots.{published_slot}
use Rattle.lifecycle.specs.Announce as Ann
use Rattle.lifecycle.specs.Announce.{NextInstance, ValidAnnouncer, fdt_plan_of, queued_of, published_of, next_of, bad_fdt_of}
use Rattle.lifecycle.specs.FdtCalls.{NextFdt, Published, ValidFdt, with_slots, with_published, with_announcer, draft_test_of, publish_of, next_fdt_of, fdt_done_of, opening_fdt}
use Rattle.lifecycle.specs.declared.parts.Part.{Part}
use Rattle.lifecycle.specs.declared.filedesc.Plan.{Plan}
use Rattle.lifecycle.specs.declared.announce.Announcer.{Announcer}
use Rattle.lifecycle.specs.declared.fdt.Fdt.{Fdt}
use Rattle.lifecycle.specs.declared.fdt.Settings.{Settings}
use Rattle.lifecycle.proofs.AnnounceLaws.{valid_queued, valid_next, valid_done, valid_opening}
use Rattle.lifecycle.proofs.FdtKeeps.{publish_refusal_of, publishable, published_by, publish_as}
use Rattle.lifecycle.proofs.FdtValid.{opening, valid_published}

-- where there is room, a publish queues
pub queued_by : (now : ℕ) (c : Part) (a : Announcer) → a.waiting < waiting_fdts → published_of now c a ≡ queued_of now c a
unfolding published_of
queued_by now c a h = rw (lt-ltb a.waiting waiting_fdts h)

-- a part that is no good as a draft is refused for the same reason; one that is good may still be empty, or find no room
module _ (now : ℕ) (c : Part) (f : Fdt) where
  abbrev said : Option Refusal → Published
  said = published_by c f now

  abbrev by_tests : Bool → Bool → Published
  by_tests x y =
      when x then said (Some Because.Sizes)
      else when y || eqb c.size 0 then said (Some Because.Part)
      else when leb waiting_fdts f.announcer.waiting then said (Some Because.Full)
      else said None

  pub publish_bad : (why : Refusal) → draft_test_of (Some c) f ≡ Some why → publish_of now c f ≡ said (Some why)
  unfolding draft_test_of publish_of
  publish_bad why = by (bad_blocks f.settings.sizes c.size) (bad_fdt_of f.settings.fdt_store c f.announcer)
    where
      by : (x y : Bool) → first_of ((Because.Sizes, x) ∷ (Because.Part, y) ∷ []) ≡ Some why → by_tests x y ≡ said (Some why)
      by true y e = ap said e
      by false true e = ap said e
      by false false e = absurd (none≢some e)

  pub publish_good : draft_test_of (Some c) f ≡ None
      → publish_of now c f ≡ (when eqb c.size 0 then said (Some Because.Part) else when leb waiting_fdts f.announcer.waiting then said (Some Because.Full) else said None)
  unfolding draft_test_of publish_of
  publish_good = by (bad_blocks f.settings.sizes c.size) (bad_fdt_of f.settings.fdt_store c f.announcer)
    where
      by : (x y : Bool) → first_of ((Because.Sizes, x) ∷ (Because.Part, y) ∷ []) ≡ None → by_tests x y ≡ by_tests false false
      by true y e = absurd (none≢some (sym e))
      by false true e = absurd (none≢some (sym e))
      by false false e = refl

module _ (now : ℕ) (draft : Option Part) (f : Fdt) (r : Plan) (n : NextInstance)
    (planned : r ≡ fdt_plan_of f.settings.from_start f.settings.interval) (asked : next_of r f.settings.validity now draft f.announcer ≡ n) where
  -- what the answer is for a next FDT
  abbrev told : NextInstance → NextFdt
  told m = record { taken = m.taken; starts = m.starts; fdt = when m.taken then with_published f m.announcer else with_announcer f m.announcer }

  is_next : next_fdt_of now draft f ≡ told n
  unfolding next_fdt_of
  is_next = ap told (sym (ap (λ q. next_of q f.settings.validity now draft f.announcer) planned) ∙ asked)

  by_flag : (b : Bool) → n.taken ≡ b → next_fdt_of now draft f ≡ record { taken = n.taken; starts = n.starts; fdt = when b then with_published f n.announcer else with_announcer f n.announcer }
  by_flag b e = is_next ∙ ap (λ b. record { taken = n.taken; starts = n.starts; fdt = when b then with_published f n.announcer else with_announcer f n.announcer }) e

  pub next_taken_by : n.taken ≡ true → next_fdt_of now draft f ≡ record { taken = n.taken; starts = n.starts; fdt = with_published f n.announcer }
  next_taken_by = by_flag true

  pub next_left_by : n.taken ≡ false → next_fdt_of now draft f ≡ record { taken = n.taken; starts = n.starts; fdt = with_announcer f n.announcer }
  next_left_by = by_flag false

-- ---- the list stays valid

-- another FDT side
with_side : (f : Fdt) (a : Announcer) → ValidAnnouncer a → ValidFdt f → ValidFdt (with_announcer f a)
with_side f a w v = record {
  tois = v.tois;
  slots_long = v.slots_long;
  queue_long = v.queue_long;
  queued = v.queued;
  in_queue = v.in_queue;
  clear = v.clear;
  tidy = v.tidy;
  owned = v.owned;
  fdts = w;
}

-- and every listed object marked
valid_announced : (f : Fdt) (a : Announcer) → ValidAnnouncer a → ValidFdt f → ValidFdt (with_published f a)
valid_announced f a w v = with_side (with_slots f (map published_slot f.slots)) a w (valid_published f v)

pub valid_publish : (now : ℕ) (c : Part) (f : Fdt) → ValidFdt f → ValidFdt (publish_of now c f).fdt
valid_publish now c f v = subst (λ (r : Published). ValidFdt r.fdt) (sym (publish_as c f now)) (by (publish_refusal_of c f) refl)
  where
    by : (o : Option Refusal) → publish_refusal_of c f ≡ o → ValidFdt (published_by c f now o).fdt
    by (Some why) e = v
    by None e = valid_announced f (queued_of now c f.announcer) (valid_queued f.announcer v.fdts now c (publishable c f e).room) v

pub valid_next_fdt : (now : ℕ) (draft : Option Part) (f : Fdt) → ValidFdt f → ValidFdt (next_fdt_of now draft f).fdt
unfolding next_fdt_of
valid_next_fdt now draft f v =
    let r = fdt_plan_of f.settings.from_start f.settings.interval in
    let n = next_of r f.settings.validity now draft f.announcer in
    let w = valid_next f.announcer v.fdts r f.settings.validity now draft in
    if_on ValidFdt n.taken (λ e. valid_announced f n.announcer w v) (λ e. with_side f n.announcer w v)

pub valid_fdt_done : (now : ℕ) (f : Fdt) → ValidFdt f → ValidFdt (fdt_done_of now f)
unfolding fdt_done_of
valid_fdt_done now f v = with_side f (Ann.current_done now f.announcer) (valid_done f.announcer v.fdts now) v

pub valid_opening_fdt : (z : Settings) (a : ToiAllocator) (id : ℕ) → Alloc.ValidAllocator a → Alloc.bound a ≡ [] → id ≤ largest_fdt_id → ValidFdt (opening_fdt z a id)
unfolding opening_fdt
valid_opening_fdt z a id v b h = opening (opening_fdt z a id) v b refl refl refl (valid_opening id h)

-- with the allocator that set-up makes
pub valid_opened : (z : Settings) (w : ToiMaxLength) (first id : ℕ) → id ≤ largest_fdt_id → ValidFdt (opening_fdt z (Alloc.new_allocator (Alloc.bits w) first) id)
valid_opened z w first id h = valid_opening_fdt z (Alloc.new_allocator (Alloc.bits w) first) id (valid-numbers w first) (opened_view (Alloc.bits w) first).1 h
