-- Publish under the sender: every listed object is marked, waiting or in hand, and the FDT is queued; its refusals.
use Rattle.sizes.specs.declared.refusal.Refusal.{Refusal}
use Rattle.sizes.specs.declared.refusal.Refusal.TheVariants as Because
use mathlib.Core.Path.{◌≡◌, refl, sym, ◌∙◌, ap, subst}
use mathlib.Core.Bool.{Bool, true, false, ◌||◌}
use Rattle.std.specs.Prelude.{Option, None, Some}
use mathlib.Core.List.{[], ◌∷◌, map}
use Prim.Native.Nat.{ℕ, ◌<◌}
use lib.Dec.{eqb, leb}
use Rattle.sizes.specs.Words.{when◌then◌else◌, first_of}
use Rattle.sizes.specs.Limits.{waiting_fdts}
use Rattle.sizes.specs.Allocator as Alloc
use Rattle.sizes.proofs.Lists.{each_all, map_comm}
use Rattle.lifecycle.specs.Setup.{Setup, bad_blocks}
use Rattle.lifecycle.specs.FileDesc.{pace_said}
use Rattle.lifecycle.specs.Slots.{slot_at, published_slot}
use Rattle.lifecycle.specs.Announce.{state_of, queued_of}
use Rattle.lifecycle.specs.FdtCalls.{files, sends, with_slots, with_published}
use Rattle.lifecycle.proofs.FdtMeans.{published_file}
use Rattle.lifecycle.specs.declared.parts.Part.{Part}
use Rattle.lifecycle.specs.declared.filedesc.FileDesc.{FileDesc}
use Rattle.lifecycle.specs.declared.slots.Slot.{Slot}
use Rattle.lifecycle.specs.declared.announce.Instance.{Instance}
use Rattle.lifecycle.specs.declared.announce.Announcer.{Announcer}
use Rattle.lifecycle.specs.declared.fdt.Fdt.{Fdt}
use Rattle.lifecycle.specs.FdtCalls.{Published}
use Rattle.lifecycle.proofs.FileDescLaws.{life_published}
use Rattle.lifecycle.proofs.AnnounceLaws.{waiting_length, state_queued, bad_said}
use Rattle.lifecycle.proofs.FdtKeeps.{marks_slot, publish_refusal_of, publishable, published_by, publish_as, queued_current}
use Rattle.lifecycle.proofs.FdtViews.{published_at, published_view}
use Rattle.definition.specs.FdtSession.{fdt_published}
use Rattle.definition.specs.Session.{Object, Hand, living}
use Rattle.definition.specs.Desk as Def
use Rattle.sender.specs.EncoderCalls.{encoder_of}
use Rattle.sender.specs.SessionCalls.{object_of, hand_of, session_of, Holds}
use Rattle.sender.specs.FdtSessionCalls.{FdtHolds, fdt_hand_of}
use Rattle.sender.specs.SenderCalls.{working, desk_of, Agrees, ValidSender, Kept, alloc_answer, with_list, publishing_of}
use Rattle.sender.specs.declared.sendersession.SenderSession.{SenderSession}
use Rattle.sender.specs.declared.fdtsession.FdtSession.{FdtSession}
use Rattle.sender.specs.declared.sender.Sender.{Sender}
use Rattle.sender.proofs.DeskChanges.{sessions_moved, Stays, valid_list, agrees_list}

-- ---- every listed object is marked

published_object : (o : FileDesc) → object_of (published_file o) ≡ Def.marked (object_of o)
unfolding Def.marked
published_object o = ap (λ x. living x (object_of o)) (life_published o.life)

published_hand : (y : Slot) (x : SenderSession) → hand_of (published_slot y) x ≡ Def.marked_hand (hand_of y x)
unfolding Def.marked_hand
published_hand y x =
    let m = marks_slot y in
    (λ i. hand (object_of (m.file i)) (m.listed i))
    ∙ (elim y.listed as (λ b. y.listed ≡ b → hand (object_of (when b then published_file y.file else y.file)) y.listed ≡ (when b then hand (Def.marked (object_of y.file)) true else hand_of y x)) [
      | true ↦ λ e. (λ i. hand (published_object y.file i) (e i))
      | false ↦ λ e. refl
    ]) refl
  where
    hand : Object → Bool → Hand
    hand o b = record { object = o; listed = b; encoder = encoder_of x.encoder; pace = pace_said x.pace }

-- the sender with another FDT side
abbrev pub with_side : Sender → Announcer → FdtSession → Sender
with_side s a y = record { fdt = with_published s.fdt a; window = s.window; count = s.count; sessions = s.sessions; fdt_session = y }

pub announced_desk : (s : Sender) → ValidSender s → (a : Announcer) (y : FdtSession)
    → desk_of (with_side s a y) ≡ Def.all_published (Def.with_fdt (desk_of s) (record { state = state_of a; hand = fdt_hand_of y }))
unfolding desk_of Def.all_published Def.moved Def.with_fdt
announced_desk s v a y = λ i. record {
  complete = s.fdt.complete;
  next = s.fdt.tois.next;
  loose = Alloc.loose s.fdt.tois;
  queue = queue i;
  sessions = hands i;
  fdt = record { state = state_of a; hand = fdt_hand_of y };
}
  where
    queue : map object_of (files (with_slots s.fdt (map published_slot s.fdt.slots))) ≡ map Def.marked (map object_of (files s.fdt))
    queue = ap (map object_of) (published_view s.fdt v.holds.valid)
        ∙ map_comm object_of published_file Def.marked (files s.fdt) (each_all (λ o. object_of (published_file o) ≡ Def.marked (object_of o)) published_object (files s.fdt))

    hands : map (session_of (map published_slot s.fdt.slots)) (working s) ≡ map (Def.in_hand Def.marked_hand) (map (session_of s.fdt.slots) (working s))
    hands = sessions_moved s v (map published_slot s.fdt.slots) Def.marked_hand
        (λ j x e. ap (λ (z : Slot). hand_of z x) (published_at s.fdt.slots j) ∙ published_hand (slot_at s.fdt.slots j) x)

-- what is in transfer stays in transfer, with its part and sizes
pub announced_stays : (f : Fdt) (a : Announcer) → a.current.life.transferring ≡ f.announcer.current.life.transferring → Stays f (with_published f a)
announced_stays f a e = record {
  settings = refl;
  sent_same = λ j. ap sends (published_at f.slots j) ∙ (marks_slot (slot_at f.slots j)).sent;
  part = λ j s. ap (λ (y : Slot). y.file.part) (published_at f.slots j) ∙ (marks_slot (slot_at f.slots j)).part;
  sizes = λ j s. ap (λ (y : Slot). y.file.sizes) (published_at f.slots j) ∙ (marks_slot (slot_at f.slots j)).sizes;
  current = e;
}

-- ---- the call

-- why it is refused
pub refusal_view : (u : Setup) (s : Sender) → ValidSender s → Agrees u s → (c : Part) → Def.publish_refusal u (desk_of s).fdt c ≡ publish_refusal_of c s.fdt
unfolding Def.publish_refusal desk_of
refusal_view u s v g c = λ i. first_of
    ((Because.Sizes, bad_blocks (g.sizes i) c.size)
    ∷ (Because.Part, sym (bad_said c u s.fdt.settings.fdt_store s.fdt.announcer g.fdt_store) i || eqb c.size 0)
    ∷ (Because.Full, leb waiting_fdts (waiting_length s.fdt.announcer v.holds.valid.fdts i))
    ∷ [])

module _ (s : Sender) (now : ℕ) (c : Part) (v : ValidSender s) where
  publish_refused : (n : Refusal) → ((u : Setup) → Agrees u s → Def.publish_refusal u (desk_of s).fdt c ≡ Some n) → Kept s (Def.Call.publish now c) (Def.Answer.refused n) s
  unfolding Def.step
  publish_refused n h = record {
    means = λ u g. ap (λ o. Def.unless o (desk_of s) (Def.Answer.done, Def.all_published (Def.with_fdt (desk_of s) (fdt_published now c (desk_of s).fdt)))) (h u g);
    agrees = λ u g. g;
    valid = v;
  }

  publish_done : ((u : Setup) → Agrees u s → Def.publish_refusal u (desk_of s).fdt c ≡ None) → s.fdt.announcer.waiting < waiting_fdts
      → Holds (with_published s.fdt (queued_of now c s.fdt.announcer)) → FdtHolds (with_published s.fdt (queued_of now c s.fdt.announcer))
      → Kept s (Def.Call.publish now c) Def.Answer.done (with_list s (with_published s.fdt (queued_of now c s.fdt.announcer)))
  unfolding Def.step fdt_published desk_of
  publish_done h room a b =
      let n = queued_of now c s.fdt.announcer in
      let f = with_published s.fdt n in
      let st = state_queued s.fdt.announcer v.holds.valid.fdts now c room in
      record {
        means = λ u g. (
            ap (λ o. Def.unless o (desk_of s) (Def.Answer.done, Def.all_published (Def.with_fdt (desk_of s) (fdt_published now c (desk_of s).fdt)))) (h u g)
            ∙ (λ i. (Def.Answer.done, Def.all_published (Def.with_fdt (desk_of s) (record { state = sym st i; hand = (desk_of s).fdt.hand }))))
            ∙ (λ i. (Def.Answer.done, sym (announced_desk s v n s.fdt_session) i)));
        agrees = λ u g. agrees_list u s f refl refl g;
        valid = valid_list s f v (announced_stays s.fdt n (ap (λ (i : Instance). i.life.transferring) (queued_current now c s.fdt.announcer))) a b;
      }

  -- refusals 4, 5 and 7 in their order; else it is done
  pub publish_kept : Holds (publishing_of now c s).sender.fdt → FdtHolds (publishing_of now c s).sender.fdt
      → Kept s (Def.Call.publish now c) (alloc_answer (Alloc.known_said (publishing_of now c s).answer)) (publishing_of now c s).sender
  unfolding publishing_of
  publish_kept = subst Goes (sym (publish_as c s.fdt now)) (by (publish_refusal_of c s.fdt) refl)
    where
      Goes : Published → Type 0
      Goes r = Holds r.fdt → FdtHolds r.fdt → Kept s (Def.Call.publish now c) (alloc_answer (Alloc.known_said r.answer)) (with_list s r.fdt)

      by : (o : Option Refusal) → publish_refusal_of c s.fdt ≡ o → Goes (published_by c s.fdt now o)
      by (Some why) e a b = publish_refused why (λ u g. refusal_view u s v g c ∙ e)
      by None e a b = publish_done (λ u g. refusal_view u s v g c ∙ e) (publishable c s.fdt e).room a b
