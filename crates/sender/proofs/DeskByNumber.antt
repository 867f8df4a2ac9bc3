-- Remove and trigger under the sender: the answer and the desk are the definition's, and the sender stays valid.
use mathlib.Core.Path.{◌≡◌, refl, sym, ◌∙◌, ap}
use mathlib.Core.Bool.{Bool, true, false, not, ◌&&◌, and-true, and-false}
use mathlib.Core.List.{List, [], ◌∷◌, map}
use Prim.Native.Nat.{ℕ}
use lib.Dec.{eqb}
use Rattle.sizes.specs.Words.{when◌then◌else◌, keep}
use Rattle.sizes.proofs.Lists.{each_all, map_comm}
use Rattle.lifecycle.specs.Lifecycle.{triggered}
use Rattle.lifecycle.specs.FileDesc.{time_of, life_of, pace_said, with_life, reset_life}
use Rattle.lifecycle.specs.Slots.{slot_at}
use Rattle.lifecycle.specs.FdtCalls.{ValidFdt}
use Rattle.lifecycle.specs.FdtCalls.{files, removed_of, triggered_of}
use Rattle.lifecycle.proofs.FdtMeans.{listed_but, reset_file}
use Rattle.lifecycle.specs.declared.filedesc.Time.{Time}
use Rattle.lifecycle.specs.declared.filedesc.FileDesc.{FileDesc}
use Rattle.lifecycle.specs.declared.slots.Slot.{Slot}
use Rattle.lifecycle.specs.declared.announce.Announcer.{Announcer}
use Rattle.lifecycle.specs.declared.fdt.Fdt.{Fdt}
use Rattle.lifecycle.proofs.FileDescLaws.{life_reset}
use Rattle.lifecycle.proofs.FdtKeeps.{removed_keeps, removed_numbers, triggered_keeps, triggered_numbers}
use Rattle.lifecycle.proofs.FdtByNumber.{removed_answer, removed_view, triggered_view, triggered_answer}
use Rattle.definition.specs.Session.{Object, Hand, living}
use Rattle.definition.specs.Desk as Def
use Rattle.definition.proofs.Touches.{removed_waiting, prompted, prompted_waiting, prompted_hands}
use Rattle.sender.specs.EncoderCalls.{encoder_of}
use Rattle.sender.specs.SessionCalls.{object_of, hand_of, Holds}
use Rattle.sender.specs.FdtSessionCalls.{FdtHolds}
use Rattle.sender.proofs.SessionFacts.{SameSide, same_by}
use Rattle.sender.specs.SenderCalls.{desk_of, ValidSender, Kept, with_list, removing_of, prompting_of}
use Rattle.sender.specs.declared.sendersession.SenderSession.{SenderSession}
use Rattle.sender.specs.declared.sender.Sender.{Sender}
use Rattle.sender.proofs.DeskChanges.{sessions_moved, sessions_same, Stays, kept_stays, valid_list, agrees_list, desk_moved, listed_answer}

-- ---- remove

pub removed_side : (t : ℕ) (f : Fdt) → ValidFdt f → SameSide f (removed_of t f).fdt
removed_side t f v = same_by (removed_keeps f t) (removed_numbers f t v)

keep_map : {A B : Type 0} (ok : B → Bool) (f : A → B) (l : List A) → keep ok (map f l) ≡ map f (keep (λ a. ok (f a)) l)
keep_map ok f [] = refl
keep_map ok f (a ∷ l) = elim (ok (f a)) as (λ t. (when t then f a ∷ keep ok (map f l) else keep ok (map f l)) ≡ map f (when t then a ∷ keep (λ a. ok (f a)) l else keep (λ a. ok (f a)) l))
    [ true ↦ ap (λ r. f a ∷ r) (keep_map ok f l) | false ↦ keep_map ok f l ]

-- a hand with this flag
abbrev flagged : Slot → SenderSession → Bool → Hand
flagged y x b = record { object = object_of y.file; listed = b; encoder = encoder_of x.encoder; pace = pace_said x.pace }

-- off the list if it has the number
unlisted_hand : (t : ℕ) (y : Slot) (x : SenderSession) → flagged y x (listed_but t y) ≡ Def.touched_hand t Def.Touch.remove (hand_of y x)
unfolding Def.touched_hand Def.is
unlisted_hand t y x = elim (eqb y.file.toi t) as (λ b. flagged y x (y.listed && not b) ≡ (when b then flagged y x false else hand_of y x))
    [ true ↦ ap (flagged y x) (and-false y.listed) | false ↦ ap (flagged y x) (and-true y.listed) ]

pub removed_desk : (s : Sender) → ValidSender s → (t : ℕ) → desk_of (with_list s (removed_of t s.fdt).fdt) ≡ Def.touched t Def.Touch.remove (desk_of s)
unfolding Def.touched Def.is desk_of
removed_desk s v t =
    let f = s.fdt in
    let r = (removed_of t f).fdt in
    let w = removed_view t f v.holds.valid in
    desk_moved s r _ _ (removed_side t f v.holds.valid)
    (ap (map object_of) w.queue ∙ sym (keep_map (λ (o : Object). not (Def.is t o)) object_of (files f)) ∙ sym (removed_waiting t (map object_of (files f))))
    (sessions_moved s v r.slots (Def.touched_hand t Def.Touch.remove) (λ j x e. (λ i. record {
      object = object_of (w.file_same j e i);
      listed = w.unlists j e i;
      encoder = encoder_of x.encoder;
      pace = pace_said x.pace;
    }) ∙ unlisted_hand t (slot_at f.slots j) x))

pub removed_stays : (s : Sender) → ValidSender s → (t : ℕ) → Stays s.fdt (removed_of t s.fdt).fdt
removed_stays s v t =
    let w = removed_view t s.fdt v.holds.valid in
    let a = removed_side t s.fdt v.holds.valid in
    record {
      settings = a.settings;
      sent_same = w.sent_same;
      part = λ j e. ap (λ (o : FileDesc). o.part) (w.file_same j e);
      sizes = λ j e. ap (λ (o : FileDesc). o.sizes) (w.file_same j e);
      current = ap (λ (n : Announcer). n.current.life.transferring) a.announcer;
    }

pub remove_kept : (s : Sender) (t : ℕ) → ValidSender s → Holds (removing_of t s).sender.fdt → FdtHolds (removing_of t s).sender.fdt
    → Kept s (Def.Call.touch t Def.Touch.remove) (Def.Answer.truth (removing_of t s).yes) (removing_of t s).sender
unfolding removing_of Def.step
remove_kept s t v a b =
    let f = s.fdt in
    let r = (removed_of t f).fdt in
    let k = removed_stays s v t in
    record {
      means = λ u g. λ i. (Def.Answer.truth ((listed_answer s v t ∙ sym (removed_answer t f)) i), sym (removed_desk s v t) i);
      agrees = λ u g. agrees_list u s r k.settings (removed_keeps f t).width g;
      valid = valid_list s r v k a b;
    }

-- ---- trigger

pub triggered_side : (t : ℕ) (start : Time) (f : Fdt) → SameSide f (triggered_of t start f).fdt
triggered_side t start f = same_by (triggered_keeps f t start) (triggered_numbers f t start)

-- the object that was reset
prompted_object : (t : ℕ) (start : Time) (o : FileDesc) → object_of (reset_file t start o) ≡ prompted t (time_of start) (object_of o)
unfolding prompted Def.is
prompted_object t start o = elim (eqb o.toi t) as (λ b. object_of (when b then with_life o (reset_life start o.life) else o) ≡ (when b then living (triggered (time_of start) (life_of o.life)) (object_of o) else object_of o))
    [ true ↦ ap (λ x. living x (object_of o)) (life_reset start o.life) | false ↦ refl ]

pub prompted_desk : (s : Sender) → ValidSender s → (t : ℕ) (start : Time)
    → desk_of (with_list s (triggered_of t start s.fdt).fdt) ≡ Def.touched t (Def.Touch.trigger (time_of start)) (desk_of s)
unfolding Def.touched desk_of
prompted_desk s v t start =
    let f = s.fdt in
    let r = (triggered_of t start f).fdt in
    let w = triggered_view t start f v.holds.valid in
    desk_moved s r _ _ (triggered_side t start f)
    (ap (map object_of) w.queue
    ∙ map_comm object_of (reset_file t start) (prompted t (time_of start)) (files f)
    (each_all (λ o. object_of (reset_file t start o) ≡ prompted t (time_of start) (object_of o)) (prompted_object t start) (files f)) ∙ sym (prompted_waiting t (time_of start) (map object_of (files f))))
    (sessions_same s v r.slots w.same ∙ sym (prompted_hands t (time_of start) (desk_of s).sessions))

pub triggered_stays : (s : Sender) → ValidSender s → (t : ℕ) (start : Time) → Stays s.fdt (triggered_of t start s.fdt).fdt
triggered_stays s v t start =
    let w = triggered_view t start s.fdt v.holds.valid in
    kept_stays s.fdt (triggered_of t start s.fdt).fdt (triggered_keeps s.fdt t start) w.sent_same w.same

pub trigger_kept : (s : Sender) (t : ℕ) (start : Time) → ValidSender s → Holds (prompting_of t start s).sender.fdt → FdtHolds (prompting_of t start s).sender.fdt
    → Kept s (Def.Call.touch t (Def.Touch.trigger (time_of start))) (Def.Answer.truth (prompting_of t start s).yes) (prompting_of t start s).sender
unfolding prompting_of Def.step
trigger_kept s t start v a b =
    let f = s.fdt in
    let r = (triggered_of t start f).fdt in
    let k = triggered_stays s v t start in
    record {
      means = λ u g. λ i. (Def.Answer.truth ((listed_answer s v t ∙ sym (triggered_answer t start f v.holds.valid)) i), sym (prompted_desk s v t start) i);
      agrees = λ u g. agrees_list u s r k.settings (triggered_keeps f t start).width g;
      valid = valid_list s r v k a b;
    }
