-- Add on the desk: refused as the definition says, or the object stands last in the queue with its number; and the sender stays valid.
use Rattle.sizes.specs.declared.refusal.Refusal.TheVariants as Because
use Rattle.sizes.specs.declared.refusal.Refusal.{Refusal}
use mathlib.Core.Path.{◌≡◌, refl, sym, ◌∙◌, ap, subst}
use mathlib.Core.Bool.{Bool, true, false, not, true≢false}
use Rattle.std.specs.Prelude.{Option, None, Some}
use mathlib.Core.List.{List, [], ◌∷◌, ◌++◌, map}
use Prim.Native.Nat.{ℕ, ◌+◌}
use native.Mathlib.Omega.{arith}
use lib.Dec.{eqb}
use borrow.Author.Tests.{eq-eqb}
use Rattle.sizes.specs.Words.{when◌then◌else◌, given, keep, any, one_if, times}
use Rattle.sizes.specs.Allocator as Alloc
use Rattle.sizes.specs.declared.partition.Sizes.{Sizes}
use Rattle.sizes.specs.declared.toiallocator.ToiAllocator.{ToiAllocator}
use Rattle.sizes.proofs.Lists.{map_append, has_none}
use Rattle.sizes.proofs.AllocatorViews.{held_split, loose_given, claimed_view}
use Rattle.sizes.proofs.Tests.{if_on}
use Rattle.lifecycle.specs.Lifecycle.{unborn}
use Rattle.lifecycle.specs.Setup.{Setup}
use Rattle.lifecycle.specs.FileDesc.{time_of}
use Rattle.lifecycle.specs.Slots.{slot_at}
use Rattle.lifecycle.specs.Announce.{state_of}
use Rattle.lifecycle.specs.FdtCalls.{files, sends, own_of, refusal, added_of}
use Rattle.lifecycle.specs.FdtCalls.{new_slot}
use Rattle.lifecycle.proofs.FdtMeans.{ListAdds, Admits, refused, admits}
use Rattle.lifecycle.specs.declared.fdt.Fdt.{Fdt}
use Rattle.lifecycle.specs.FdtCalls.{Added}
use Rattle.lifecycle.specs.declared.fdt.Request.{Request}
use Rattle.lifecycle.proofs.FdtViews.{at_each}
use Rattle.lifecycle.proofs.FdtKeeps.{ObjectsOnly, added_keeps}
use Rattle.lifecycle.proofs.FdtAdds.{added_view}
use Rattle.lifecycle.proofs.FdtSent.{added_sent}
use Rattle.lifecycle.proofs.FileDescLaws.{plan_as_named}
use Rattle.definition.specs.Desk as Def
use Rattle.sender.specs.SessionCalls.{Holds, object_of}
use Rattle.sender.specs.FdtSessionCalls.{FdtHolds, fdt_hand_of}
use Rattle.sender.specs.SenderCalls.{working, desk_of, Agrees, ValidSender, Kept, add_answer, object_said, with_list, has_priority, request_of, adding_of}
use Rattle.sender.specs.declared.sender.Sender.{Sender}
use Rattle.sender.specs.declared.sender.Object.{Object}
use Rattle.sender.specs.SenderCalls.{Adding}
use Rattle.sender.proofs.DeskCounts.{next_view}
use Rattle.sender.proofs.DeskChanges.{sessions_same, SentKept, kept_stays, valid_list, agrees_list}
use Rattle.sender.proofs.DeskRefusals.{own_view, add_refusal_view}

-- ---- what an add leaves alone

-- a slot that was free was not in transfer, so what is in transfer stays as it was
pub added_kept : (f : Fdt) (q : Request) (z : Sizes) (named : Option ℕ) (r : Added) → ListAdds f q z named r → SentKept f r.fdt
added_kept f q z named r (refused a e) = subst (λ (x : Added). SentKept f x.fdt) (sym e) (λ j s. refl)
added_kept f q z named r (admits k t h) = at_each (λ j. sends (slot_at f.slots j) ≡ true → slot_at r.fdt.slots j ≡ slot_at f.slots j) k
    (λ s. absurd (true≢false (sym s ∙ ap sends h.free.blank)))
    (λ j e s. h.view.same j e)

-- ---- the new object, and the numbers

-- the object of a new slot is the one that the definition makes
pub made_view : (u : Setup) (s : Sender) → Agrees u s → (o : Object) (t : ℕ)
    → object_of (new_slot (request_of o) (own_of o.own s.fdt.settings.sizes) t).file ≡ Def.made u t (object_said o)
unfolding request_of Def.made
made_view u s a o t =
    λ i. record {
      toi = t;
      priority = o.priority;
      part = o.part;
      sizes = sym (own_view u s.fdt.settings.sizes a.sizes o) i;
      plan = plan_as_named o.most o.carousel o.target o.stop_at_once i;
      life = unborn false (time_of o.start);
    }

-- a number that was put last is taken out again
unloosed_last : (t : ℕ) (l : List ℕ) → times t l ≡ 0 → keep (λ u. not (eqb u t)) (l ++ (t ∷ [])) ≡ l
unloosed_last t [] h = rw (eq-eqb t t refl)
unloosed_last t (a ∷ l) h = (elim (eqb a t) as (λ b. one_if b + times t l ≡ 0 → (when not b then a ∷ keep (λ u. not (eqb u t)) (l ++ (t ∷ [])) else keep (λ u. not (eqb u t)) (l ++ (t ∷ []))) ≡ a ∷ l)
    [ true ↦ λ z. absurd (omega arith) | false ↦ λ z. ap (λ r. a ∷ r) (unloosed_last t l (omega arith)) ]) h

module _ (u : Setup) (o : Object) (s : Sender) (agrees : Agrees u s) (v : ValidSender s) where
  abbrev own : Sizes
  own = own_of o.own s.fdt.settings.sizes

  -- with the new number and the loose ones that the desk has, the new desk is the definition's
  desk_more : (named : Option ℕ) (k t : ℕ) (r : Added) → ObjectsOnly s.fdt r.fdt → Admits s.fdt (request_of o) own named k t r → (d : Def.Desk)
      → d.complete ≡ s.fdt.complete → d.next ≡ r.fdt.tois.next → Def.unloosed t d.loose ≡ Alloc.loose r.fdt.tois
      → d.queue ≡ (desk_of s).queue → d.sessions ≡ (desk_of s).sessions → d.fdt ≡ (desk_of s).fdt
      → Def.admitted u t (object_said o) d ≡ desk_of (with_list s r.fdt)
  unfolding Def.admitted desk_of
  desk_more named k t r b h d complete next loose queue sessions fdt =
      let f = s.fdt in
      let kept = added_kept f (request_of o) own named r (admits k t h) in
      let more : map object_of (files r.fdt) ≡ map object_of (files f) ++ (Def.made u t (object_said o) ∷ [])
      = ap (map object_of) h.view.queue ∙ map_append object_of (files f) ((new_slot (request_of o) own t).file ∷ []) ∙ ap (λ x. map object_of (files f) ++ (x ∷ [])) (made_view u s agrees o t) in
      λ i. record {
        complete = (complete ∙ sym b.complete) i;
        next = next i;
        loose = loose i;
        queue = (ap (λ l. l ++ (Def.made u t (object_said o) ∷ [])) queue ∙ sym more) i;
        sessions = (sessions ∙ sym (sessions_same s v r.fdt.slots kept)) i;
        fdt = (fdt ∙ sym (ap (λ a. record { state = state_of a; hand = fdt_hand_of s.fdt_session }) b.announcer)) i;
      }

  -- the desk after an add that is not refused
  desk_added : (named : Option ℕ) (k t : ℕ) (r : Added) → ObjectsOnly s.fdt r.fdt → Admits s.fdt (request_of o) own named k t r
      → ◌≡◌ {A = Def.Result}
      (Def.Answer.number (Def.toi_for (desk_of s) named), Def.admitted u (Def.toi_for (desk_of s) named) (object_said o) (when given named then desk_of s else Def.reserved u (desk_of s)))
      (Def.Answer.number t, desk_of (with_list s r.fdt))
  unfolding Def.toi_for Def.reserved Def.numbered Def.unloosed desk_of
  desk_added (Some w) k t r b h =
      let n = h.number in
      let c = claimed_view s.fdt.tois v.holds.valid.tois w n.1 in
      let d = ap (λ x. Def.admitted u x (object_said o) (desk_of s)) (sym n.0)
      ∙ desk_more (Some w) k t r b h (desk_of s) refl
      (sym (ap (λ (a : ToiAllocator). a.next) n.2 ∙ c.next_same))
      (ap (λ x. keep (λ y. not (eqb y x)) (Alloc.loose s.fdt.tois)) n.0 ∙ sym (ap Alloc.loose n.2 ∙ c.loose_left))
      refl refl refl in
      λ i. (Def.Answer.number (sym n.0 i), d i)
  desk_added None k t r b h =
      let n = h.number in
      let a = s.fdt.tois in
      let va = v.holds.valid.tois in
      let away : times a.next (Alloc.loose a) ≡ 0 = (let x = held_split a a.next in let y = has_none a.next (Alloc.held a) va.next_free in omega arith) in
      let d = ap (λ x. Def.admitted u x (object_said o) (Def.reserved u (desk_of s))) (sym n.0)
      ∙ desk_more None k t r b h (Def.reserved u (desk_of s)) refl
      (next_view s v u agrees false n.1 ∙ sym (ap (λ (a : ToiAllocator). a.next) n.2))
      (ap (λ x. keep (λ y. not (eqb y x)) (Alloc.loose a ++ (a.next ∷ []))) n.0 ∙ unloosed_last a.next (Alloc.loose a) away ∙ sym (ap Alloc.loose n.2 ∙ loose_given a va n.1))
      refl refl refl in
      λ i. (Def.Answer.number (sym n.0 i), d i)

-- ---- the call

module _ (o : Object) (named : Option ℕ) (s : Sender) (v : ValidSender s) where
  abbrev call : Def.Call
  call = Def.Call.add named (object_said o)

  -- the refusal, or what an admitted add makes of the desk
  abbrev comes : Setup → Option Refusal → Def.Result
  comes u x = Def.unless x (desk_of s)
      (Def.Answer.number (Def.toi_for (desk_of s) named), Def.admitted u (Def.toi_for (desk_of s) named) (object_said o) (when given named then desk_of s else Def.reserved u (desk_of s)))

  step_is : (u : Setup) → Agrees u s → {b : Bool} → any (has_priority o.priority) (working s) ≡ b
      → Def.step u (desk_of s) call ≡ comes u (when not b then Some Because.NoPriority else refusal (added_of s.fdt (request_of o) named).answer)
  unfolding Def.step
  step_is u a e = ap (comes u) (add_refusal_view u s a v o named ∙ ap (λ b. when not b then Some Because.NoPriority else refusal (added_of s.fdt (request_of o) named).answer) e)

  -- what the list makes of it is what the definition says
  list_means : (u : Setup) → Agrees u s → (r : Added) → ListAdds s.fdt (request_of o) (own_of o.own s.fdt.settings.sizes) named r → ObjectsOnly s.fdt r.fdt
      → comes u (refusal r.answer) ≡ (add_answer r.answer, desk_of (with_list s r.fdt))
  list_means u a r (refused x e) b = subst (λ (r : Added). comes u (refusal r.answer) ≡ (add_answer r.answer, desk_of (with_list s r.fdt))) (sym e) refl
  list_means u a r (admits k t h) b =
      ap (λ x. comes u (refusal x)) h.answer ∙ desk_added u o s a v named k t r b h ∙ sym (ap (λ x. (add_answer x, desk_of (with_list s r.fdt))) h.answer)

  abbrev Good : Adding → Type 0
  Good r = Holds r.sender.fdt → FdtHolds r.sender.fdt → Kept s call (add_answer r.answer) r.sender

  add_kept_of : Good (adding_of o named s)
  unfolding adding_of request_of
  add_kept_of =
      let f = s.fdt in
      let r = added_of f (request_of o) named in
      let w = added_view f v.holds.valid (request_of o) named in
      let b = added_keeps f (request_of o) named in
      if_on Good (any (has_priority o.priority) (working s))
      (λ e h g. record {
        means = λ u a. step_is u a e ∙ list_means u a r w b;
        agrees = λ u a. agrees_list u s r.fdt b.settings b.width a;
        valid = valid_list s r.fdt v (kept_stays f r.fdt b (added_sent f v.holds.valid (request_of o) named) (added_kept f (request_of o) (own_of o.own f.settings.sizes) named r w)) h g;
      })
      (λ e h g. record { means = λ u a. step_is u a e; agrees = λ u a. a; valid = v })

pub add_kept : {s : Sender} (o : Object) (named : Option ℕ) → ValidSender s → Holds (adding_of o named s).sender.fdt → FdtHolds (adding_of o named s).sender.fdt
    → Kept s (Def.Call.add named (object_said o)) (add_answer (adding_of o named s).answer) (adding_of o named s).sender
add_kept {s} o named v h g = add_kept_of o named s v h g
