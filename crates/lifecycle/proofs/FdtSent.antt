-- Which slots are in transfer after each call: a take adds one, the end of a transfer takes one away, and no other call changes any.
use mathlib.Core.Path.{◌≡◌, refl, sym, ◌∙◌, ap, subst}
use mathlib.Core.Bool.{Bool, true, false, not, ◌&&◌, ◌||◌, false≢true}
use Rattle.std.specs.Prelude.{Option, None, Some}
use mathlib.Core.List.{List}
use Prim.Native.Nat.{ℕ, ◌+◌}
use native.Mathlib.Omega.{arith}
use lib.Dec.{eqb}
use borrow.Author.Tests.{eqb-true, eq-eqb}
use Rattle.sizes.specs.Words.{one_if, times, Counts}
use Rattle.sizes.specs.declared.refusal.Refusal.{Refusal}
use Rattle.sizes.proofs.Tests.{if_on}
use Rattle.lifecycle.specs.FileDesc.{started_life, done_life}
use Rattle.lifecycle.specs.Announce.{fdt_plan_of, next_of, queued_of}
use Rattle.lifecycle.specs.Slots.{no_slot, slot_at}
use Rattle.lifecycle.specs.FdtCalls.{Taken, Added, Published, sends, ValidFdt, completed_of, reserved_of, released_of, own_of, added_of, taken_of, done_of, with_published, publish_of, next_fdt_of, fdt_done_of}
use Rattle.lifecycle.proofs.FdtMeans.{SentSame, ListAdds, refused, admits, Takes, nothing, takes, is_taken, Ends, idle, back, gone}
use Rattle.lifecycle.specs.declared.parts.Part.{Part}
use Rattle.lifecycle.specs.declared.announce.Announcer.{Announcer}
use Rattle.lifecycle.specs.declared.fdt.Fdt.{Fdt}
use Rattle.lifecycle.specs.declared.fdt.Request.{Request}
use Rattle.lifecycle.proofs.FdtViews.{at_each, taken_view, done_view, published_at}
use Rattle.lifecycle.proofs.FdtKeeps.{marks_slot, publish_refusal_of, published_by, publish_as}
use Rattle.lifecycle.proofs.FdtAdds.{added_view}

-- ---- the same slots are in transfer

module _ (f r : Fdt) (h : SentSame f r) where
  pub same_counts : (l : List ℕ) → Counts no_slot sends f.slots l → Counts no_slot sends r.slots l
  same_counts l c j = c j ∙ sym (ap one_if (h j))

-- ---- take

module _ (f : Fdt) (v : ValidFdt f) (p now : ℕ) where
  -- in transfer from now on: the slot that was taken, and those that were
  pub taken_sent : (j : ℕ) → sends (slot_at (taken_of p now f).fdt.slots j) ≡ (is_taken (taken_of p now f).answer j || sends (slot_at f.slots j))
  unfolding started_life
  taken_sent = go (taken_of p now f) (taken_view f v p now)
    where
      go : (r : Taken) → Takes p now f r → (j : ℕ) → sends (slot_at r.fdt.slots j) ≡ (is_taken r.answer j || sends (slot_at f.slots j))
      go r (nothing e q) j = subst (λ (x : Taken). sends (slot_at x.fdt.slots j) ≡ (is_taken x.answer j || sends (slot_at f.slots j))) (sym q) refl
      go r (takes n k h w a s) j = at_each (λ j. sends (slot_at r.fdt.slots j) ≡ (eqb k j || sends (slot_at f.slots j))) k
          (ap sends s.new ∙ sym (ap (λ b. b || sends (slot_at f.slots k)) (eq-eqb k k refl)))
          (λ j e. ap sends (s.same j e) ∙ sym (ap (λ b. b || sends (slot_at f.slots j)) e)) j
          ∙ sym (ap (λ x. is_taken x j || sends (slot_at f.slots j)) a)

  -- it was not in transfer before
  pub taken_new : (j : ℕ) → is_taken (taken_of p now f).answer j ≡ true → sends (slot_at f.slots j) ≡ false
  taken_new = go (taken_of p now f) (taken_view f v p now)
    where
      go : (r : Taken) → Takes p now f r → (j : ℕ) → is_taken r.answer j ≡ true → sends (slot_at f.slots j) ≡ false
      go r (nothing e q) j t = absurd (false≢true (sym (ap (λ (x : Taken). is_taken x.answer j) q) ∙ t))
      go r (takes n k h w a s) j t = subst (λ i. sends (slot_at f.slots i) ≡ false) (eqb-true k j (sym (ap (λ x. is_taken x j) a) ∙ t)) w.unsent

  -- it joins a list that has each slot in transfer once
  pub taken_counts : (l m : List ℕ) → Counts no_slot sends f.slots l → ((j : ℕ) → times j m ≡ times j l + one_if (is_taken (taken_of p now f).answer j))
      → Counts no_slot sends (taken_of p now f).fdt.slots m
  taken_counts l m c h j =
      let a = c j in let b = h j in let d = ap one_if (taken_sent j) in
      let e = sum (is_taken (taken_of p now f).answer j) (sends (slot_at f.slots j)) (taken_new j) in omega arith
    where
      sum : (a b : Bool) → (a ≡ true → b ≡ false) → one_if (a || b) ≡ one_if b + one_if a
      sum true b n = let e = ap one_if (n refl) in omega arith
      sum false b n = omega arith

-- ---- done

module _ (f : Fdt) (v : ValidFdt f) (now k : ℕ) where
  -- in transfer from now on: those that were, but slot k
  pub done_sent : (j : ℕ) → sends (slot_at (done_of now k f).slots j) ≡ (not (eqb k j) && sends (slot_at f.slots j))
  unfolding done_life
  done_sent = go (done_of now k f) (done_view f v now k)
    where
      at_k : (x : Bool) → x ≡ false → x ≡ (not (eqb k k) && sends (slot_at f.slots k))
      at_k x e = e ∙ sym (ap (λ b. not b && sends (slot_at f.slots k)) (eq-eqb k k refl))

      off : (j : ℕ) → eqb k j ≡ false → sends (slot_at f.slots j) ≡ (not (eqb k j) && sends (slot_at f.slots j))
      off j e = sym (ap (λ b. not b && sends (slot_at f.slots j)) e)

      go : (r : Fdt) → Ends now k f r → (j : ℕ) → sends (slot_at r.slots j) ≡ (not (eqb k j) && sends (slot_at f.slots j))
      go r (idle s q) = subst (λ (x : Fdt). (j : ℕ) → sends (slot_at x.slots j) ≡ (not (eqb k j) && sends (slot_at f.slots j))) (sym q)
          (at_each (λ j. sends (slot_at f.slots j) ≡ (not (eqb k j) && sends (slot_at f.slots j))) k (at_k (sends (slot_at f.slots k)) s) off)
      go r (back s g t w) = at_each (λ j. sends (slot_at r.slots j) ≡ (not (eqb k j) && sends (slot_at f.slots j))) k
          (at_k (sends (slot_at r.slots k)) (ap sends w.new)) (λ j e. ap sends (w.same j e) ∙ off j e)
      go r (gone s g t w) = at_each (λ j. sends (slot_at r.slots j) ≡ (not (eqb k j) && sends (slot_at f.slots j))) k
          (at_k (sends (slot_at r.slots k)) (ap sends w.new)) (λ j e. ap sends (w.same j e) ∙ off j e)

  -- it leaves a list that has each slot in transfer once
  pub done_counts : (l m : List ℕ) → Counts no_slot sends f.slots l → ((j : ℕ) → times j m + one_if (eqb k j) ≡ times j l) → Counts no_slot sends (done_of now k f).slots m
  done_counts l m c h j =
      let a = c j in let b = h j in let d = ap one_if (done_sent j) in
      let e = less (eqb k j) (sends (slot_at f.slots j)) (times j m) (omega arith) in omega arith
    where
      less : (a b : Bool) (n : ℕ) → n + one_if a ≡ one_if b → n ≡ one_if (not a && b)
      less true true n q = omega arith
      less true false n q = absurd (omega arith)
      less false b n q = omega arith

-- ---- every other call; remove and trigger say it in their views

module _ (f : Fdt) where
  pub added_sent : ValidFdt f → (q : Request) (named : Option ℕ) → SentSame f (added_of f q named).fdt
  added_sent v q named = go (added_of f q named) (added_view f v q named)
    where
      go : (r : Added) → ListAdds f q (own_of q.own f.settings.sizes) named r → SentSame f r.fdt
      go r (refused a e) = subst (λ (x : Added). SentSame f x.fdt) (sym e) (λ j. refl)
      go r (admits k t h) = at_each (λ j. sends (slot_at r.fdt.slots j) ≡ sends (slot_at f.slots j)) k
          (ap sends h.view.new ∙ sym (ap sends h.free.blank)) (λ j e. ap sends (h.view.same j e))

  pub reserved_sent : SentSame f (reserved_of f).fdt
  unfolding reserved_of
  reserved_sent j = refl

  pub released_sent : (t : ℕ) → SentSame f (released_of t f).fdt
  unfolding released_of
  released_sent t j = refl

  pub completed_sent : SentSame f (completed_of f)
  completed_sent j = refl

  -- publishing
  announced_sent : (a : Announcer) → SentSame f (with_published f a)
  announced_sent a j = ap sends (published_at f.slots j) ∙ (marks_slot (slot_at f.slots j)).sent

  pub publish_sent : (now : ℕ) (c : Part) → SentSame f (publish_of now c f).fdt
  publish_sent now c = subst (λ (r : Published). SentSame f r.fdt) (sym (publish_as c f now)) (by (publish_refusal_of c f))
    where
      by : (o : Option Refusal) → SentSame f (published_by c f now o).fdt
      by (Some why) j = refl
      by None j = announced_sent (queued_of now c f.announcer) j

  pub next_fdt_sent : (now : ℕ) (draft : Option Part) → SentSame f (next_fdt_of now draft f).fdt
  unfolding next_fdt_of
  next_fdt_sent now draft =
      let n = next_of (fdt_plan_of f.settings.from_start f.settings.interval) f.settings.validity now draft f.announcer in
      if_on (SentSame f) n.taken (λ e. announced_sent n.announcer) (λ e j. refl)

  pub fdt_done_sent : (now : ℕ) → SentSame f (fdt_done_of now f)
  unfolding fdt_done_of
  fdt_done_sent now j = refl
