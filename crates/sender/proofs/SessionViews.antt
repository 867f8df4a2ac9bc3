-- A run of a file session is the definition's; what it leaves in hand, and what is in transfer after it.
use mathlib.Core.Path.{◌≡◌, refl, sym, ◌∙◌, ap, subst}
use mathlib.Core.Bool.{Bool, true, false, not, ◌&&◌, ◌||◌, true≢false, false≢true}
use Rattle.std.specs.Prelude.{Option, None, Some}
use mathlib.Core.List.{List, map}
use Prim.Native.Nat.{ℕ, ◌+◌, ◌≤◌}
use native.Mathlib.Omega.{arith}
use lib.Dec.{eqb}
use borrow.Author.Tests.{eqb-true, eq-eqb, ne_eqb}
use Rattle.sizes.specs.Words.{when◌then◌else◌, over, cut, place, drop_first, one_if, times, Counts}
use Rattle.sizes.proofs.Lists.{Hit}
use Rattle.sizes.specs.Limits.{largest_window}
use Rattle.sizes.proofs.Tests.{Tested, pass, fail, tested, and_left}
use Rattle.sizes.proofs.Lists.{found_none}
use Rattle.lifecycle.specs.Setup.{Setup}
use Rattle.lifecycle.specs.FileDesc.{startable_file}
use Rattle.lifecycle.specs.Slots.{no_slot, slot_at}
use Rattle.lifecycle.specs.Announce.{waits_of}
use Rattle.lifecycle.specs.FdtCalls.{file_at, files, sends, taken_of, Taken}
use Rattle.lifecycle.specs.FdtCalls.{started_slot}
use Rattle.lifecycle.proofs.FdtMeans.{Waits, Seen, Takes, nothing, takes}
use Rattle.lifecycle.specs.declared.slots.Slot.{Slot}
use Rattle.lifecycle.specs.declared.fdt.Fdt.{Fdt}
use Rattle.lifecycle.proofs.FdtFacts.{used_sends}
use Rattle.lifecycle.proofs.FdtViews.{at_each, taken_view}
use Rattle.lifecycle.proofs.TakesKeep.{started_sends}
use Rattle.definition.specs.Session as Def
use Rattle.sender.specs.EncoderCalls.{new_of}
use Rattle.sender.specs.SessionCalls.{object_of, hand_of, session_of, Holds, Runs, idle_of, begun_of, attended_of, taken_by, taken_on_of, again_by, ran_of, Turn}
use Rattle.sender.specs.SessionMeans.{InHand, Stands, queue_of}
use Rattle.sender.specs.declared.sendersession.SenderSession.{SenderSession}
use Rattle.sender.specs.declared.sendersession.Outcome.{Outcome}
use Rattle.sender.specs.declared.sendersession.Outcome.TheVariants.{Idle, Over}
use Rattle.sender.proofs.SessionFacts.{has_slot, packet_said, SameSide, FileRuns, same_side, same_on, taken_side}
use Rattle.sender.proofs.SessionLaws.{holds_taken}
use Rattle.sender.proofs.SessionRounds.{in_hand, has_sent, Rounds, waits, sent, ended, attended_round}
use Rattle.sender.proofs.SessionTakes.{find_startable, drop_startable, begun_hand, begun_valid}

-- ---- nothing in hand

-- nothing happens
nothing_means : (w : ℕ) (f : Fdt) → Holds f → (x : SenderSession) → x ≡ idle_of x.priority → (a : Outcome) → ((t : ℕ) → packet_said t a ≡ None)
    → FileRuns w f x (Def.idle (queue_of f) None) (record { answer = a; fdt = f; session = x })
nothing_means w f g x e a p = record {
  view = λ i. record { packet = sym (p (file_at f.slots x.slot).toi) i; queue = queue_of f; hand = when sym c i then Some (in_hand f x) else None };
  holds = g;
  stands = record { busy = λ t. absurd (false≢true (sym c ∙ t)); idle = λ t. e };
  priority = refl;
  sent = λ j. own_none (has_slot x j) (sends (slot_at f.slots j)) (ap (λ d. d && eqb x.slot j) c);
  new = λ j t n. absurd (true≢false (sym t ∙ n));
  others = λ j s n. refl;
  same = same_side f;
}
  where
    c : x.busy ≡ false
    c = ap (λ (y : SenderSession). y.busy) e

    own_none : (b s : Bool) → b ≡ false → s ≡ (b || (not b && s))
    own_none b s e = rw e

-- a round that is the last
last : {w : ℕ} {f : Fdt} {x : SenderSession} {m : Def.Round} {a : Turn} → Rounds w f x m a → FileRuns w f x (Def.last_round m) a
last (waits k) = k
last (sent k) = k
last {w} {x = x} (ended g h e on) = on _ _ (nothing_means w g h (idle_of x.priority) refl Over (λ t. refl))

-- what was taken was not in transfer, and is what the session has in hand, or is done
taken_own : (o e s t : Bool) → t ≡ (e || s) → (e ≡ true → s ≡ false) → (o || (not e && t)) ≡ (o || s)
taken_own o true s t q n = ap (λ z. o || z) (sym (n refl))
taken_own o false s t q n = ap (λ z. o || z) q

module _ (u : Setup) (w now : ℕ) (window : u.window ≡ w) (narrow : w ≤ largest_window) (f : Fdt) (g : Holds f) (x : SenderSession) (empty : x ≡ idle_of x.priority) where
  -- the definition's round, by what is found
  abbrev round_on : Option Def.Object → Def.Round
  round_on o =
      let h : Option Def.Hand × List Def.Object = elim o [ None ↦ (None, queue_of f) | Some o ↦ (Some (Def.begin now o), drop_first (Def.startable x.priority now) (queue_of f)) ] in
      elim h.0 [ None ↦ Def.Round.over (Def.idle h.1 None) | Some y ↦ Def.round_with u now (waits_of f.announcer) h.1 y ]

  -- the code's t, in which slot k has been taken from place n
  module _ (t : Fdt) (gt : Holds t) (st : SameSide f t) (n k : ℕ) (hi : Hit (startable_file x.priority now) (files f) n (file_at f.slots k)) (wt : Waits f n k)
      (s : Seen f (cut (files f) n) k (started_slot now (slot_at f.slots k)) t) where
    -- what the session is then
    abbrev y : SenderSession
    y = begun_of w now x.priority k (file_at t.slots k)

    k_in : sends (slot_at t.slots k) ≡ true
    k_in = ap sends s.new ∙ started_sends now (slot_at f.slots k)

    begun_in : InHand t w y
    unfolding begun_of new_of
    begun_in = record {
      slot = (let a = wt.inn in let b = g.valid.slots_long in omega arith);
      sent = k_in;
      encoder = begun_valid w now x.priority k (file_at t.slots k) (gt.good k (used_sends (slot_at t.slots k) k_in)) narrow;
      part = refl;
      sizes = refl;
      width = refl;
    }

    begun_same : in_hand t y ≡ Def.begin now (object_of (file_at f.slots k))
    unfolding begun_of new_of
    begun_same = ap (λ (v : Slot). hand_of v (begun_of w now x.priority k v.file)) s.new ∙ begun_hand w now x.priority k (slot_at f.slots k) wt.is_listed

    -- the definition takes the same object
    take_same : Def.round u x.priority now (waits_of f.announcer) (queue_of f) None ≡ Def.round_with u now (waits_of t.announcer) (queue_of t) (in_hand t y)
    unfolding Def.round Def.in_hand_or_next
    take_same = ap round_on (find_startable f g.valid x.priority now ∙ ap (over object_of) hi.first)
        ∙ (λ i. Def.round_with u now (waits_of (sym st.announcer i)) ((drop_startable f g.valid x.priority now ∙ ap (map object_of) (hi.rest ∙ sym s.queue)) i) (sym begun_same i))

    -- in transfer from now on: slot k, which was not, and those that were
    k_unsent : (j : ℕ) → eqb k j ≡ true → sends (slot_at f.slots j) ≡ false
    k_unsent j e = subst (λ i. sends (slot_at f.slots i) ≡ false) (eqb-true k j e) wt.unsent

    k_sent : (j : ℕ) → sends (slot_at t.slots j) ≡ (eqb k j || sends (slot_at f.slots j))
    k_sent = at_each (λ j. sends (slot_at t.slots j) ≡ (eqb k j || sends (slot_at f.slots j))) k
        (k_in ∙ sym (ap (λ b. b || sends (slot_at f.slots k)) (eq-eqb k k refl)))
        (λ j e. ap sends (s.same j e) ∙ sym (ap (λ b. b || sends (slot_at f.slots j)) e))

    k_apart : (j : ℕ) → sends (slot_at f.slots j) ≡ true → eqb k j ≡ false
    k_apart j e = ne_eqb k j (λ q. false≢true (sym (k_unsent j (eq-eqb k j q)) ∙ e))

    -- what is not in transfer after it was not before
    k_new : (j : ℕ) → Tested (eqb k j) → (eqb k j ≡ false → sends (slot_at t.slots j) ≡ false) → sends (slot_at f.slots j) ≡ false
    k_new j (pass e) h = k_unsent j e
    k_new j (fail e) h = sym (k_sent j ∙ ap (λ b. b || sends (slot_at f.slots j)) e) ∙ h e

    -- the take, and on from there
    starts : (m : Def.Turn) (r : Turn) → FileRuns w t y m r → FileRuns w f x m r
    unfolding begun_of
    starts m r h = record {
      view = h.view;
      holds = h.holds;
      stands = h.stands;
      priority = h.priority;
      sent = λ j. h.sent j ∙ taken_own (has_slot r.session j) (eqb k j) (sends (slot_at f.slots j)) (sends (slot_at t.slots j)) (k_sent j) (k_unsent j)
          ∙ sym (ap (λ b. has_slot r.session j || (not (b && eqb x.slot j) && sends (slot_at f.slots j))) (ap (λ (z : SenderSession). z.busy) empty));
      new = λ j a n. k_new j (tested (eqb k j)) (h.new j a);
      others = λ j e n. let a = k_apart j e in h.others j (ap sends (s.same j a) ∙ e) a ∙ s.same j a;
      same = same_on st h.same;
    }

    taken_means : FileRuns w f x (Def.last_round (Def.round u x.priority now (waits_of f.announcer) (queue_of f) None)) (attended_of now t y)
    unfolding begun_of
    taken_means = subst (λ m. FileRuns w f x (Def.last_round m) (attended_of now t y)) (sym take_same) (starts _ _ (last (attended_round u now w window t gt y begun_in refl)))

  -- nothing may start
  take_none : place (startable_file x.priority now) (files f) ≡ None → Def.round u x.priority now (waits_of f.announcer) (queue_of f) None ≡ Def.Round.over (Def.idle (queue_of f) None)
  unfolding Def.round Def.in_hand_or_next
  take_none e = ap round_on (find_startable f g.valid x.priority now ∙ ap (over object_of) (found_none (startable_file x.priority now) (files f) e).0)

  -- the whole round with nothing in hand
  taken_on_means : FileRuns w f x (Def.last_round (Def.round u x.priority now (waits_of f.announcer) (queue_of f) None)) (taken_on_of w now f x)
  unfolding taken_on_of
  taken_on_means = go (taken_of x.priority now f) (holds_taken f g x.priority now) (taken_side f x.priority now) (taken_view f g.valid x.priority now)
    where
      -- the definition's round, and the code's after what was taken
      P : Taken → Type 0
      P t = FileRuns w f x (Def.last_round (Def.round u x.priority now (waits_of f.announcer) (queue_of f) None)) (taken_by w now t.fdt x t.answer)

      go : (t : Taken) → Holds t.fdt → SameSide f t.fdt → Takes x.priority now f t → P t
      go t gt st (nothing e q) = subst P (sym q) (subst (λ m. FileRuns w f x (Def.last_round m) (record { answer = Idle; fdt = f; session = x })) (sym (take_none e)) (nothing_means w f g x empty Idle (λ t. refl)))
      go t gt st (takes n k hi wt a s) = subst (λ (b : Option ℕ). P (record { answer = b; fdt = t.fdt })) (sym a) (taken_means t.fdt gt st n k hi wt s)

-- ---- the whole run

module _ (u : Setup) (w now : ℕ) (window : u.window ≡ w) (f : Fdt) (x : SenderSession) (runs : Runs f w x) (st : Stands f w x) where
  -- the definition's run, by its first round
  abbrev run_on : Def.Round → Def.Turn
  run_on m = elim m [ Def.Round.over t ↦ t | Def.Round.again q ↦ Def.last_round (Def.round u x.priority now (waits_of f.announcer) q None) ]

  -- after the first round; at the end of a transfer, another
  second_means : {m : Def.Round} {a : Turn} → Rounds w f x m a → FileRuns w f x (run_on m) (again_by w now a a.answer)
  second_means (waits k) = k
  second_means (sent k) = k
  second_means (ended g h e on) = on _ _ (
      let y = idle_of x.priority in
      subst (λ b. FileRuns w g y (Def.last_round (Def.round u x.priority now (waits_of b) (queue_of g) None)) (taken_on_of w now g y)) e
      (taken_on_means u w now window runs.narrow g h y refl))

  pub ran_means : FileRuns w f x (Def.file_run u x.priority now (waits_of f.announcer) (queue_of f) (session_of f.slots x).hand) (ran_of w now f x)
  unfolding Def.file_run Def.round Def.in_hand_or_next ran_of
  ran_means = go (tested x.busy)
    where
      -- both runs, by whether an object is in hand
      P : Bool → Type 0
      P b = FileRuns w f x (Def.file_run u x.priority now (waits_of f.announcer) (queue_of f) (when b then Some (in_hand f x) else None))
          (when b then again_by w now (attended_of now f x) (attended_of now f x).answer else taken_on_of w now f x)

      go : Tested x.busy → P x.busy
      go (fail b) = subst P (sym b) (taken_on_means u w now window runs.narrow f runs.holds x (st.idle b))
      go (pass b) = subst P (sym b) (second_means (attended_round u now w window f runs.holds x (st.busy b) b))

  pub ran_hand : Stands (ran_of w now f x).fdt w (ran_of w now f x).session
  ran_hand = ran_means.stands

  -- a list that has each slot in transfer once, with what is in hand now in the place of what was
  pub ran_counts : (l m : List ℕ) → Counts no_slot sends f.slots l → ((j : ℕ) → times j m + one_if (has_slot x j) ≡ times j l + one_if (has_slot (ran_of w now f x).session j))
      → Counts no_slot sends (ran_of w now f x).fdt.slots m
  ran_counts l m c h j =
      let r = ran_of w now f x in
      let a = c j in let b = h j in let d = ap one_if (ran_means.sent j) in
      let e = moved (has_slot r.session j) (has_slot x j) (sends (slot_at f.slots j)) (had j) (ran_means.new j) in omega arith
    where
      had : (j : ℕ) → has_slot x j ≡ true → sends (slot_at f.slots j) ≡ true
      had j e = has_sent w f x (st.busy (and_left x.busy (eqb x.slot j) e)) j e

      moved : (a b s : Bool) → (b ≡ true → s ≡ true) → (a ≡ true → b ≡ false → s ≡ false) → one_if (a || (not b && s)) + one_if b ≡ one_if s + one_if a
      moved true true s p q = let e = ap one_if (p refl) in omega arith
      moved true false s p q = let e = ap one_if (q refl refl) in omega arith
      moved false true s p q = let e = ap one_if (p refl) in omega arith
      moved false false s p q = omega arith

  -- another session: what it has in hand is not this one's
  module _ (z : SenderSession) (sz : Stands f w z) (other : z.busy ≡ true → has_slot x z.slot ≡ false) where
    other_slot : z.busy ≡ true → slot_at (ran_of w now f x).fdt.slots z.slot ≡ slot_at f.slots z.slot
    other_slot b = ran_means.others z.slot (sz.busy b).sent (other b)

    pub ran_stands : Stands (ran_of w now f x).fdt w z
    ran_stands = record {
      busy = λ b. (
          let h = sz.busy b in
          let e = other_slot b in
          record {
            slot = h.slot;
            sent = ap sends e ∙ h.sent;
            encoder = h.encoder;
            part = h.part ∙ sym (ap (λ (v : Slot). v.file.part) e);
            sizes = h.sizes ∙ sym (ap (λ (v : Slot). v.file.sizes) e);
            width = h.width;
          });
      idle = sz.idle;
    }

    pub ran_session : session_of (ran_of w now f x).fdt.slots z ≡ session_of f.slots z
    ran_session = go (tested z.busy)
      where
        -- the session in the definition's words, by whether an object is in hand
        S : Slot → Bool → Def.Session
        S v b = record { priority = z.priority; hand = when b then Some (hand_of v z) else None }

        go : Tested z.busy → session_of (ran_of w now f x).fdt.slots z ≡ session_of f.slots z
        go (pass b) = ap (λ v. S v z.busy) (other_slot b)
        go (fail b) = ap (S (slot_at (ran_of w now f x).fdt.slots z.slot)) b ∙ sym (ap (S (slot_at f.slots z.slot)) b)
