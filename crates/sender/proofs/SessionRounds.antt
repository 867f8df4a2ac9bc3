-- A round of a file session with an object in hand is the definition's; what it leaves in hand, and what is in transfer after it.
use mathlib.Core.Path.{◌≡◌, refl, sym, ◌∙◌, ap, subst}
use mathlib.Core.Bool.{Bool, true, false, not, ◌&&◌, ◌||◌, true≢false}
use Rattle.std.specs.Prelude.{Option, None, Some}
use mathlib.Core.List.{List, [], ◌∷◌, ◌++◌, map}
use Prim.Native.Nat.{ℕ}
use lib.Dec.{eqb}
use borrow.Author.Tests.{eqb-true}
use Rattle.sizes.specs.Words.{when◌then◌else◌}
use Rattle.sizes.proofs.Tests.{and_right}
use Rattle.sizes.proofs.Lists.{map_append}
use Rattle.lifecycle.specs.Lifecycle.{too_early}
use Rattle.lifecycle.specs.Setup.{Setup}
use Rattle.lifecycle.specs.FileDesc.{pace_said, ticked_of}
use Rattle.lifecycle.specs.Slots.{slot_at}
use Rattle.lifecycle.specs.Announce.{waits_of}
use Rattle.lifecycle.specs.FdtCalls.{file_at, files, sends, goes_back, ended_file, done_of}
use Rattle.lifecycle.proofs.FdtMeans.{Ends, idle, back, gone}
use Rattle.lifecycle.specs.declared.slots.Slot.{Slot}
use Rattle.lifecycle.specs.declared.fdt.Fdt.{Fdt}
use Rattle.lifecycle.proofs.FileDescLaws.{life_done, ticked_view}
use Rattle.lifecycle.proofs.FdtViews.{done_view}
use Rattle.lifecycle.proofs.FdtSent.{done_sent}
use Rattle.lifecycle.proofs.TakesKeep.{goes_back_as, done_other}
use Rattle.definition.specs.Encoder as DefEncoder
use Rattle.definition.specs.Session as Def
use Rattle.sender.specs.EncoderCalls.{encoder_of, symbol_said, emitted_said, read_of, Reads, Read}
use Rattle.sender.specs.SessionCalls.{object_of, hand_of, Holds, idle_of, forced_slot, service_by, served_of, ran_by, attended_of, Turn, Serving}
use Rattle.sender.specs.SessionMeans.{InHand, queue_of}
use Rattle.sender.specs.declared.blockencoder.BlockEncoder.{BlockEncoder}
use Rattle.sender.specs.declared.blockencoder.Symbol.{Symbol}
use Rattle.sender.specs.declared.sendersession.SenderSession.{SenderSession}
use Rattle.sender.specs.declared.sendersession.Outcome.{Outcome}
use Rattle.sender.specs.declared.sendersession.Outcome.TheVariants.{Idle, Sent, Over}
use Rattle.sender.proofs.EncoderReads.{read_means}
use Rattle.sender.proofs.SessionFacts.{has_slot, turn_of, FileRuns, same_side, same_on, done_side}
use Rattle.sender.proofs.SessionLaws.{holds_done}

-- what the definition has in hand
abbrev pub in_hand : Fdt → SenderSession → Def.Hand
in_hand f x = hand_of (slot_at f.slots x.slot) x

-- the session after a packet
abbrev after : SenderSession → BlockEncoder → SenderSession
after x y = record { priority = x.priority; busy = x.busy; slot = x.slot; pace = ticked_of x.pace; encoder = y }

-- ---- the definition's words for what a round leaves

-- it goes back where the definition puts it back
back_same : (now : ℕ) (v : Slot) (x : SenderSession) (b : Bool) → goes_back now v ≡ b → (q : List Def.Object)
    → Def.put_back now (hand_of v x) q ≡ (when b then q ++ (object_of (ended_file now v) ∷ []) else q)
unfolding Def.put_back
back_same now v x b e q = λ i. when (sym (goes_back_as now v) ∙ e) i then q ++ (Def.living (sym (life_done now v.file.life) i) (object_of v.file) ∷ []) else q

module _ (now w : ℕ) (f : Fdt) (g : Holds f) (x : SenderSession) (h : InHand f w x) where
  -- what waits after the end of the transfer
  done_queue : Def.put_back now (in_hand f x) (queue_of f) ≡ queue_of (done_of now x.slot f)
  done_queue = go (done_of now x.slot f) (done_view f g.valid now x.slot)
    where
      go : (r : Fdt) → Ends now x.slot f r → Def.put_back now (in_hand f x) (queue_of f) ≡ queue_of r
      go r (idle s q) = absurd (true≢false (sym h.sent ∙ s))
      go r (back s e t m) = back_same now (slot_at f.slots x.slot) x true e (queue_of f) ∙ sym (ap (map object_of) m.queue ∙ map_append object_of (files f) (ended_file now (slot_at f.slots x.slot) ∷ []))
      go r (gone s e t m) = back_same now (slot_at f.slots x.slot) x false e (queue_of f) ∙ sym (ap (map object_of) m.queue)

  module _ (b : x.busy ≡ true) where
    -- it stays in hand
    still_view : Def.idle (queue_of f) (Some (in_hand f x)) ≡ turn_of (record { answer = Idle; fdt = f; session = x })
    still_view = ap (λ c. Def.idle (queue_of f) (when c then Some (in_hand f x) else None)) (sym b)

    -- a symbol of it was sent
    sent_view : (s : Symbol) (y : BlockEncoder) → Def.sent (queue_of f) (in_hand f x) (encoder_of y) (symbol_said s) ≡ turn_of (record { answer = Sent s; fdt = f; session = after x y })
    unfolding Def.sent
    sent_view s y = λ i. record {
      packet = Some record { id = None; toi = (file_at f.slots x.slot).toi; symbol = symbol_said s };
      queue = queue_of f;
      hand = when sym b i then Some record {
        object = object_of (file_at f.slots x.slot);
        listed = (slot_at f.slots x.slot).listed;
        encoder = encoder_of y;
        pace = sym (ticked_view x.pace) i;
      } else None;
    }

-- ---- what a round keeps

-- a slot in hand is in transfer, and stays so
own_sent : (b s : Bool) → (b ≡ true → s ≡ true) → s ≡ (b || (not b && s))
own_sent true s h = h refl
own_sent false s h = refl

pub has_sent : (w : ℕ) (f : Fdt) (x : SenderSession) → InHand f w x → (j : ℕ) → has_slot x j ≡ true → sends (slot_at f.slots j) ≡ true
has_sent w f x h j e = subst (λ k. sends (slot_at f.slots k) ≡ true) (eqb-true x.slot j (and_right x.busy (eqb x.slot j) e)) h.sent

-- once it is done, only the others are
done_own : (o b e s t : Bool) → b ≡ true → t ≡ (not e && s) → (o || t) ≡ (o || (not (b && e) && s))
done_own o b e s t p q = rw (p, q)

module _ (now w : ℕ) (f : Fdt) (g : Holds f) (x : SenderSession) (h : InHand f w x) (b : x.busy ≡ true) where
  -- the same object stays in hand
  keeps : (m : Def.Turn) (a : Outcome) (y : SenderSession) → y.busy ≡ true → y.priority ≡ x.priority → ((j : ℕ) → has_slot y j ≡ has_slot x j) → InHand f w y
      → m ≡ turn_of (record { answer = a; fdt = f; session = y }) → FileRuns w f x m (record { answer = a; fdt = f; session = y })
  keeps m a y c p o i v = record {
    view = v;
    holds = g;
    stands = record { busy = λ e. i; idle = λ e. absurd (true≢false (sym c ∙ e)) };
    priority = p;
    sent = λ j. own_sent (has_slot x j) (sends (slot_at f.slots j)) (has_sent w f x h j) ∙ sym (ap (λ z. z || (not (has_slot x j) && sends (slot_at f.slots j))) (o j));
    new = λ j a n. absurd (true≢false (sym a ∙ o j ∙ n));
    others = λ j s n. refl;
    same = same_side f;
  }

  -- a slot that it has not in hand is another
  apart : (j : ℕ) → has_slot x j ≡ false → eqb x.slot j ≡ false
  apart j n = sym (ap (λ c. c && eqb x.slot j) b) ∙ n

  -- the end of the transfer, and on from there
  after_end : (m : Def.Turn) (r : Turn) → FileRuns w (done_of now x.slot f) (idle_of x.priority) m r → FileRuns w f x m r
  after_end m r k = record {
    view = k.view;
    holds = k.holds;
    stands = k.stands;
    priority = k.priority;
    sent = λ j. k.sent j ∙ done_own (has_slot r.session j) x.busy (eqb x.slot j) (sends (slot_at f.slots j)) (sends (slot_at (done_of now x.slot f).slots j)) b (done_sent f g.valid now x.slot j);
    new = λ j a n. (
        let e = apart j n in
        sym (done_sent f g.valid now x.slot j ∙ ap (λ c. not c && sends (slot_at f.slots j)) e) ∙ k.new j a refl);
    others = λ j s n. (
        let e = apart j n in
        k.others j (done_sent f g.valid now x.slot j ∙ (λ i. not (e i) && s i)) refl ∙ done_other f g.valid now x.slot j e);
    same = same_on (done_side f g.valid now x.slot) k.same;
  }

-- ---- the round

-- a round of the code is the definition's: nothing is sent, or a symbol is; or the transfer is over, and what comes after it comes after the round
pub data Rounds (w : ℕ) (f : Fdt) (x : SenderSession) : Def.Round → Turn → Type 0 where
  waits : {t : Def.Turn} {y : SenderSession} → FileRuns w f x t (record { answer = Idle; fdt = f; session = y }) → Rounds w f x (Def.Round.over t) (record { answer = Idle; fdt = f; session = y })
  sent : {t : Def.Turn} {s : Symbol} {y : SenderSession} → FileRuns w f x t (record { answer = Sent s; fdt = f; session = y }) → Rounds w f x (Def.Round.over t) (record { answer = Sent s; fdt = f; session = y })
  ended : (g : Fdt) → Holds g → g.announcer ≡ f.announcer → ((m : Def.Turn) (r : Turn) → FileRuns w g (idle_of x.priority) m r → FileRuns w f x m r)
      → Rounds w f x (Def.Round.again (queue_of g)) (record { answer = Over; fdt = g; session = idle_of x.priority })

module _ (u : Setup) (now w : ℕ) (window : u.window ≡ w) (f : Fdt) (g : Holds f) (x : SenderSession) (h : InHand f w x) (b : x.busy ≡ true) where
  abbrev force : Bool
  force = forced_slot (slot_at f.slots x.slot)

  -- the code's read
  abbrev r : Read
  r = read_of force x.encoder

  r_means : Reads force x.encoder r
  r_means = read_means force x.encoder h.encoder

  -- the definition's is the same
  read_same : ◌≡◌ {A = Option DefEncoder.Symbol × DefEncoder.Encoder} (emitted_said r.answer, encoder_of r.encoder)
      (DefEncoder.read u.window (file_at f.slots x.slot).part (file_at f.slots x.slot).sizes force (encoder_of x.encoder))
  read_same = (λ i. (r_means.said i, r_means.next i)) ∙ (λ i. DefEncoder.read ((h.width ∙ sym window) i) (h.part i) (h.sizes i) force (encoder_of x.encoder))

  read_in_hand : InHand f w (after x r.encoder)
  read_in_hand = record {
    slot = h.slot;
    sent = h.sent;
    encoder = r_means.valid;
    part = ap (λ c. c.part) r_means.content ∙ h.part;
    sizes = ap (λ c. c.sizes) r_means.content ∙ h.sizes;
    width = r_means.width ∙ h.width;
  }

  pub attended_round : Rounds w f x (Def.round_with u now (waits_of f.announcer) (queue_of f) (in_hand f x)) (attended_of now f x)
  unfolding Def.round_with Def.forced forced_slot attended_of served_of
  attended_round = subst (λ z. Rounds w f x (round_by (waits_of f.announcer) (too_early now (pace_said x.pace)) z) (attended_of now f x)) read_same
      (go (waits_of f.announcer) (too_early now (pace_said x.pace)) r.answer)
    where
      still : Def.Turn
      still = Def.idle (queue_of f) (Some (in_hand f x))

      -- the definition's round, by whether an FDT is queued, whether it is too early, and what is read
      round_by : Bool → Bool → Option DefEncoder.Symbol × DefEncoder.Encoder → Def.Round
      round_by queued early z = when queued then Def.Round.over still else when early then Def.Round.over still
          else elim z.0 [ None ↦ Def.Round.again (Def.put_back now (in_hand f x) (queue_of f)) | Some y ↦ Def.Round.over (Def.sent (queue_of f) (in_hand f x) z.1 y) ]

      -- the code's
      ran_after : Bool → Bool → Option Symbol → Turn
      ran_after queued early a =
          let s : Serving = when queued || early then record { answer = Idle; session = x } else service_by x r.encoder a in
          ran_by now f x s.session s.answer

      resting : Rounds w f x (Def.Round.over still) (record { answer = Idle; fdt = f; session = x })
      resting = waits (keeps now w f g x h b still Idle x b refl (λ j. refl) h (still_view now w f g x h b))

      go : (queued early : Bool) (a : Option Symbol) → Rounds w f x (round_by queued early (emitted_said a, encoder_of r.encoder)) (ran_after queued early a)
      go true early a = resting
      go false true a = resting
      go false false (Some s) = sent (keeps now w f g x h b _ (Sent s) (after x r.encoder) b refl (λ j. refl) read_in_hand (sent_view now w f g x h b s r.encoder))
      go false false None =
          let d = done_of now x.slot f in
          subst (λ q. Rounds w f x (Def.Round.again q) (record { answer = Over; fdt = d; session = idle_of x.priority })) (sym (done_queue now w f g x h))
          (ended d (holds_done f g now x.slot) (done_side f g.valid now x.slot).announcer (after_end now w f g x h b))
