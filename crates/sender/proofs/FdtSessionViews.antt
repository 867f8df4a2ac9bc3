-- A run of the FDT session is the definition's; what it leaves in hand, and what it marks.
use mathlib.Core.Path.{◌≡◌, refl, sym, ◌∙◌, ap, subst}
use mathlib.Core.Bool.{Bool, true, false, ◌||◌, true≢false, false≢true}
use Rattle.std.specs.Prelude.{Option, None, Some}
use mathlib.Core.List.{List}
use Prim.Native.Nat.{ℕ, ◌≤◌}
use Rattle.sizes.specs.Words.{when◌then◌else◌, given}
use Rattle.sizes.specs.Limits.{largest_window}
use Rattle.sizes.specs.declared.partition.Sizes.{Sizes}
use Rattle.sizes.proofs.Tests.{Tested, pass, fail, tested}
use Rattle.lifecycle.specs.Setup.{Setup}
use Rattle.lifecycle.specs.Fdt as DefState
use Rattle.lifecycle.specs.FileDesc.{plan_of}
use Rattle.lifecycle.specs.Announce.{instance_of, state_of, fdt_plan_of}
use Rattle.lifecycle.specs.FdtCalls.{next_fdt_of, fdt_done_of, NextFdt}
use Rattle.lifecycle.specs.declared.parts.Part.{Part}
use Rattle.lifecycle.specs.declared.slots.Slot.{Slot}
use Rattle.lifecycle.specs.declared.announce.Announcer.{Announcer}
use Rattle.lifecycle.specs.declared.fdt.Fdt.{Fdt}
use Rattle.lifecycle.specs.declared.fdt.Settings.{Settings}
use Rattle.lifecycle.proofs.AnnounceLaws.{plan_said, state_done}
use Rattle.lifecycle.proofs.AnnounceLaws as Laws
use Rattle.lifecycle.proofs.AnnounceKeep.{SameObjects, objects_same, objects_on, marked_slots, next_fdt_taken, next_fdt_starts, next_fdt_side, next_fdt_objects, next_fdt_slots, next_fdt_untaken, next_fdt_current, fdt_done_side, fdt_done_objects, fdt_done_slots}
use Rattle.definition.specs.Encoder as DefEncoder
use Rattle.definition.specs.FdtSession as Def
use Rattle.sender.specs.EncoderCalls.{encoder_of, symbol_said, emitted_said, new_of, read_of, Reads, Read}
use Rattle.sender.specs.FdtSessionCalls.{fdt_hand_of, FdtHolds, GoodDraft, FdtTries, left_of, fdt_idle_of, fdt_begun_of, fdt_sent_by, fdt_sent_of, fdt_attempted_of, fdt_again_by, fdt_ran_of, FdtTurn}
use Rattle.sender.specs.SessionMeans.{FdtInHand, fdt_of}
use Rattle.sender.specs.declared.blockencoder.Symbol.{Symbol}
use Rattle.sender.specs.declared.sendersession.Outcome.TheVariants.{Idle, Sent, Over}
use Rattle.sender.specs.declared.fdtsession.FdtSession.{FdtSession}
use Rattle.sender.proofs.EncoderReads.{read_means}
use Rattle.sender.proofs.FdtSessionFacts.{FdtStands, fdt_idle_stands, SetFor, FdtTurns}
use Rattle.sender.proofs.FdtSessionLaws.{fdt_holds_next, fdt_holds_done, fdt_begun_valid, good_left}

-- where a run from list g is, once it has taken the draft or not
record Reached (g : Fdt) (taken : Bool) (f : Fdt) : Type 0 where
  holds : FdtHolds f
  slots : f.slots ≡ marked_slots taken g.slots
  same : SameObjects g f

-- once the FDT's transfer has ended
done_view : (now : ℕ) (f : Fdt) → fdt_of (fdt_done_of now f) fdt_idle_of ≡ record { state = DefState.fdt_done now (state_of f.announcer); hand = None }
done_view now f = ap (λ s. record { state = s; hand = None }) (ap state_of (fdt_done_side now f) ∙ state_done now f.announcer)

-- ---- the next FDT

left_untaken : (now : ℕ) (draft : Option Part) (f : Fdt) (taken : Bool) → taken ≡ true → (next_fdt_of now (left_of draft taken) f).taken ≡ false
left_untaken now draft f true e = next_fdt_untaken now f
left_untaken now draft f false e = absurd (false≢true e)

-- what is marked is marked once
marked_once : (a b : Bool) (t : List Slot) → (a ≡ true → b ≡ false) → marked_slots b (marked_slots a t) ≡ marked_slots (a || b) t
marked_once true b t h = ap (λ c. marked_slots c (marked_slots true t)) (h refl)
marked_once false b t h = refl

-- the session with the FDT that starts, or as it was
abbrev begins : ℕ → Sizes → FdtSession → Announcer → Bool → FdtSession
begins w z x a b = when b then fdt_begun_of w a.current.id a.current.part z else x

begins_hand : (w : ℕ) (z : Sizes) (x : FdtSession) (a : Announcer) (b : Bool) → x.busy ≡ false
    → fdt_hand_of (begins w z x a b) ≡ Def.fdt_begun (when b then Some (instance_of a.current) else None)
unfolding fdt_begun_of new_of
begins_hand w z x a true e = refl
begins_hand w z x a false e = rw e

begins_stands : (w : ℕ) (f : Fdt) (x : FdtSession) (b : Bool) → w ≤ largest_window → FdtHolds f → (b ≡ true → f.announcer.has_current ≡ true) → x ≡ fdt_idle_of
    → FdtStands f w (begins w f.settings.sizes x f.announcer b)
unfolding fdt_begun_of new_of
begins_stands w f x true n h c e = record {
  busy = λ t. (
      let k = h.current (c refl) in
      record { encoder = fdt_begun_valid w f.announcer.current.id f.announcer.current.part f.settings.sizes n k; sizes = refl; width = refl });
  idle = λ t. absurd (true≢false t);
}
begins_stands w f x false n h c e = record { busy = λ t. absurd (false≢true (sym (ap (λ (y : FdtSession). y.busy) e) ∙ t)); idle = λ t. e }

-- the next FDT is the definition's
module _ (u : Setup) (w now : ℕ) (f : Fdt) (set : SetFor u w f.settings) (h : FdtHolds f) (draft : Option Part) where
  -- what the definition asks for
  abbrev asked : DefState.Next
  asked = DefState.next_fdt u now draft (state_of f.announcer)

  planned : plan_of (fdt_plan_of f.settings.from_start f.settings.interval) ≡ DefState.fdt_plan u
  planned = plan_said u f.settings.from_start f.settings.interval set.carousel

  asked_taken : (next_fdt_of now draft f).taken ≡ asked.taken
  asked_taken = next_fdt_taken now draft f ∙ Laws.next_taken f.announcer h.valid.fdts u (fdt_plan_of f.settings.from_start f.settings.interval) f.settings.validity now draft set.validity planned

  asked_state : state_of (next_fdt_of now draft f).fdt.announcer ≡ asked.state
  asked_state = ap state_of (next_fdt_side now draft f) ∙ Laws.next_state f.announcer h.valid.fdts u (fdt_plan_of f.settings.from_start f.settings.interval) f.settings.validity now draft set.validity planned

  asked_starts : (when (next_fdt_of now draft f).starts then Some (instance_of (next_fdt_of now draft f).fdt.announcer.current) else None) ≡ asked.starts
  asked_starts = (λ i. when next_fdt_starts now draft f i then Some (instance_of (next_fdt_side now draft f i).current) else None)
      ∙ Laws.next_starts f.announcer h.valid.fdts u (fdt_plan_of f.settings.from_start f.settings.interval) f.settings.validity now draft set.validity planned

-- ---- a round

-- a round of the code, in a run from list g, is the definition's: nothing is sent, or a symbol is; or the transfer is over
data FdtRounds (w : ℕ) (g : Fdt) : Def.FdtRound → FdtTurn → Type 0 where
  waits : {m : Def.FdtTurn} {t : Bool} {f : Fdt} {y : FdtSession} → FdtTurns w g m (record { taken = t; answer = Idle; fdt = f; session = y })
      → FdtRounds w g (Def.FdtRound.over m) (record { taken = t; answer = Idle; fdt = f; session = y })
  sent : {m : Def.FdtTurn} {t : Bool} {s : Symbol} {f : Fdt} {y : FdtSession} → FdtTurns w g m (record { taken = t; answer = Sent s; fdt = f; session = y })
      → FdtRounds w g (Def.FdtRound.over m) (record { taken = t; answer = Sent s; fdt = f; session = y })
  ended : (t : Bool) (f : Fdt) → Reached g t f → FdtRounds w g (Def.FdtRound.again t (fdt_of f fdt_idle_of)) (record { taken = t; answer = Over; fdt = f; session = fdt_idle_of })

module _ (u : Setup) (w now : ℕ) (g : Fdt) (set : SetFor u w g.settings) where
  sent_round : (taken : Bool) (f : Fdt) (x : FdtSession) → Reached g taken f → FdtStands f w x
      → FdtRounds w g (Def.fdt_round_with u now taken (state_of f.announcer) (fdt_hand_of x)) (fdt_sent_of now taken f x)
  unfolding Def.fdt_round_with Def.fdt_sent fdt_sent_of
  sent_round taken f x re st = go (tested x.busy)
    where
      -- what the definition has in hand
      handed : Def.FdtHand
      handed = record { id = x.id; part = x.encoder.content.part; encoder = encoder_of x.encoder }

      r : Read
      r = read_of false x.encoder

      -- both rounds, by whether an FDT is in hand
      P : Bool → Type 0
      P b = FdtRounds w g (Def.fdt_round_with u now taken (state_of f.announcer) (when b then Some handed else None))
          (when b then fdt_sent_by now taken f x r.encoder r.answer else record { taken = taken; answer = Idle; fdt = f; session = x })

      -- the definition's, by what is read
      round_by : Option DefEncoder.Symbol × DefEncoder.Encoder → Def.FdtRound
      round_by z = elim z.0 [ None ↦ Def.FdtRound.again taken (record { state = DefState.fdt_done now (state_of f.announcer); hand = None }) | Some y ↦ Def.FdtRound.over (Def.fdt_sent taken (state_of f.announcer) handed z.1 y) ]

      reads : x.busy ≡ true → Reads false x.encoder r → FdtInHand f w x → (a : Option Symbol) → FdtRounds w g (round_by (emitted_said a, encoder_of r.encoder)) (fdt_sent_by now taken f x r.encoder a)
      reads b m h None = subst (λ d. FdtRounds w g (Def.FdtRound.again taken d) (record { taken = taken; answer = Over; fdt = fdt_done_of now f; session = fdt_idle_of })) (done_view now f)
          (ended taken (fdt_done_of now f) (record { holds = fdt_holds_done now f re.holds; slots = fdt_done_slots now f ∙ re.slots; same = objects_on re.same (fdt_done_objects now f) }))
      reads b m h (Some s) = sent (record {
        view = λ i. record {
          taken = taken;
          packet = Some record { id = Some x.id; toi = 0; symbol = symbol_said s };
          fdt = record { state = state_of f.announcer; hand = when sym b i then Some record { id = x.id; part = (sym m.content i).part; encoder = encoder_of r.encoder } else None };
        };
        holds = re.holds;
        stands = record {
          busy = λ c. record { encoder = m.valid; sizes = ap (λ c. c.sizes) m.content ∙ h.sizes; width = m.width ∙ h.width };
          idle = λ c. absurd (true≢false (sym b ∙ c));
        };
        slots = re.slots;
        same = re.same;
      })

      go : Tested x.busy → P x.busy
      go (fail b) = subst P (sym b) (waits (record {
        view = λ i. record { taken = taken; packet = None; fdt = record { state = state_of f.announcer; hand = when sym b i then Some handed else None } };
        holds = re.holds;
        stands = st;
        slots = re.slots;
        same = re.same;
      }))
      go (pass b) =
          let h = st.busy b in
          let m = read_means false x.encoder h.encoder in
          let z : u.sizes ≡ f.settings.sizes = set.sizes ∙ sym (ap (λ (z : Settings). z.sizes) re.same.settings) in
          subst P (sym b) (subst (λ d. FdtRounds w g (round_by d) (fdt_sent_by now taken f x r.encoder r.answer))
          ((λ i. (m.said i, m.next i)) ∙ (λ i. DefEncoder.read ((h.width ∙ sym set.window) i) x.encoder.content.part ((h.sizes ∙ sym z) i) false (encoder_of x.encoder)))
          (reads b m h r.answer))

  module _ (draft : Option Part) (good : GoodDraft g.settings.sizes draft) (narrow : w ≤ largest_window) (taken : Bool) (f : Fdt) (x : FdtSession) (re : Reached g taken f) (st : FdtStands f w x) where
    -- the code's next FDT, and the session then
    abbrev n : NextFdt
    n = next_fdt_of now (left_of draft taken) f

    abbrev y : FdtSession
    y = begins w f.settings.sizes x n.fdt.announcer n.starts

    set_here : SetFor u w f.settings
    set_here = subst (SetFor u w) (sym re.same.settings) set

    next_reached : Reached g (taken || n.taken) n.fdt
    next_reached = record {
      holds = fdt_holds_next now (left_of draft taken) f re.holds (good_left f.settings.sizes draft (subst (λ (z : Settings). GoodDraft z.sizes draft) (sym re.same.settings) good) taken);
      slots = next_fdt_slots now (left_of draft taken) f ∙ ap (marked_slots n.taken) re.slots ∙ marked_once taken n.taken g.slots (left_untaken now draft f taken);
      same = objects_on re.same (next_fdt_objects now (left_of draft taken) f);
    }

    next_stands : x.busy ≡ false → FdtStands n.fdt w y
    next_stands b = subst (λ (z : Settings). FdtStands n.fdt w (begins w z.sizes x n.fdt.announcer n.starts)) (next_fdt_objects now (left_of draft taken) f).settings
        (begins_stands w n.fdt x n.starts narrow next_reached.holds (next_fdt_current now (left_of draft taken) f) (st.idle b))

    -- the definition's next FDT, in hand where it starts
    abbrev after_next : Option Part → Bool × Def.Fdt
    after_next o = let d = DefState.next_fdt u now o (state_of f.announcer) in (taken || d.taken, record { state = d.state; hand = Def.fdt_begun d.starts })

    next_same : x.busy ≡ false → (taken || n.taken, fdt_of n.fdt y) ≡ after_next (when taken then None else draft)
    next_same b =
        (λ i. (
          taken || asked_taken u w now f set_here re.holds (left_of draft taken) i,
          record {
            state = asked_state u w now f set_here re.holds (left_of draft taken) i;
            hand = (begins_hand w f.settings.sizes x n.fdt.announcer n.starts b ∙ ap Def.fdt_begun (asked_starts u w now f set_here re.holds (left_of draft taken))) i;
          },
        ))

    attempted_round : FdtRounds w g (Def.fdt_round u now draft taken (fdt_of f x)) (fdt_attempted_of w now draft taken f x)
    unfolding Def.fdt_round Def.fdt_in_hand_or_next fdt_attempted_of
    attempted_round = go (tested x.busy)
      where
        -- the definition's round with what is in hand or next
        round_by : Bool × Def.Fdt → Def.FdtRound
        round_by t = Def.fdt_round_with u now t.0 t.1.state t.1.hand

        -- both rounds, by whether an FDT is in hand
        P : Bool → Type 0
        P b = FdtRounds w g (round_by (when given (when b then fdt_hand_of (record { busy = true; id = x.id; encoder = x.encoder }) else None) then (taken, fdt_of f x) else after_next (when taken then None else draft)))
            (when b then fdt_sent_of now taken f x else fdt_sent_of now (taken || n.taken) n.fdt y)

        go : Tested x.busy → P x.busy
        go (pass b) = subst P (sym b) (sent_round taken f x re st)
        go (fail b) = subst P (sym b) (subst (λ t. FdtRounds w g (round_by t) (fdt_sent_of now (taken || n.taken) n.fdt y)) (next_same b) (sent_round (taken || n.taken) n.fdt y next_reached (next_stands b)))

-- ---- the whole run

module _ (u : Setup) (w now : ℕ) (draft : Option Part) (f : Fdt) (x : FdtSession) (set : SetFor u w f.settings) (tries : FdtTries f w draft x) (st : FdtStands f w x) where
  -- a round that is the last
  last : {m : Def.FdtRound} {a : FdtTurn} → FdtRounds w f m a → FdtTurns w f (Def.last_fdt_round m) a
  last (waits k) = k
  last (sent k) = k
  last (ended t g k) = record { view = refl; holds = k.holds; stands = fdt_idle_stands g w; slots = k.slots; same = k.same }

  -- the definition's run, by its first round
  abbrev run_on : Def.FdtRound → Def.FdtTurn
  run_on m = elim m [ Def.FdtRound.over t ↦ t | Def.FdtRound.again taken d ↦ Def.last_fdt_round (Def.fdt_round u now draft taken d) ]

  -- after the first round; at the end of a transfer, another
  second_means : {m : Def.FdtRound} {a : FdtTurn} → FdtRounds w f m a → FdtTurns w f (run_on m) (fdt_again_by w now draft a a.answer)
  second_means (waits k) = k
  second_means (sent k) = k
  second_means (ended t g k) = last (attempted_round u w now f set draft tries.looked tries.narrow t g fdt_idle_of k (fdt_idle_stands g w))

  pub fdt_ran_means : FdtTurns w f (Def.fdt_run u now draft (fdt_of f x)) (fdt_ran_of w now draft f x)
  unfolding Def.fdt_run fdt_ran_of
  fdt_ran_means = second_means (attempted_round u w now f set draft tries.looked tries.narrow false f x (record { holds = tries.holds; slots = refl; same = objects_same f }) st)
