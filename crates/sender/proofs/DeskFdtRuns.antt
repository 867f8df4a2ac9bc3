-- A run of the FDT session under the sender: what is in hand is what is being transferred, and a draft that is taken marks every listed object; its refusals.
use Rattle.sizes.specs.declared.refusal.Refusal.{Refusal}
use Rattle.sizes.specs.declared.refusal.Refusal.TheVariants as Because
use mathlib.Core.Path.{◌≡◌, refl, sym, ◌∙◌, ap, subst}
use mathlib.Core.Bool.{Bool, true, false, ◌||◌}
use Rattle.std.specs.Prelude.{Option, None, Some}
use mathlib.Core.List.{[], ◌∷◌}
use Prim.Native.Nat.{ℕ}
use lib.ListN.{get_or}
use Rattle.sizes.specs.Words.{when◌then◌else◌, maybe, collect, first_of}
use Rattle.sizes.proofs.Tests.{if_on}
use Rattle.lifecycle.specs.Lifecycle as Life
use Rattle.lifecycle.specs.Setup.{Setup, bad_blocks}
use Rattle.lifecycle.specs.Fdt.{bad_fdt_part}
use Rattle.lifecycle.specs.Announce.{state_of, bad_fdt_of}
use Rattle.lifecycle.specs.FdtCalls.{with_slots, with_published, with_announcer, real_draft, draft_test_of, next_fdt_of, fdt_done_of}
use Rattle.lifecycle.specs.FdtCalls.{ValidFdt}
use Rattle.lifecycle.specs.declared.parts.Part.{Part}
use Rattle.lifecycle.specs.declared.announce.Announcer.{Announcer}
use Rattle.lifecycle.specs.declared.fdt.Fdt.{Fdt}
use Rattle.lifecycle.specs.declared.fdt.Settings.{Settings}
use Rattle.lifecycle.proofs.FdtKeeps.{real_given, draft_test_as}
use Rattle.lifecycle.proofs.AnnounceSends.{current_sends, next_fdt_sends, fdt_done_sends}
use Rattle.lifecycle.proofs.FdtSent.{same_counts}
use Rattle.lifecycle.proofs.AnnounceLaws.{bad_said}
use Rattle.lifecycle.proofs.PublishLaws.{valid_next_fdt, valid_fdt_done}
use Rattle.definition.specs.FdtSession.{FdtTurn as DefTurn, fdt_run}
use Rattle.definition.specs.Desk as Def
use Rattle.sender.specs.EncoderCalls.{read_of}
use Rattle.sender.specs.SessionCalls.{idle_of, Holds}
use Rattle.sender.specs.FdtSessionCalls.{FdtHolds, FdtTries, left_of, fdt_begun_of, fdt_sent_by, fdt_sent_of, fdt_attempted_of, fdt_again_by, fdt_ran_of}
use Rattle.sender.specs.SessionMeans.{Stands, fdt_of}
use Rattle.sender.specs.SenderCalls.{working, slot_in, desk_of, Agrees, ValidSender, Kept, fdt_answer, answer_of, fdt_running_by, fdt_running_of}
use Rattle.sender.specs.declared.blockencoder.Symbol.{Symbol}
use Rattle.sender.specs.declared.sendersession.SenderSession.{SenderSession}
use Rattle.sender.specs.declared.sendersession.Outcome.{Outcome}
use Rattle.sender.specs.declared.sendersession.Outcome.TheVariants.{Idle, Sent, Over}
use Rattle.sender.specs.declared.fdtsession.FdtSession.{FdtSession}
use Rattle.sender.specs.FdtSessionCalls.{FdtTurn}
use Rattle.sender.specs.declared.sender.Sender.{Sender}
use Rattle.sender.proofs.SessionLaws.{holds_next_fdt, holds_fdt_done}
use Rattle.sender.proofs.FdtSessionLaws.{draft_looked}
use Rattle.lifecycle.proofs.AnnounceKeep.{SameObjects, marked_slots}
use Rattle.sender.proofs.FdtSessionFacts.{FdtStands, SetFor, stands_tries, fdt_packet_said, FdtTurns}
use Rattle.sender.proofs.FdtSessionViews.{fdt_ran_means}
use Rattle.sender.proofs.DeskChanges.{Stays, stands_list, agrees_list}
use Rattle.sender.proofs.DeskPublish.{announced_desk, announced_stays}

-- ---- what every step of a run keeps, the run keeps

-- P is said of the list, and of whether an FDT is in hand
module _ (w now : ℕ) (draft : Option Part) (P : Fdt → Bool → Type 0)
    (next : (d : Option Part) (f : Fdt) → P f false → P (next_fdt_of now d f).fdt (next_fdt_of now d f).starts)
    (done : (f : Fdt) → P f true → P (fdt_done_of now f) false) where
  abbrev After : FdtTurn → Type 0
  After r = P r.fdt r.session.busy

  sent_on : (taken : Bool) (f : Fdt) (x : FdtSession) → P f x.busy → After (fdt_sent_of now taken f x)
  unfolding fdt_sent_of
  sent_on taken f x p = if_on After x.busy (λ e. by e (read_of false x.encoder).answer) (λ e. p)
    where
      by : x.busy ≡ true → (a : Option Symbol) → After (fdt_sent_by now taken f x (read_of false x.encoder).encoder a)
      by e None = done f (subst (P f) e p)
      by e (Some s) = p

  -- what starts is in hand
  attempted_on : (taken : Bool) (f : Fdt) (x : FdtSession) → P f x.busy → After (fdt_attempted_of w now draft taken f x)
  unfolding fdt_attempted_of fdt_begun_of
  attempted_on taken f x p = if_on After x.busy (λ e. sent_on taken f x p) (λ e.
      let n = next_fdt_of now (left_of draft taken) f in
      let i = n.fdt.announcer.current in
      let q = next (left_of draft taken) f (subst (P f) e p) in
      sent_on (taken || n.taken) n.fdt (when n.starts then fdt_begun_of w i.id i.part f.settings.sizes else x)
      (if_on (λ (y : FdtSession). P n.fdt y.busy) n.starts (λ b. subst (P n.fdt) b q) (λ b. subst (P n.fdt) (b ∙ sym e) q)))

  ran_on : (f : Fdt) (x : FdtSession) → P f x.busy → After (fdt_ran_of w now draft f x)
  unfolding fdt_ran_of
  ran_on f x p = let a = fdt_attempted_of w now draft false f x in again a (attempted_on false f x p) a.answer
    where
      again : (a : FdtTurn) → After a → (s : Outcome) → After (fdt_again_by w now draft a s)
      again a q Over = attempted_on a.taken a.fdt a.session q
      again a q Idle = q
      again a q (Sent s) = q

-- every held object is good
ran_holds : (w now : ℕ) (draft : Option Part) (f : Fdt) (x : FdtSession) → Holds f → Holds (fdt_ran_of w now draft f x).fdt
ran_holds w now draft = ran_on w now draft (λ f b. Holds f) (λ d f h. holds_next_fdt f h now d) (λ f h. holds_fdt_done f h now)

-- ---- the current FDT is being transferred exactly while one is in hand

-- so it is before and after each step of a run
record Matched (f : Fdt) (busy : Bool) : Type 0 where
  valid : ValidFdt f
  matched : current_sends f.announcer ≡ busy

pub ran_matched : (w now : ℕ) (draft : Option Part) (f : Fdt) (x : FdtSession) → ValidFdt f → f.announcer.current.life.transferring ≡ x.busy
    → (fdt_ran_of w now draft f x).fdt.announcer.current.life.transferring ≡ (fdt_ran_of w now draft f x).session.busy
ran_matched w now draft f x v e = (ran_on w now draft Matched
    (λ d f m. record { valid = valid_next_fdt now d f m.valid; matched = next_fdt_sends now f m.valid d m.matched })
    (λ f m. record { valid = valid_fdt_done now f m.valid; matched = fdt_done_sends now f m.valid })
    f x (record { valid = v; matched = e })).matched

-- ---- the sender with another FDT side

-- the list, after a draft was taken or not
abbrev sided : Fdt → Bool → Announcer → Fdt
sided f taken a = when taken then with_published f a else with_announcer f a

-- the sender with another list, and another FDT session
abbrev onward : Sender → Fdt → FdtSession → Sender
onward s f y = record { fdt = f; window = s.window; count = s.count; sessions = s.sessions; fdt_session = y }

module _ (s : Sender) (v : ValidSender s) (f : Fdt) (y : FdtSession) (taken : Bool) (slots : f.slots ≡ marked_slots taken s.fdt.slots) (same : SameObjects s.fdt f) where
  is_sided : (a : Announcer) → with_announcer f a ≡ sided s.fdt taken a
  is_sided a = (λ i. record {
    settings = same.settings i;
    complete = same.complete i;
    tois = same.tois i;
    slots = slots i;
    queue = same.queue i;
    queued = same.queued i;
    announcer = a;
  }) ∙ by taken
    where
      by : (b : Bool) → with_announcer (with_slots s.fdt (marked_slots b s.fdt.slots)) a ≡ sided s.fdt b a
      by true = refl
      by false = refl

  -- the FDT side is new, and a draft that was taken marks every listed object
  onward_desk : desk_of (onward s f y) ≡ (when taken then Def.all_published (Def.with_fdt (desk_of s) (fdt_of f y)) else Def.with_fdt (desk_of s) (fdt_of f y))
  unfolding desk_of Def.with_fdt
  onward_desk = ap (λ g. desk_of (onward s g y)) (is_sided f.announcer) ∙ by taken
    where
      by : (b : Bool) → desk_of (onward s (sided s.fdt b f.announcer) y)
          ≡ (when b then Def.all_published (Def.with_fdt (desk_of s) (fdt_of f y)) else Def.with_fdt (desk_of s) (fdt_of f y))
      by true = announced_desk s v f.announcer y
      by false = refl

  -- all but the FDT side stays
  onward_stays : Stays s.fdt (with_announcer f s.fdt.announcer)
  onward_stays = subst (Stays s.fdt) (sym (is_sided s.fdt.announcer)) (if_on (Stays s.fdt) taken (λ e. announced_stays s.fdt s.fdt.announcer refl)
      (λ e. record { settings = refl; sent_same = λ j. refl; part = λ j k. refl; sizes = λ j k. refl; current = refl }))

  onward_stands : (x : SenderSession) → Stands s.fdt s.window x → Stands f s.window x
  onward_stands x h =
      let k = stands_list s.fdt (with_announcer f s.fdt.announcer) s.window x onward_stays h in
      record {
        busy = λ b. (let n = k.busy b in record { slot = n.slot; sent = n.sent; encoder = n.encoder; part = n.part; sizes = n.sizes; width = n.width });
        idle = k.idle;
      }

  onward_valid : Holds f → FdtHolds f → FdtStands f s.window y → f.announcer.current.life.transferring ≡ y.busy → ValidSender (onward s f y)
  onward_valid h g st m = record {
    holds = h;
    fdt_holds = g;
    object_store = rw same.settings v.object_store;
    fdt_store = rw same.settings v.fdt_store;
    narrow = v.narrow;
    few = v.few;
    long = v.long;
    sessions = λ i k. onward_stands (get_or s.sessions i (idle_of 0)) (v.sessions i k);
    spare = v.spare;
    in_hand = same_counts s.fdt f onward_stays.sent_same (collect slot_in (working s)) v.in_hand;
    fdt_busy = st.busy;
    fdt_idle = st.idle;
    matched = m;
  }

  onward_agrees : (u : Setup) → Agrees u s → Agrees u (onward s f y)
  onward_agrees u a = let b = agrees_list u s f same.settings (ap (λ t. t.width) same.tois) a in record {
    window = b.window;
    sizes = b.sizes;
    object_store = b.object_store;
    fdt_store = b.fdt_store;
    width = b.width;
    carousel = b.carousel;
    validity = b.validity;
  }

-- ---- the draft

-- a draft of length 0 is none on both sides
draft_view : (draft : Option Part) → Def.draft_of draft ≡ real_draft draft
unfolding Def.draft_of
draft_view draft = sym (real_given draft)

-- it is refused for the same
refusal_view : (u : Setup) (s : Sender) → Agrees u s → (draft : Option Part) → Def.draft_refusal u (desk_of s).fdt draft ≡ draft_test_of (real_draft draft) s.fdt
unfolding Def.draft_refusal desk_of
refusal_view u s g draft = ap (maybe None said) (draft_view draft) ∙ by (real_draft draft) ∙ sym (draft_test_as (real_draft draft) s.fdt)
  where
    said : Part → Option Refusal
    said c = first_of ((Because.Sizes, bad_blocks u.sizes c.size) ∷ (Because.Part, bad_fdt_part u (state_of s.fdt.announcer) c) ∷ [])

    by : (o : Option Part) → maybe None said o
        ≡ maybe None (λ (c : Part). first_of ((Because.Sizes, bad_blocks s.fdt.settings.sizes c.size) ∷ (Because.Part, bad_fdt_of s.fdt.settings.fdt_store c s.fdt.announcer) ∷ [])) o
    by None = refl
    by (Some c) = λ i. first_of ((Because.Sizes, bad_blocks (g.sizes i) c.size) ∷ (Because.Part, sym (bad_said c u s.fdt.settings.fdt_store s.fdt.announcer g.fdt_store) i) ∷ [])

-- ---- the call

-- a set-up with the settings of the list
abbrev set_up_of : ℕ → Settings → Setup
set_up_of w z = record {
  priorities = [];
  window = w;
  sizes = z.sizes;
  object_store = z.object_store;
  fdt_store = z.fdt_store;
  width = 0;
  first = 0;
  first_id = 0;
  carousel = when z.from_start then Life.Carousel.interval z.interval else Life.Carousel.delay z.interval;
  validity = z.validity;
}

-- the packet is said
answer_view : (taken : Bool) (id : ℕ) (a : Outcome) → Def.Answer.fdt_output taken (fdt_packet_said id a) ≡ fdt_answer taken (answer_of true 0 id a)
answer_view taken id Idle = refl
answer_view taken id (Sent y) = refl
answer_view taken id Over = refl

-- what the FDT session has in hand between two calls
valid_stands : (s : Sender) → ValidSender s → FdtStands s.fdt s.window s.fdt_session
valid_stands s v = record { busy = v.fdt_busy; idle = v.fdt_idle }

-- it may be run with a draft that passes the test
pub tries_ready : (s : Sender) (draft : Option Part) → ValidSender s → draft_test_of (real_draft draft) s.fdt ≡ None → FdtTries s.fdt s.window (real_draft draft) s.fdt_session
tries_ready s draft v e =
    stands_tries s.fdt s.window (real_draft draft) s.fdt_session v.fdt_holds v.narrow (draft_looked (real_draft draft) s.fdt v.fdt_store e) (valid_stands s v)

module _ (s : Sender) (now : ℕ) (draft : Option Part) (v : ValidSender s) where
  -- what comes of a run
  abbrev runs : FdtTurn
  runs = fdt_ran_of s.window now (real_draft draft) s.fdt s.fdt_session

  module _ (e : draft_test_of (real_draft draft) s.fdt ≡ None) where
    runs_means : (u : Setup) → SetFor u s.window s.fdt.settings → FdtTurns s.window s.fdt (fdt_run u now (real_draft draft) (desk_of s).fdt) runs
    unfolding desk_of
    runs_means u set = fdt_ran_means u s.window now (real_draft draft) s.fdt s.fdt_session set (tries_ready s draft v e) (valid_stands s v)

    run_done : Kept s (Def.Call.run_fdt now draft) (fdt_answer runs.taken (answer_of true 0 runs.session.id runs.answer)) (onward s runs.fdt runs.session)
    unfolding Def.step Def.fdt_ran
    run_done =
        let t = runs_means (set_up_of s.window s.fdt.settings) (record { window = refl; sizes = refl; validity = refl; carousel = refl }) in
        record {
          means = λ u g. (
              let m = runs_means u (record { window = g.window; sizes = g.sizes; validity = g.validity; carousel = g.carousel }) in
              (λ i. Def.unless ((refusal_view u s g draft ∙ e) i) (desk_of s) (Def.fdt_ran u now (draft_view draft i) (desk_of s)))
              ∙ ap (λ (r : DefTurn). (Def.Answer.fdt_output r.taken r.packet, when r.taken then Def.all_published (Def.with_fdt (desk_of s) r.fdt) else Def.with_fdt (desk_of s) r.fdt)) m.view
              ∙ (λ i. (answer_view runs.taken runs.session.id runs.answer i, sym (onward_desk s v runs.fdt runs.session runs.taken t.slots t.same) i)));
          agrees = onward_agrees s v runs.fdt runs.session runs.taken t.slots t.same;
          valid = onward_valid s v runs.fdt runs.session runs.taken t.slots t.same
              (ran_holds s.window now (real_draft draft) s.fdt s.fdt_session v.holds) t.holds t.stands
              (ran_matched s.window now (real_draft draft) s.fdt s.fdt_session v.holds.valid v.matched);
        }

  run_refused : (why : Refusal) → draft_test_of (real_draft draft) s.fdt ≡ Some why → Kept s (Def.Call.run_fdt now draft) (Def.Answer.refused why) s
  unfolding Def.step
  run_refused why e = record {
    means = λ u g. (λ i. Def.unless ((refusal_view u s g draft ∙ e) i) (desk_of s) (Def.fdt_ran u now (Def.draft_of draft) (desk_of s)));
    agrees = λ u g. g;
    valid = v;
  }

-- refusals 4 and 5 in their order; else it is run
pub run_fdt_kept : (s : Sender) (now : ℕ) (draft : Option Part) → ValidSender s
    → Kept s (Def.Call.run_fdt now draft) (fdt_answer (fdt_running_of now draft s).taken (fdt_running_of now draft s).answer) (fdt_running_of now draft s).sender
unfolding fdt_running_of
run_fdt_kept s now draft v = by (draft_test_of (real_draft draft) s.fdt) refl
  where
    by : (o : Option Refusal) → draft_test_of (real_draft draft) s.fdt ≡ o
        → (let r = fdt_running_by now (real_draft draft) s o in Kept s (Def.Call.run_fdt now draft) (fdt_answer r.taken r.answer) r.sender)
    by None e = run_done s now draft v e
    by (Some why) e = run_refused s now draft v why e
