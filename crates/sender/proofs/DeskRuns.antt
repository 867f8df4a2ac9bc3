-- A run of a file session under the sender: the answer and the desk are the definition's, and the sender stays valid.
use Rattle.sizes.specs.declared.refusal.Refusal.TheVariants as Because
use mathlib.Core.Path.{◌≡◌, refl, sym, ◌∙◌, ap, subst}
use mathlib.Core.Bool.{Bool, true, false, ◌&&◌}
use Rattle.std.specs.Prelude.{Option, None, Some}
use mathlib.Core.List.{List, [], ◌∷◌, map}
use Prim.Native.Nat.{ℕ, zero, suc, ◌<◌, ◌≤◌}
use native.Mathlib.Omega.{arith}
use lib.Dec.{eqb, ltb}
use lib.ListN.{length, set, get_or, take, length-set}
use lib.Seq.{get_or-set_same, get_or-set_other, get_or-take, take-set-lt, length-take-le}
use borrow.Author.Tests.{eqb-true, eqb-false, ltb-true, ltb-false}
use Rattle.sizes.specs.Words.{when◌then◌else◌, maybe, over, collect, at, one_if, Counts}
use Rattle.sizes.specs.Limits.{object_slots}
use Rattle.sizes.proofs.Tests.{Tested, pass, fail, tested, if_on}
use Rattle.sizes.proofs.Lists.{at_map}
use Rattle.sizes.proofs.Tables.{map_at}
use Rattle.sizes.proofs.Collects.{at_inside, adds, collect_set, collect_at}
use Rattle.lifecycle.specs.Lifecycle as Life
use Rattle.lifecycle.specs.Setup.{Setup}
use Rattle.lifecycle.specs.Slots.{no_slot, slot_at}
use Rattle.lifecycle.specs.Announce.{state_of, waits_of}
use Rattle.lifecycle.specs.FdtCalls.{sends, taken_of}
use Rattle.lifecycle.specs.declared.fdt.Fdt.{Fdt}
use Rattle.lifecycle.specs.declared.announce.Announcer.{Announcer}
use Rattle.lifecycle.proofs.AnnounceLaws.{waits_said}
use Rattle.lifecycle.proofs.FdtKeeps.{taken_keeps, done_keeps}
use Rattle.definition.specs.Session as DefS
use Rattle.definition.specs.Desk as Def
use Rattle.sender.specs.SessionCalls.{session_of, Runs, idle_of, ran_by, served_of, forced_slot, attended_of, taken_by, taken_on_of, again_by, ran_of}
use Rattle.sender.specs.FdtSessionCalls.{fdt_hand_of}
use Rattle.sender.specs.SessionMeans.{Stands, queue_of}
use Rattle.sender.specs.SenderCalls.{working, desk_of, Agrees, slot_in, ValidSender, Kept, file_answer, answer_of, running_of}
use Rattle.sender.specs.declared.sendersession.SenderSession.{SenderSession}
use Rattle.sender.specs.declared.sendersession.Outcome.{Outcome}
use Rattle.sender.specs.declared.sendersession.Outcome.TheVariants.{Idle, Sent, Over}
use Rattle.sender.specs.SessionCalls.{Turn}
use Rattle.sender.specs.declared.sender.Sender.{Sender}
use Rattle.sender.specs.SenderCalls.{Running}
use Rattle.sender.proofs.SessionFacts.{stands_runs, has_slot, packet_said, turn_of, SameSide, FileRuns}
use Rattle.sender.proofs.SessionViews.{ran_means, ran_hand, ran_counts, ran_stands, ran_session}
use Rattle.sender.proofs.FdtSessionLaws.{fdt_holds_over}
use Rattle.sender.proofs.DeskChanges.{working_stands}

-- ---- the width of the numbers stays

ran_by_width : (now : ℕ) (f : Fdt) (x y : SenderSession) (a : Outcome) → (ran_by now f x y a).fdt.tois.width ≡ f.tois.width
ran_by_width now f x y Over = (done_keeps f now x.slot).width
ran_by_width now f x y Idle = refl
ran_by_width now f x y (Sent s) = refl

attended_width : (now : ℕ) (f : Fdt) (x : SenderSession) → (attended_of now f x).fdt.tois.width ≡ f.tois.width
unfolding attended_of
attended_width now f x =
    let r = served_of (forced_slot (slot_at f.slots x.slot)) (waits_of f.announcer) now x in
    ran_by_width now f x r.session r.answer

taken_on_width : (w now : ℕ) (f : Fdt) (x : SenderSession) → (taken_on_of w now f x).fdt.tois.width ≡ f.tois.width
unfolding taken_on_of
taken_on_width w now f x = go (taken_of x.priority now f).fdt (taken_of x.priority now f).answer ∙ (taken_keeps f x.priority now).width
  where
    go : (t : Fdt) (a : Option ℕ) → (taken_by w now t x a).fdt.tois.width ≡ t.tois.width
    go t None = refl
    go t (Some k) = attended_width now t _

pub ran_width : (w now : ℕ) (f : Fdt) (x : SenderSession) → (ran_of w now f x).fdt.tois.width ≡ f.tois.width
unfolding ran_of
ran_width w now f x =
    if_on (λ (r : Turn). r.fdt.tois.width ≡ f.tois.width) x.busy
    (λ e. go (attended_of now f x) (attended_of now f x).answer ∙ attended_width now f x) (λ e. taken_on_width w now f x)
  where
    go : (a : Turn) (b : Outcome) → (again_by w now a b).fdt.tois.width ≡ a.fdt.tois.width
    go a Over = taken_on_width w now a.fdt a.session
    go a Idle = refl
    go a (Sent s) = refl

-- ---- one place of a list

-- a place that was not set
at_other : {A : Type 0} (l : List A) (i j : ℕ) (a : A) → (i ≡ j → ⊥) → at (set l i a) j ≡ at l j
at_other [] i j a n = refl
at_other (b ∷ l) zero zero a n = absurd (n refl)
at_other (b ∷ l) zero (suc j) a n = refl
at_other (b ∷ l) (suc i) zero a n = refl
at_other (b ∷ l) (suc i) (suc j) a n = at_other l i j a (λ e. n (ap suc e))

-- one element is new; of the others f and g say the same
map_one : {A B : Type 0} (f g : A → B) (l : List A) (i : ℕ) (a : A) → ((j : ℕ) (b : A) → at l j ≡ Some b → (i ≡ j → ⊥) → f b ≡ g b) → map f (set l i a) ≡ set (map g l) i (f a)
map_one f g [] i a h = refl
map_one f g (b ∷ l) zero a h = ap (λ r. f a ∷ r) (map_at f g l (λ j c e. h (suc j) c e (λ q. omega arith)))
map_one f g (b ∷ l) (suc i) a h = λ k. h 0 b refl (λ q. omega arith) k ∷ map_one f g l i a (λ j c e n. h (suc j) c e (λ q. n (omega arith))) k

-- past the first n elements there is none
at_past : {A : Type 0} (l : List A) (n i : ℕ) → n ≤ i → at (take n l) i ≡ None
at_past l zero i h = refl
at_past [] (suc n) i h = refl
at_past (a ∷ l) (suc n) zero h = absurd (omega arith)
at_past (a ∷ l) (suc n) (suc i) h = at_past l n i (omega arith)

-- ---- session i

-- what a session adds to the slots in hand
hand_adds : (x : SenderSession) (j : ℕ) → adds j (slot_in x) ≡ one_if (has_slot x j)
hand_adds x j = elim x.busy as (λ b. adds j (when b then Some x.slot else None) ≡ one_if (b && eqb x.slot j)) [ true ↦ refl | false ↦ refl ]

-- the definition's answer is that of the code
answer_said : (toi : ℕ) (a : Outcome) → Def.Answer.output (packet_said toi a) ≡ file_answer (answer_of false toi 0 a)
answer_said toi Idle = refl
answer_said toi Over = refl
answer_said toi (Sent y) = refl

-- a set-up with this window
abbrev windowed : ℕ → Setup
windowed w = record {
  priorities = [];
  window = w;
  sizes = record { e = 0; b = 0 };
  object_store = 0;
  fdt_store = 0;
  width = 0;
  first = 0;
  first_id = 0;
  carousel = Life.Carousel.delay 0;
  validity = 0;
}

module _ (s : Sender) (v : ValidSender s) (i now : ℕ) (h : i < s.count) where
  -- the session, its run, and the sender after it
  abbrev x : SenderSession
  x = get_or s.sessions i (idle_of 0)

  abbrev r : Turn
  r = ran_of s.window now s.fdt x

  abbrev s' : Sender
  s' = record { fdt = r.fdt; window = s.window; count = s.count; sessions = set s.sessions i r.session; fdt_session = s.fdt_session }

  stands : Stands s.fdt s.window x
  stands = v.sessions i h

  ready : Runs s.fdt s.window x
  ready = stands_runs s.fdt s.window x v.holds v.narrow stands

  inn : i < length s.sessions
  inn = let a = v.few in let b = v.long in omega arith

  -- the sessions in use, one by one
  at_in : (j : ℕ) → j < s.count → at (working s) j ≡ Some (get_or s.sessions j (idle_of 0))
  at_in j b =
      let a = v.few in let c = v.long in
      let d : j < length (working s) = rw (length-take-le s.count s.sessions (omega arith)) b in
      at_inside (idle_of 0) (working s) j d ∙ ap Some (get_or-take s.count s.sessions j (idle_of 0) b)

  at_i : at (working s) i ≡ Some x
  at_i = at_in i h

  working_set : working s' ≡ set (working s) i r.session
  working_set = take-set-lt s.count s.sessions i r.session h

  -- what another session has in hand is not this one's: a slot is in one hand
  other : (j : ℕ) (z : SenderSession) → at (working s) j ≡ Some z → (i ≡ j → ⊥) → z.busy ≡ true → has_slot x z.slot ≡ false
  other j z e n b = go (tested (has_slot x k))
    where
      k : ℕ
      k = z.slot

      go : Tested (has_slot x k) → has_slot x k ≡ false
      go (fail q) = q
      go (pass q) = absurd (
          let l = set (working s) i (idle_of 0) in
          let a = collect_set slot_in k (working s) i x (idle_of 0) at_i in
          let c = collect_at slot_in l j z k (at_other (working s) i j (idle_of 0) n ∙ e) (ap (λ t. when t then Some k else None) b) in
          let d = hand_adds x k ∙ ap one_if q in
          let m = v.in_hand k in
          let o = at_most (sends (slot_at s.fdt.slots k)) in omega arith)
        where
          at_most : (t : Bool) → one_if t ≤ 1
          at_most true = omega arith
          at_most false = omega arith

  module _ (u : Setup) (window : u.window ≡ s.window) where
    runs : FileRuns s.window s.fdt x (DefS.file_run u x.priority now (waits_of s.fdt.announcer) (queue_of s.fdt) (session_of s.fdt.slots x).hand) r
    runs = ran_means u s.window now window s.fdt x ready stands

    same : SameSide s.fdt r.fdt
    same = runs.same

    -- the sessions that the desk shows
    sessions_run : map (session_of r.fdt.slots) (working s') ≡ set (desk_of s).sessions i (record { priority = x.priority; hand = (turn_of r).hand })
    unfolding desk_of
    sessions_run =
        ap (map (session_of r.fdt.slots)) working_set
        ∙ map_one (session_of r.fdt.slots) (session_of s.fdt.slots) (working s) i r.session
        (λ j z e n. ran_session u s.window now window s.fdt x ready stands z (working_stands s v j z e) (other j z e n))
        ∙ ap (λ p. set (map (session_of s.fdt.slots) (working s)) i (record { priority = p; hand = (turn_of r).hand })) runs.priority

    desk_run : desk_of s' ≡ Def.moved (desk_of s) (queue_of r.fdt) (set (desk_of s).sessions i (record { priority = x.priority; hand = (turn_of r).hand }))
    unfolding desk_of Def.moved
    desk_run = λ k. record {
      complete = same.complete k;
      next = same.next k;
      loose = same.loose k;
      queue = queue_of r.fdt;
      sessions = sessions_run k;
      fdt = record { state = state_of (same.announcer k); hand = fdt_hand_of s.fdt_session };
    }

    -- an FDT is queued exactly where the code says that one waits
    queued_said : Def.fdt_queued (desk_of s) ≡ waits_of s.fdt.announcer
    unfolding Def.fdt_queued desk_of
    queued_said = sym (waits_said s.fdt.announcer v.holds.valid.fdts)

    -- the definition's run comes to the code's
    turn_said : DefS.file_run u x.priority now (Def.fdt_queued (desk_of s)) (desk_of s).queue (session_of s.fdt.slots x).hand ≡ turn_of r
    unfolding desk_of
    turn_said =
        ap (λ b. DefS.file_run u x.priority now b (queue_of s.fdt) (session_of s.fdt.slots x).hand) queued_said ∙ runs.view

    run_said : Def.ran u now i (desk_of s) (session_of s.fdt.slots x) ≡ (Def.Answer.output (turn_of r).packet, desk_of s')
    unfolding Def.ran
    run_said =
        ap (λ (t : DefS.Turn). (Def.Answer.output t.packet, Def.moved (desk_of s) t.queue (set (desk_of s).sessions i (record { priority = x.priority; hand = t.hand })))) turn_said
        ∙ (λ k. (Def.Answer.output (turn_of r).packet, sym desk_run k))

    -- session j after the run
    stands_run : (j : ℕ) → j < s.count → Tested (eqb i j) → Stands r.fdt s.window (get_or (set s.sessions i r.session) j (idle_of 0))
    stands_run j b (pass e) =
        subst (λ k. Stands r.fdt s.window (get_or (set s.sessions i r.session) k (idle_of 0))) (eqb-true i j e)
        (subst (Stands r.fdt s.window) (sym (get_or-set_same s.sessions i r.session (idle_of 0) inn)) runs.stands)
    stands_run j b (fail e) =
        subst (Stands r.fdt s.window) (sym (get_or-set_other s.sessions i j r.session (idle_of 0) (λ q. eqb-false i j e (sym q))))
        (ran_stands u s.window now window s.fdt x ready stands (get_or s.sessions j (idle_of 0)) (v.sessions j b) (other j (get_or s.sessions j (idle_of 0)) (at_in j b) (eqb-false i j e)))

    -- the slots in hand: what the session has now in the place of what it had
    hands_run : Counts no_slot sends r.fdt.slots (collect slot_in (working s'))
    hands_run = subst (λ l. Counts no_slot sends r.fdt.slots (collect slot_in l)) (sym working_set)
        (ran_counts u s.window now window s.fdt x ready stands (collect slot_in (working s)) (collect slot_in (set (working s) i r.session)) v.in_hand
        (λ j. let a = collect_set slot_in j (working s) i x r.session at_i in let b = hand_adds x j in let c = hand_adds r.session j in omega arith))

    valid_run : ValidSender s'
    valid_run = record {
      holds = runs.holds;
      fdt_holds = fdt_holds_over s.fdt r.fdt v.fdt_holds runs.holds.valid same.settings same.announcer;
      object_store = rw same.settings v.object_store;
      fdt_store = rw same.settings v.fdt_store;
      narrow = v.narrow;
      few = v.few;
      long = length-set s.sessions i r.session ∙ v.long;
      sessions = λ j b. stands_run j b (tested (eqb i j));
      spare = λ j b. get_or-set_other s.sessions i j r.session (idle_of 0) (λ q. omega arith) ∙ v.spare j b;
      in_hand = hands_run;
      fdt_busy = λ b. (let n = v.fdt_busy b in record { encoder = n.encoder; sizes = n.sizes ∙ sym (ap (λ z. z.sizes) same.settings); width = n.width });
      fdt_idle = v.fdt_idle;
      matched = ap (λ (a : Announcer). a.current.life.transferring) same.announcer ∙ v.matched;
    }

    agrees_run : Agrees u s → Agrees u s'
    agrees_run a = record {
      window = a.window;
      sizes = rw same.settings a.sizes;
      object_store = rw same.settings a.object_store;
      fdt_store = rw same.settings a.fdt_store;
      width = a.width ∙ sym (ran_width s.window now s.fdt x);
      carousel = rw same.settings a.carousel;
      validity = rw same.settings a.validity;
    }

  step_run : (u : Setup) → Agrees u s → Def.step u (desk_of s) (Def.Call.run_file i now) ≡ (file_answer (answer_of false (slot_at r.fdt.slots r.session.slot).file.toi 0 r.answer), desk_of s')
  unfolding Def.step desk_of
  step_run u a =
      ap (maybe (Def.Answer.refused Because.NoSession, desk_of s) (Def.ran u now i (desk_of s))) (at_map (session_of s.fdt.slots) (working s) i ∙ ap (over (session_of s.fdt.slots)) at_i)
      ∙ run_said u a.window
      ∙ (λ k. (answer_said (slot_at r.fdt.slots r.session.slot).file.toi r.answer k, desk_of s'))

  kept_run : Kept s (Def.Call.run_file i now) (file_answer (answer_of false (slot_at r.fdt.slots r.session.slot).file.toi 0 r.answer)) s'
  kept_run = record { means = step_run; agrees = λ u a. agrees_run u a.window a; valid = valid_run (windowed s.window) refl }

-- refusal 8: there is no such session
kept_refused : (s : Sender) → ValidSender s → (i now : ℕ) → s.count ≤ i → Kept s (Def.Call.run_file i now) (Def.Answer.refused Because.NoSession) s
unfolding Def.step desk_of
kept_refused s v i now h = record {
  means = λ u a. ap (maybe (Def.Answer.refused Because.NoSession, desk_of s) (Def.ran u now i (desk_of s))) (at_map (session_of s.fdt.slots) (working s) i ∙ ap (over (session_of s.fdt.slots)) (at_past s.sessions s.count i h));
  agrees = λ u a. a;
  valid = v;
}

-- ---- the call

pub run_kept : (s : Sender) (i now : ℕ) → ValidSender s → Kept s (Def.Call.run_file i now) (file_answer (running_of i now s).answer) (running_of i now s).sender
unfolding running_of
run_kept s i now v = if_on (λ (a : Running). Kept s (Def.Call.run_file i now) (file_answer a.answer) a.sender) (ltb i s.count)
    (λ e. kept_run s v i now (ltb-true i s.count e)) (λ e. kept_refused s v i now (ltb-false i s.count e))

-- what the code's run requires
pub runs_ready : (s : Sender) (i : ℕ) → ValidSender s → i < s.count → Runs s.fdt s.window (get_or s.sessions i (idle_of 0))
runs_ready s i v h = stands_runs s.fdt s.window (get_or s.sessions i (idle_of 0)) v.holds v.narrow (v.sessions i h)

-- the session's slot after it is one of the list's
pub ran_slot : (s : Sender) (i now : ℕ) → ValidSender s → i < s.count → (ran_of s.window now s.fdt (get_or s.sessions i (idle_of 0))).session.slot < object_slots
ran_slot s i now v h =
    let x = get_or s.sessions i (idle_of 0) in
    let r = ran_of s.window now s.fdt x in
    go r.fdt r.session (ran_hand (windowed s.window) s.window now refl s.fdt x (runs_ready s i v h) (v.sessions i h)) (tested r.session.busy)
  where
    go : (f : Fdt) (y : SenderSession) → Stands f s.window y → Tested y.busy → y.slot < object_slots
    go f y w (pass b) = (w.busy b).slot
    go f y w (fail b) = subst (λ (y : SenderSession). y.slot < object_slots) (sym (w.idle b)) (omega arith)
