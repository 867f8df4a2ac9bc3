-- Runs of the code are the definition's, call by call, and so keep its promises; a refused call leaves the sender as it was.
use mathlib.Core.Path.{◌≡◌, refl, sym, ◌∙◌, ap, subst}
use mathlib.Core.Bool.{Bool, true, false, not, ◌&&◌, false≢true}
use Rattle.std.specs.Prelude.{Option, None, Some}
use mathlib.Core.List.{List, [], ◌∷◌, map}
use Prim.Native.Nat.{ℕ}
use lib.Dec.{ltb}
use lib.ListN.{length, get_or}
use Rattle.sizes.specs.Words.{when◌then◌else◌, given, any}
use Rattle.sizes.specs.Limits.{most_sessions}
use Rattle.sizes.specs.Allocator as Alloc
use Rattle.sizes.specs.declared.refusal.Refusal.{Refusal}
use Rattle.sizes.specs.Allocator.{Allocated}
use Rattle.sizes.specs.Allocator.{Changed}
use Rattle.sizes.proofs.Tests.{if_on}
use Rattle.sizes.proofs.AllocatorViews.{allocated_cases, dropped_cases}
use Rattle.lifecycle.specs.Setup.{sound}
use Rattle.lifecycle.specs.Setup.{Setup as DefSetup}
use Rattle.lifecycle.specs.Slots.{slot_at}
use Rattle.lifecycle.specs.FdtCalls.{with_tois, added_of, own_of, real_draft, draft_test_of}
use Rattle.lifecycle.proofs.FdtMeans.{ListAdds}
use Rattle.lifecycle.specs.declared.parts.Part.{Part}
use Rattle.lifecycle.specs.FdtCalls.{Added}
use Rattle.lifecycle.specs.FdtCalls.{Reserved}
use Rattle.lifecycle.specs.FdtCalls.{Released}
use Rattle.lifecycle.specs.FdtCalls.{Published}
use Rattle.lifecycle.proofs.FdtKeeps.{reserved_as, released_as, publish_refusal_of, published_by, publish_as}
use Rattle.lifecycle.proofs.FdtAdds.{added_view}
use Rattle.definition.specs.Desk as Def
use Rattle.definition.specs.Apart as Apart
use Rattle.definition.specs.Apart.{about, key, got_after, call_by, answer_by, turned_away, refusal_in, NumberOf}
use Rattle.definition.specs.TotalPromises as Total
use Rattle.definition.proofs.Reachable as Reached
use Rattle.definition.proofs.OnlyThese.{demand_3_sound}
use Rattle.sender.specs.SessionCalls.{idle_of, ran_of}
use Rattle.sender.specs.FdtSessionCalls.{fdt_ran_of}
use Rattle.sender.specs.SenderCalls.{desk_of, Agrees, ValidSender, Kept, working, with_list, has_priority, request_of, alloc_answer, add_answer, file_answer, fdt_answer, answer_of, reserving_of, releasing_of, adding_of, publishing_of, running_of, fdt_running_by, fdt_running_of}
use Rattle.sender.specs.SetupCalls.{setup_said, opening_sender}
use Rattle.sender.specs.SenderRuns.{SenderCall, call_said, answered, played, RefusedKeeps, code_calls, code_answers, code_smooth, CodeNumbers, Promised}
use Rattle.sender.specs.declared.sendersession.Outcome.{Outcome}
use Rattle.sender.specs.declared.sendersession.Outcome.TheVariants as OutcomeV
use Rattle.sender.specs.declared.sender.Sender.{Sender}
use Rattle.sender.specs.declared.sender.Object.{Object}
use Rattle.sender.specs.SenderCalls.{Adding}
use Rattle.sender.specs.SenderCalls.{Running}
use Rattle.sender.specs.declared.setup.Setup.{Setup}
use Rattle.sender.proofs.SenderKept as Keeps
use Rattle.sender.proofs.SetupCallsLaws.{OpeningKept, opening_kept}
use Rattle.sender.proofs.DeskListed.{transfers_kept}

-- ---- one call

-- every call's answer and desk are the definition's, and the next call may follow
pub answered_kept : (s : Sender) → ValidSender s → (c : SenderCall) → Kept s (call_said c) (answered s c).0 (answered s c).1
answered_kept s v SenderCall.reserve = (Keeps.reserves s v).kept
answered_kept s v (SenderCall.release t) = (Keeps.releases s v t).kept
answered_kept s v (SenderCall.add o named) = (Keeps.adds s v o named).kept
answered_kept s v (SenderCall.remove t) = (Keeps.removes s v t).kept
answered_kept s v (SenderCall.trigger t start) = (Keeps.prompts s v t start).kept
answered_kept s v (SenderCall.listed t) = (Keeps.lists s v t).kept
answered_kept s v (SenderCall.transfers t) = transfers_kept s v t
answered_kept s v SenderCall.complete = (Keeps.completes s v).kept
answered_kept s v (SenderCall.publish now c) = (Keeps.publishes s v now c).kept
answered_kept s v (SenderCall.run_fdt now draft) = (Keeps.fdt_runs s v now draft).kept
answered_kept s v (SenderCall.run_file i now) = (Keeps.runs s v i now).kept

-- ---- calls one after another

pub played_valid : (s : Sender) → ValidSender s → (l : List SenderCall) → ValidSender (played s l).1
unfolding played
played_valid s v [] = v
played_valid s v (c ∷ l) = played_valid (answered s c).1 (answered_kept s v c).valid l

module _ (u : DefSetup) where
  pub played_agrees : (s : Sender) → ValidSender s → Agrees u s → (l : List SenderCall) → Agrees u (played s l).1
  unfolding played
  played_agrees s v w [] = w
  played_agrees s v w (c ∷ l) = let k = answered_kept s v c in played_agrees (answered s c).1 k.valid (k.agrees u w) l

  -- every answer, and the desk at the end
  pub played_run : (s : Sender) → ValidSender s → Agrees u s → (l : List SenderCall) → Def.run u (desk_of s) (map call_said l) ≡ ((played s l).0, desk_of (played s l).1)
  unfolding played Def.run
  played_run s v w [] = refl
  played_run s v w (c ∷ l) =
      let k = answered_kept s v c in
      ap (λ (x : Def.Result). (x.0 ∷ (Def.run u x.1 (map call_said l)).0, (Def.run u x.1 (map call_said l)).1)) (k.means u w)
      ∙ ap (λ (x : List Def.Answer × Def.Desk). ((answered s c).0 ∷ x.0, x.1)) (played_run (answered s c).1 k.valid (k.agrees u w) l)

-- ---- what a run says of a priority

module _ (u : DefSetup) (p : ℕ) where
  pub calls_view : (j : List ℕ) (s : Sender) → ValidSender s → Agrees u s → (l : List SenderCall) → code_calls p j s l ≡ Apart.calls u p j (desk_of s) (map call_said l)
  unfolding code_calls Apart.calls
  calls_view j s v w [] = refl
  calls_view j s v w (c ∷ l) =
      let k = answered_kept s v c in
      let b = about p (desk_of s) (call_said c) in
      ap (λ (x : List Def.Call). when b then call_by (key j) (call_said c) ∷ x else x) (calls_view (got_after p (call_said c) (answered s c).0 j) (answered s c).1 k.valid (k.agrees u w) l)
      ∙ ap (λ (x : Def.Result). when b then call_by (key j) (call_said c) ∷ Apart.calls u p (got_after p (call_said c) x.0 j) x.1 (map call_said l) else Apart.calls u p (got_after p (call_said c) x.0 j) x.1 (map call_said l)) (sym (k.means u w))

  pub answers_view : (j : List ℕ) (s : Sender) → ValidSender s → Agrees u s → (l : List SenderCall) → code_answers p j s l ≡ Apart.answers u p j (desk_of s) (map call_said l)
  unfolding code_answers Apart.answers
  answers_view j s v w [] = refl
  answers_view j s v w (c ∷ l) =
      let k = answered_kept s v c in
      let b = about p (desk_of s) (call_said c) in
      let j' = got_after p (call_said c) (answered s c).0 j in
      ap (λ (x : List Def.Answer). when b then answer_by (key j') (answered s c).0 ∷ x else x) (answers_view j' (answered s c).1 k.valid (k.agrees u w) l)
      ∙ ap (λ (x : Def.Result).
      when b then answer_by (key (got_after p (call_said c) x.0 j)) x.0 ∷ Apart.answers u p (got_after p (call_said c) x.0 j) x.1 (map call_said l)
      else Apart.answers u p (got_after p (call_said c) x.0 j) x.1 (map call_said l)) (sym (k.means u w))

  pub smooth_view : (s : Sender) → ValidSender s → Agrees u s → (l : List SenderCall) → code_smooth p s l ≡ Apart.smooth u p (desk_of s) (map call_said l)
  unfolding code_smooth Apart.smooth
  smooth_view s v w [] = refl
  smooth_view s v w (c ∷ l) =
      let k = answered_kept s v c in
      ap (λ (x : Bool). not (turned_away p (call_said c) (answered s c).0) && x) (smooth_view (answered s c).1 k.valid (k.agrees u w) l)
      ∙ ap (λ (x : Def.Result). not (turned_away p (call_said c) x.0) && Apart.smooth u p x.1 (map call_said l)) (sym (k.means u w))

  pub own_numbers_view : (j : List ℕ) (s : Sender) → ValidSender s → Agrees u s → (l : List SenderCall) → Apart.OwnNumbers u p j (desk_of s) (map call_said l) → CodeNumbers p j s l
  own_numbers_view j s v w [] h = tt
  own_numbers_view j s v w (c ∷ l) h =
      let k = answered_kept s v c in
      let q = subst (λ (x : Def.Result). (about p (desk_of s) (call_said c) ≡ true → NumberOf (got_after p (call_said c) x.0 j) x.0) × Apart.OwnNumbers u p (got_after p (call_said c) x.0 j) x.1 (map call_said l)) (k.means u w) h in
      (q.0, own_numbers_view (got_after p (call_said c) (answered s c).0 j) (answered s c).1 k.valid (k.agrees u w) l q.1)

-- ---- refused calls

-- is the answer a refusal
abbrev refuses : Def.Answer → Type 0
refuses a = given (refusal_in a) ≡ true

-- a run that goes on is not refused
served_fdt : (taken : Bool) (id : ℕ) (x : Outcome) → given (refusal_in (fdt_answer taken (answer_of true 0 id x))) ≡ false
served_fdt taken id OutcomeV.Idle = refl
served_fdt taken id OutcomeV.Over = refl
served_fdt taken id (OutcomeV.Sent y) = refl

served_file : (toi : ℕ) (x : Outcome) → given (refusal_in (file_answer (answer_of false toi 0 x))) ≡ false
served_file toi OutcomeV.Idle = refl
served_file toi OutcomeV.Over = refl
served_file toi (OutcomeV.Sent y) = refl

module _ (s : Sender) where
  refused_reserve : refuses (alloc_answer (Alloc.given_said (reserving_of s).answer)) → (reserving_of s).sender ≡ s
  unfolding reserving_of
  refused_reserve = subst (λ (r : Reserved). refuses (alloc_answer (Alloc.given_said r.answer)) → with_list s r.fdt ≡ s) (sym (reserved_as s.fdt))
      (allocated_cases (λ (x : Allocated). refuses (alloc_answer (Alloc.given_said x.answer)) → with_list s (with_tois s.fdt x.allocator) ≡ s) true s.fdt.tois
      (λ h e. absurd (false≢true e)) (λ h e. refl))

  refused_release : (t : ℕ) → refuses (alloc_answer (Alloc.known_said (releasing_of t s).answer)) → (releasing_of t s).sender ≡ s
  unfolding releasing_of
  refused_release t = subst (λ (r : Released). refuses (alloc_answer (Alloc.known_said r.answer)) → with_list s r.fdt ≡ s) (sym (released_as s.fdt t))
      (dropped_cases (λ (x : Changed). refuses (alloc_answer (Alloc.known_said x.answer)) → with_list s (with_tois s.fdt x.allocator) ≡ s) true t s.fdt.tois
      (λ e. refl) (λ i e. absurd (false≢true e)))

  refused_added : (o : Object) (named : Option ℕ) (r : Added) → ListAdds s.fdt (request_of o) (own_of (request_of o).own s.fdt.settings.sizes) named r
      → refuses (add_answer r.answer) → with_list s r.fdt ≡ s
  refused_added o named r (ListAdds.refused a h) e = ap (λ (x : Added). with_list s x.fdt) h
  refused_added o named r (ListAdds.admits k t h) e = absurd (false≢true (sym (ap (λ x. given (refusal_in (add_answer x))) h.answer) ∙ e))

  refused_add : ValidSender s → (o : Object) (named : Option ℕ) → refuses (add_answer (adding_of o named s).answer) → (adding_of o named s).sender ≡ s
  unfolding adding_of
  refused_add v o named = if_on (λ (x : Adding). refuses (add_answer x.answer) → x.sender ≡ s) (any (has_priority o.priority) (working s))
      (λ h. refused_added o named (added_of s.fdt (request_of o) named) (added_view s.fdt v.holds.valid (request_of o) named)) (λ h e. refl)

  refused_publish : (now : ℕ) (c : Part) → refuses (alloc_answer (Alloc.known_said (publishing_of now c s).answer)) → (publishing_of now c s).sender ≡ s
  unfolding publishing_of
  refused_publish now c = subst (λ (r : Published). refuses (alloc_answer (Alloc.known_said r.answer)) → with_list s r.fdt ≡ s) (sym (publish_as c s.fdt now)) (by (publish_refusal_of c s.fdt))
    where
      by : (o : Option Refusal) → refuses (alloc_answer (Alloc.known_said (published_by c s.fdt now o).answer)) → with_list s (published_by c s.fdt now o).fdt ≡ s
      by None e = absurd (false≢true e)
      by (Some why) e = refl

  refused_fdt_run : (now : ℕ) (draft : Option Part) (x : Option Refusal) → refuses (fdt_answer (fdt_running_by now draft s x).taken (fdt_running_by now draft s x).answer) → (fdt_running_by now draft s x).sender ≡ s
  refused_fdt_run now draft None e = let r = fdt_ran_of s.window now draft s.fdt s.fdt_session in absurd (false≢true (sym (served_fdt r.taken r.session.id r.answer) ∙ e))
  refused_fdt_run now draft (Some n) e = refl

  refused_run_fdt : (now : ℕ) (draft : Option Part) → refuses (fdt_answer (fdt_running_of now draft s).taken (fdt_running_of now draft s).answer) → (fdt_running_of now draft s).sender ≡ s
  unfolding fdt_running_of
  refused_run_fdt now draft = refused_fdt_run now (real_draft draft) (draft_test_of (real_draft draft) s.fdt)

  refused_run : (i now : ℕ) → refuses (file_answer (running_of i now s).answer) → (running_of i now s).sender ≡ s
  unfolding running_of
  refused_run i now = if_on (λ (x : Running). refuses (file_answer x.answer) → x.sender ≡ s) (ltb i s.count)
      (λ h e. (let r = ran_of s.window now s.fdt (get_or s.sessions i (idle_of 0)) in absurd (false≢true (sym (served_file (slot_at r.fdt.slots r.session.slot).file.toi r.answer) ∙ e)))) (λ h e. refl)

pub refused_keeps : RefusedKeeps
refused_keeps s v SenderCall.reserve e = refused_reserve s e
refused_keeps s v (SenderCall.release t) e = refused_release s t e
refused_keeps s v (SenderCall.add o named) e = refused_add s v o named e
refused_keeps s v (SenderCall.remove t) e = absurd (false≢true e)
refused_keeps s v (SenderCall.trigger t start) e = absurd (false≢true e)
refused_keeps s v (SenderCall.listed t) e = refl
refused_keeps s v (SenderCall.transfers t) e = refl
refused_keeps s v SenderCall.complete e = absurd (false≢true e)
refused_keeps s v (SenderCall.publish now c) e = refused_publish s now c e
refused_keeps s v (SenderCall.run_fdt now draft) e = refused_run_fdt s now draft e
refused_keeps s v (SenderCall.run_file i now) e = refused_run s i now e

-- ---- the promises

module _ (z : Setup) (o : OpeningKept z) where
  -- a run from the opening
  opening_run : (l : List SenderCall) → Def.run (setup_said z) (Def.opening (setup_said z)) (map call_said l) ≡ ((played (opening_sender z) l).0, desk_of (played (opening_sender z) l).1)
  opening_run l = ap (λ d. Def.run (setup_said z) d (map call_said l)) (sym o.means) ∙ played_run (setup_said z) (opening_sender z) o.valid o.agrees l

  opening_calls : (p : ℕ) (l : List SenderCall) → code_calls p [] (opening_sender z) l ≡ Apart.calls (setup_said z) p [] (Def.opening (setup_said z)) (map call_said l)
  opening_calls p l = calls_view (setup_said z) p [] (opening_sender z) o.valid o.agrees l ∙ ap (λ d. Apart.calls (setup_said z) p [] d (map call_said l)) o.means

  opening_answers : (p : ℕ) (l : List SenderCall) → code_answers p [] (opening_sender z) l ≡ Apart.answers (setup_said z) p [] (Def.opening (setup_said z)) (map call_said l)
  opening_answers p l = answers_view (setup_said z) p [] (opening_sender z) o.valid o.agrees l ∙ ap (λ d. Apart.answers (setup_said z) p [] d (map call_said l)) o.means

  opening_smooth : (p : ℕ) (l : List SenderCall) → code_smooth p (opening_sender z) l ≡ true → Apart.smooth (setup_said z) p (Def.opening (setup_said z)) (map call_said l) ≡ true
  opening_smooth p l e = sym (smooth_view (setup_said z) p (opening_sender z) o.valid o.agrees l ∙ ap (λ d. Apart.smooth (setup_said z) p d (map call_said l)) o.means) ∙ e

-- for every set-up with its four places for priorities, if it is accepted
pub promised : (z : Setup) → length z.priorities ≡ most_sessions → sound (setup_said z) ≡ true → Promised z
unfolding Apart.Alike
promised z long ok =
    let o = opening_kept z long ok in
    let u = setup_said z in
    let total = Reached.totals u ok in
    let desk : (l : List SenderCall) → (Def.run u (Def.opening u) (map call_said l)).1 ≡ desk_of (played (opening_sender z) l).1 = λ l. ap (λ x. x.1) (opening_run z o l) in
    record {
      answers = λ l. sym (ap (λ x. x.0) (opening_run z o l));
      desk = λ l. sym (desk l);
      valid = λ l. played_valid (opening_sender z) o.valid l;
      given_once = λ l c t e.
          (let k = answered_kept (played (opening_sender z) l).1 (played_valid (opening_sender z) o.valid l) c in
          let w = played_agrees u (opening_sender z) o.valid o.agrees l in
          subst (λ d. (Def.step u d (call_said c)).0 ≡ Def.Answer.number t → Total.Given d (call_said c) t) (desk l) (total.given_once (map call_said l) (call_said c) t) (ap (λ x. x.0) (k.means u w) ∙ e));
      reachable = λ l. subst (Total.Reachable u) (desk l) (total.reachable (map call_said l));
      alike = λ p l m a b e.
          opening_answers z o p l
          ∙ (demand_3_sound u ok p).two_runs (map call_said l) (map call_said m) (opening_smooth z o p l a) (opening_smooth z o p m b) (sym (opening_calls z o p l) ∙ e ∙ opening_calls z o p m)
          ∙ sym (opening_answers z o p m);
      only_these = λ p l a. opening_answers z o p l ∙ ((demand_3_sound u ok p).only_these_calls (map call_said l) (opening_smooth z o p l a)).same_answers;
      only_calls = λ p l a. ((demand_3_sound u ok p).only_these_calls (map call_said l) (opening_smooth z o p l a)).same_calls ∙ sym (opening_calls z o p l);
      numbers_got = λ p l. own_numbers_view u p [] (opening_sender z) o.valid o.agrees l (subst (λ d. Apart.OwnNumbers u p [] d (map call_said l)) (sym o.means) ((demand_3_sound u ok p).numbers_got (map call_said l)));
    }
