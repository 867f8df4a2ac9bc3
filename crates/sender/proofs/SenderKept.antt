-- Each call from outside keeps its promise.
use Rattle.sizes.specs.declared.refusal.Refusal.TheVariants as Because
use mathlib.Core.Path.{◌≡◌, refl, sym, ◌∙◌, ap, subst}
use mathlib.Core.Bool.{true, false}
use Rattle.std.specs.Prelude.{Option, None, Some, Err}
use Rattle.sizes.specs.declared.refusal.Refusal.{Refusal}
use mathlib.Core.List.{List, [], ◌∷◌}
use Prim.Native.Nat.{ℕ, zero, suc, ◌*◌, ◌<◌, ◌≤◌}
use mir.Syntax.{w64}
use mir.Val.{Fits}
use borrow.Author.Rules.{rules}
use native.Mathlib.Omega.{arith}
use borrow.Author.Tests.{lt-ltb, le-ltb}
use lib.ListN.{length, get_or, set}
use Rattle.sizes.proofs.Tests.{if_on}
use Rattle.sizes.specs.Limits.{object_slots}
use lib.Seq.{get_or-set_same}
use Rattle.lifecycle.specs.Slots.{slot_at}
use Rattle.sizes.specs.Words.{any}
use Rattle.lifecycle.specs.FdtCalls.{real_draft, draft_test_of, is_added_of, transfers_of, reserved_of, released_of, added_of, removed_of, triggered_of, completed_of}
use Rattle.lifecycle.specs.declared.parts.Part.{Part}
use Rattle.lifecycle.specs.declared.filedesc.Time.{Time}
use Rattle.lifecycle.specs.declared.fdt.Fdt.{Fdt}
use Rattle.sender.specs.SessionCalls.{Holds, idle_of, ran_of}
use Rattle.sender.specs.FdtSessionCalls.{FdtHolds, fdt_ran_of}
use Rattle.sender.specs.SenderCalls.{RunAnswer, ValidSender, working, with_list, has_priority, request_of, reserving_of, releasing_of, removing_of, prompting_of, completing_of, publishing_of, adding_of, answer_of, running_of, fdt_running_by, fdt_running_of, RunsFdt, RunsFile, Reserves, Releases, Removes, Prompts, Lists, CountsTransfers, Completes, Publishes, Adds}
use Rattle.sender.specs.declared.sender.Sender.{Sender}
use Rattle.sender.specs.declared.sender.Object.{Object}
use Rattle.sender.specs.SenderCalls.{Adding}
use Rattle.sender.specs.SenderCalls.{Running}
use Rattle.sender.specs.declared.sendersession.SenderSession.{SenderSession}
use Rattle.sender.specs.declared.sendersession.Outcome.{Outcome}
use Rattle.sender.specs.SessionCalls.{Turn}
use Rattle.sender.specs.FdtSessionCalls.{FdtTurn}
use Rattle.sender.proofs.SessionLaws.{holds_added, holds_removed, holds_triggered, holds_published, holds_reserved, holds_released, holds_completed}
use Rattle.lifecycle.proofs.FdtKeeps.{ObjectsOnly, reserved_keeps, released_keeps, added_keeps, removed_keeps, triggered_keeps}
use Rattle.sender.proofs.FdtSessionLaws.{fdt_holds_over, fdt_holds_published}
use Rattle.sender.proofs.DeskNumbers.{reserve_kept, release_kept, complete_kept}
use Rattle.sender.proofs.DeskListed.{listed_kept, transfers_kept}
use Rattle.sender.proofs.DeskByNumber.{remove_kept, trigger_kept}
use Rattle.sender.proofs.DeskPublish.{publish_kept}
use Rattle.sender.proofs.DeskAdds.{add_kept}
use Rattle.sender.proofs.DeskRuns.{run_kept, ran_slot}
use Rattle.sender.proofs.DeskFdtRuns.{run_fdt_kept}

module _ (s : Sender) (v : ValidSender s) where
  -- a list that has the same FDT side
  beside : (r : Fdt) → Holds r → ObjectsOnly s.fdt r → FdtHolds r
  beside r h e = fdt_holds_over s.fdt r v.fdt_holds h.valid e.settings e.announcer

  pub reserves : Reserves s (reserving_of s)
  unfolding reserving_of
  reserves =
      let h = holds_reserved s.fdt v.holds in
      record { exact = refl; kept = reserve_kept s v h (beside (reserved_of s.fdt).fdt h (reserved_keeps s.fdt)) }

  pub releases : (t : ℕ) → Releases t s (releasing_of t s)
  unfolding releasing_of
  releases t =
      let h = holds_released s.fdt v.holds t in
      record { exact = refl; kept = release_kept t s v h (beside (released_of t s.fdt).fdt h (released_keeps s.fdt t)) }

  pub removes : (t : ℕ) → Removes t s (removing_of t s)
  unfolding removing_of
  removes t =
      let h = holds_removed s.fdt v.holds t in
      record { exact = refl; kept = remove_kept s t v h (beside (removed_of t s.fdt).fdt h (removed_keeps s.fdt t)) }

  pub prompts : (t : ℕ) (start : Time) → Prompts t start s (prompting_of t start s)
  unfolding prompting_of
  prompts t start =
      let h = holds_triggered s.fdt v.holds t start in
      record { exact = refl; kept = trigger_kept s t start v h (beside (triggered_of t start s.fdt).fdt h (triggered_keeps s.fdt t start)) }

  pub lists : (t : ℕ) → Lists t s (is_added_of t s.fdt)
  lists t = record { exact = refl; kept = listed_kept s v t }

  pub totals : (t : ℕ) → CountsTransfers t s (transfers_of t s.fdt)
  totals t = record { exact = refl; kept = transfers_kept s v t }

  pub completes : Completes s (completing_of s)
  completes =
      let h = holds_completed s.fdt v.holds in
      record { exact = refl; kept = complete_kept s v h (fdt_holds_over s.fdt (completed_of s.fdt) v.fdt_holds h.valid refl refl) }

  pub publishes : (now : ℕ) (c : Part) → Publishes now c s (publishing_of now c s)
  unfolding publishing_of
  publishes now c = record {
    exact = refl;
    kept = publish_kept s now c v (holds_published s.fdt v.holds now c) (fdt_holds_published now c s.fdt v.fdt_store v.fdt_holds);
  }

  pub adds : (o : Object) (named : Option ℕ) → Adds o named s (adding_of o named s)
  unfolding adding_of
  adds o named = record {
    exact = refl;
    kept = add_kept o named v
        (if_on (λ (r : Adding). Holds r.sender.fdt) (any (has_priority o.priority) (working s)) (λ e. admits) (λ e. v.holds))
        (if_on (λ (r : Adding). FdtHolds r.sender.fdt) (any (has_priority o.priority) (working s)) (λ e. beside (added_of s.fdt (request_of o) named).fdt admits (added_keeps s.fdt (request_of o) named)) (λ e. v.fdt_holds));
  }
    where
      admits : Holds (added_of s.fdt (request_of o) named).fdt
      admits = holds_added s.fdt v.holds v.object_store (request_of o) named

-- the two cases of an add
pub add_refused : (o : Object) (named : Option ℕ) (s : Sender) → any (has_priority o.priority) (working s) ≡ false → adding_of o named s ≡ record { answer = Err Because.NoPriority; sender = s }
unfolding adding_of
add_refused o named s e = rw e

pub add_goes : (o : Object) (named : Option ℕ) (s : Sender) → any (has_priority o.priority) (working s) ≡ true
    → adding_of o named s ≡ record { answer = (added_of s.fdt (request_of o) named).answer; sender = with_list s (added_of s.fdt (request_of o) named).fdt }
unfolding adding_of
add_goes o named s e = rw e

-- an element that is there, whatever stands past the end
pub get_same : {A : Type 0} (l : List A) (i : ℕ) (a b : A) → i < length l → get_or l i a ≡ get_or l i b
get_same [] i a b h = absurd (omega arith)
get_same (x ∷ l) zero a b h = refl
get_same (x ∷ l) (suc i) a b h = get_same l i a b (omega arith)

-- the two cases of a run of a file session
pub run_refused : (i now : ℕ) (s : Sender) → s.count ≤ i → running_of i now s ≡ record { taken = false; answer = Err Because.NoSession; sender = s }
unfolding running_of
run_refused i now s h = rw (le-ltb i s.count h)

-- what the sender makes of a session's run
abbrev pub ran_sender : ℕ → Sender → Turn → Running
ran_sender i s r = record {
  taken = false;
  answer = answer_of false (slot_at r.fdt.slots r.session.slot).file.toi 0 r.answer;
  sender = record { fdt = r.fdt; window = s.window; count = s.count; sessions = set s.sessions i r.session; fdt_session = s.fdt_session };
}

pub run_goes : (i now : ℕ) (s : Sender) → i < s.count → running_of i now s ≡ ran_sender i s (ran_of s.window now s.fdt (get_or s.sessions i (idle_of 0)))
unfolding running_of
run_goes i now s h = rw (lt-ltb i s.count h)

pub runs : (s : Sender) → ValidSender s → (i now : ℕ) → RunsFile i now s (running_of i now s)
runs s v i now = record { exact = refl; kept = run_kept s i now v }

-- the same for an element that was read with another past the end
pub read_session : (s : Sender) → ValidSender s → (i : ℕ) (z : SenderSession) → i < s.count → get_or s.sessions i z ≡ get_or s.sessions i (idle_of 0)
read_session s v i z h = let a = v.few in let b = v.long in get_same s.sessions i z (idle_of 0) (omega arith)

-- a slot's place in bytes; a slot has 160
pub slot_fits : (k : ℕ) → k < object_slots → Fits w64 (k * 160)
slot_fits k h = search rules

-- what the code's run of session i left: its answer a, the list f and the session x; z is what is read past the end
module _ (s : Sender) (v : ValidSender s) (i now : ℕ) (h : i < s.count) (z : SenderSession) (a : Outcome) (f : Fdt) (x : SenderSession)
    (e : ran_of s.window now s.fdt (get_or s.sessions i z) ≡ record { answer = a; fdt = f; session = x }) where
  -- so does the definition's
  ran_as : ran_of s.window now s.fdt (get_or s.sessions i (idle_of 0)) ≡ record { answer = a; fdt = f; session = x }
  ran_as = ap (ran_of s.window now s.fdt) (sym (read_session s v i z h)) ∙ e

  -- the session is read where it was stored
  stored : get_or (set s.sessions i x) i z ≡ x
  stored = let a = v.few in let b = v.long in get_or-set_same s.sessions i x z (omega arith)

  pub slot_inside : (get_or (set s.sessions i x) i z).slot < object_slots
  slot_inside = subst (λ (y : SenderSession). y.slot < object_slots) (sym stored) (subst (λ (r : Turn). r.session.slot < object_slots) ran_as (ran_slot s i now v h))

  -- the promise
  pub ran_file : (y : RunAnswer) → y ≡ answer_of false (slot_at f.slots (get_or (set s.sessions i x) i z).slot).file.toi 0 a
      → RunsFile i now s (record { taken = false; answer = y; sender = record { fdt = f; window = s.window; count = s.count; sessions = set s.sessions i x; fdt_session = s.fdt_session } })
  ran_file y q =
      let g : RunAnswer → Running = λ y. record { taken = false; answer = y; sender = record { fdt = f; window = s.window; count = s.count; sessions = set s.sessions i x; fdt_session = s.fdt_session } } in
      let t = ap (λ (w : SenderSession). answer_of false (slot_at f.slots w.slot).file.toi 0 a) stored in
      subst (RunsFile i now s) (run_goes i now s h ∙ ap (ran_sender i s) ran_as ∙ ap g (sym (q ∙ t))) (runs s v i now)

-- ---- a run of the FDT session

-- a draft that is refused
pub fdt_refused : (now : ℕ) (draft : Option Part) (s : Sender) (why : Refusal) → draft_test_of (real_draft draft) s.fdt ≡ Some why
    → fdt_running_of now draft s ≡ record { taken = false; answer = Err why; sender = s }
unfolding fdt_running_of
fdt_refused now draft s why e = ap (fdt_running_by now (real_draft draft) s) e

-- what the sender makes of a run
abbrev pub fdt_ran_sender : Sender → FdtTurn → Running
fdt_ran_sender s r = record {
  taken = r.taken;
  answer = answer_of true 0 r.session.id r.answer;
  sender = record { fdt = r.fdt; window = s.window; count = s.count; sessions = s.sessions; fdt_session = r.session };
}

pub fdt_goes : (now : ℕ) (draft : Option Part) (s : Sender) → draft_test_of (real_draft draft) s.fdt ≡ None
    → fdt_running_of now draft s ≡ fdt_ran_sender s (fdt_ran_of s.window now (real_draft draft) s.fdt s.fdt_session)
unfolding fdt_running_of
fdt_goes now draft s e = ap (fdt_running_by now (real_draft draft) s) e

pub fdt_runs : (s : Sender) → ValidSender s → (now : ℕ) (draft : Option Part) → RunsFdt now draft s (fdt_running_of now draft s)
fdt_runs s v now draft = record { exact = refl; kept = run_fdt_kept s now draft v }
