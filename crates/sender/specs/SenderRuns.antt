-- Runs of the code: its calls from outside one after another, from an accepted set-up on, and what is promised of them. Statements only, proved in proofs/SenderRuns.
use Rattle.std.specs.Prelude.{◌≡◌, Bool, true, not, ◌&&◌, List, [], ◌∷◌, map, ℕ, Option}
use Rattle.sizes.specs.Words.{when◌then◌else◌, given}
use Rattle.sizes.specs.Allocator as Alloc
use Rattle.lifecycle.specs.FileDesc.{time_of}
use Rattle.lifecycle.specs.FdtCalls.{is_added_of, transfers_of}
use Rattle.lifecycle.specs.declared.parts.Part.{Part}
use Rattle.lifecycle.specs.declared.filedesc.Time.{Time}
use Rattle.definition.specs.Desk as Def
use Rattle.definition.specs.Apart as Apart
use Rattle.definition.specs.Apart.{about, key, got_after, call_by, answer_by, turned_away, refusal_in, NumberOf}
use Rattle.definition.specs.TotalPromises as Total
use Rattle.sender.specs.SenderCalls.{desk_of, ValidSender, alloc_answer, add_answer, file_answer, fdt_answer, object_said, reserving_of, releasing_of, adding_of, removing_of, prompting_of, completing_of, publishing_of, running_of, fdt_running_of}
use Rattle.sender.specs.SetupCalls.{setup_said, opening_sender}
use Rattle.sender.specs.declared.sender.Sender.{Sender}
use Rattle.sender.specs.declared.sender.Object.{Object}
use Rattle.sender.specs.declared.setup.Setup.{Setup}

-- a call from outside, with the code's own inputs
pub data SenderCall : Type 0 where
  reserve : SenderCall
  release : ℕ → SenderCall
  add : Object → Option ℕ → SenderCall
  remove : ℕ → SenderCall
  trigger : ℕ → Time → SenderCall
  listed : ℕ → SenderCall
  transfers : ℕ → SenderCall
  complete : SenderCall
  publish : ℕ → Part → SenderCall  -- clock, content
  run_fdt : ℕ → Option Part → SenderCall  -- clock, draft
  run_file : ℕ → ℕ → SenderCall  -- session, clock

-- which call of the definition it is
abbrev pub call_said : SenderCall → Def.Call
call_said reserve = Def.Call.reserve
call_said (release t) = Def.Call.release t
call_said (add o named) = Def.Call.add named (object_said o)
call_said (remove t) = Def.Call.touch t Def.Touch.remove
call_said (trigger t start) = Def.Call.touch t (Def.Touch.trigger (time_of start))
call_said (listed t) = Def.Call.ask (Def.Question.listed t)
call_said (transfers t) = Def.Call.ask (Def.Question.transfers t)
call_said complete = Def.Call.complete
call_said (publish now c) = Def.Call.publish now c
call_said (run_fdt now draft) = Def.Call.run_fdt now draft
call_said (run_file i now) = Def.Call.run_file i now

-- what the code answers, by the table's numbers, and the sender that it leaves: the functions that its contracts are exact by
abbrev pub answered : Sender → SenderCall → Def.Answer × Sender
answered s reserve = (alloc_answer (Alloc.given_said (reserving_of s).answer), (reserving_of s).sender)
answered s (release t) = (alloc_answer (Alloc.known_said (releasing_of t s).answer), (releasing_of t s).sender)
answered s (add o named) = (add_answer (adding_of o named s).answer, (adding_of o named s).sender)
answered s (remove t) = (Def.Answer.truth (removing_of t s).yes, (removing_of t s).sender)
answered s (trigger t start) = (Def.Answer.truth (prompting_of t start s).yes, (prompting_of t start s).sender)
answered s (listed t) = (Def.Answer.truth (is_added_of t s.fdt), s)
answered s (transfers t) = (Def.Answer.transferred (transfers_of t s.fdt), s)
answered s complete = (Def.Answer.done, completing_of s)
answered s (publish now c) = (alloc_answer (Alloc.known_said (publishing_of now c s).answer), (publishing_of now c s).sender)
answered s (run_fdt now draft) = (fdt_answer (fdt_running_of now draft s).taken (fdt_running_of now draft s).answer, (fdt_running_of now draft s).sender)
answered s (run_file i now) = (file_answer (running_of i now s).answer, (running_of i now s).sender)

-- calls one after another: each call's answer, and the sender at the end
unfoldable pub played : Sender → List SenderCall → List Def.Answer × Sender
played s [] = ([], s)
played s (c ∷ l) = let r = answered s c in let rest = played r.1 l in (r.0 ∷ rest.0, rest.1)

-- a refused call leaves the sender as it was, in every field
abbrev pub RefusedKeeps : Type 0
RefusedKeeps = (s : Sender) → ValidSender s → (c : SenderCall) → given (refusal_in (answered s c).0) ≡ true → (answered s c).1 ≡ s

-- ---- what one run says of a priority, read off the code's own answers

module _ (p : ℕ) where
  -- the priority's calls, in order; j has the numbers that its admissions got so far
  unfoldable pub code_calls : List ℕ → Sender → List SenderCall → List Def.Call
  code_calls j s [] = []
  code_calls j s (c ∷ l) =
      let r = answered s c in
      let rest = code_calls (got_after p (call_said c) r.0 j) r.1 l in
      when about p (desk_of s) (call_said c) then call_by (key j) (call_said c) ∷ rest else rest

  -- their answers
  unfoldable pub code_answers : List ℕ → Sender → List SenderCall → List Def.Answer
  code_answers j s [] = []
  code_answers j s (c ∷ l) =
      let r = answered s c in
      let j' = got_after p (call_said c) r.0 j in
      let rest = code_answers j' r.1 l in
      when about p (desk_of s) (call_said c) then answer_by (key j') r.0 ∷ rest else rest

  -- does none of them meet refusal 5, 6 or 7
  unfoldable pub code_smooth : Sender → List SenderCall → Bool
  code_smooth s [] = true
  code_smooth s (c ∷ l) = let r = answered s c in not (turned_away p (call_said c) r.0) && code_smooth r.1 l

  -- every answer to a call about the priority names only numbers that its admissions got until then, among them j
  abbrev pub CodeNumbers : List ℕ → Sender → List SenderCall → Type 0
  CodeNumbers j s [] = Unit {0}
  CodeNumbers j s (c ∷ l) =
      let r = answered s c in
      let j' = got_after p (call_said c) r.0 j in
      (about p (desk_of s) (call_said c) ≡ true → NumberOf j' r.0) × CodeNumbers j' r.1 l

  -- two runs of the code from the same set-up, with the same calls about the priority, are answered alike but for object numbers
  abbrev pub CodeAlike : Setup → Type 0
  CodeAlike z = (l m : List SenderCall) → code_smooth (opening_sender z) l ≡ true → code_smooth (opening_sender z) m ≡ true
      → code_calls [] (opening_sender z) l ≡ code_calls [] (opening_sender z) m → code_answers [] (opening_sender z) l ≡ code_answers [] (opening_sender z) m

-- ---- the promises, over all runs of the code from an accepted set-up

pub record Promised (z : Setup) : Type 0 where
  -- every answer, and the desk at the end, are the definition's
  pub answers : (l : List SenderCall) → (played (opening_sender z) l).0 ≡ (Def.run (setup_said z) (Def.opening (setup_said z)) (map call_said l)).0
  pub desk : (l : List SenderCall) → desk_of (played (opening_sender z) l).1 ≡ (Def.run (setup_said z) (Def.opening (setup_said z)) (map call_said l)).1
  pub valid : (l : List SenderCall) → ValidSender (played (opening_sender z) l).1
  -- no number is given while it is held, but to the object whose add names that reservation
  pub given_once : (l : List SenderCall) (c : SenderCall) (t : ℕ) → (answered (played (opening_sender z) l).1 c).0 ≡ Def.Answer.number t → Total.Given (desk_of (played (opening_sender z) l).1) (call_said c) t
  pub reachable : (l : List SenderCall) → Total.Reachable (setup_said z) (desk_of (played (opening_sender z) l).1)
  -- one priority does not disturb another
  pub alike : (p : ℕ) → CodeAlike p z
  -- and each of its answers is the one that the definition gives where only these calls are made
  pub only_these : (p : ℕ) (l : List SenderCall) → code_smooth p (opening_sender z) l ≡ true
      → code_answers p [] (opening_sender z) l ≡ Apart.answers (setup_said z) p [] (Def.opening (setup_said z)) (Apart.lone (setup_said z) p (map call_said l))
  pub only_calls : (p : ℕ) (l : List SenderCall) → code_smooth p (opening_sender z) l ≡ true
      → Apart.calls (setup_said z) p [] (Def.opening (setup_said z)) (Apart.lone (setup_said z) p (map call_said l)) ≡ code_calls p [] (opening_sender z) l
  -- its answers name only numbers that its admissions got
  pub numbers_got : (p : ℕ) (l : List SenderCall) → CodeNumbers p [] (opening_sender z) l
