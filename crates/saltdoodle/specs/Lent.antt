-- What each call promises on a sender that the host lends.
use Rattle.std.specs.Prelude.{◌≡◌, ℕ, get_or, Option, Some, Result, Ok, Err}
use Rattle.sizes.specs.declared.refusal.Refusal.{Refusal}
use Rattle.lifecycle.specs.Slots.{slot_at}
use Rattle.lifecycle.specs.declared.parts.Part.{Part}
use Rattle.lifecycle.specs.declared.slots.Slot.{Slot}
use Rattle.sender.specs.SessionCalls.{idle_of}
use Rattle.sender.specs.SenderCalls.{Reserving, Releasing, Adding, Publishing, Running, Reserves, Releases, Adds, Publishes, CountsTransfers, RunsFdt, RunsFile}
use Rattle.sender.specs.SetupCalls.{Opens}
use Rattle.sender.specs.declared.sender.Sender.{Sender}
use Rattle.sender.specs.declared.sendersession.SenderSession.{SenderSession}
use Rattle.host_structs.specs.Inputs.{object_in, named_in, setup_in}
use Rattle.host_structs.specs.Answers.{numbered_told, refusal_told, transfers_told, run_told}
use Rattle.host_structs.specs.declared.inputs.PlainObject.{PlainObject}
use Rattle.host_structs.specs.declared.inputs.PlainSetup.{PlainSetup}
use Rattle.host_structs.specs.declared.answers.Numbered.{Numbered}
use Rattle.host_structs.specs.declared.answers.Counted.{Counted}
use Rattle.host_structs.specs.declared.answers.Sent.{Sent}

-- there is a result of the call, with all that is promised of it; its sender stands behind the reference afterwards, and the host is told its answer
pub record Lent {R N : Type 0} (promise : R → Type 0) (sender : R → Sender) (told : R → N) (after : Sender) (answer : N) : Type 0 where
  pub result : R
  pub promised : promise result
  pub stored : after ≡ sender result
  pub said : answer ≡ told result

abbrev pub ReservesLent : Sender → Sender → Numbered → Type 0
ReservesLent s = Lent (Reserves s) (λ (r : Reserving). r.sender) (λ (r : Reserving). numbered_told r.answer)

abbrev pub ReleasesLent : ℕ → Sender → Sender → ℕ → Type 0
ReleasesLent t s = Lent (Releases t s) (λ (r : Releasing). r.sender) (λ (r : Releasing). refusal_told r.answer)

abbrev pub AddsLent : PlainObject → Sender → Sender → Numbered → Type 0
AddsLent o s = Lent (Adds (object_in o) (named_in o) s) (λ (r : Adding). r.sender) (λ (r : Adding). numbered_told r.answer)

abbrev pub PublishesLent : ℕ → Part → Sender → Sender → ℕ → Type 0
PublishesLent now c s = Lent (Publishes now c s) (λ (r : Publishing). r.sender) (λ (r : Publishing). refusal_told r.answer)

-- a draft of length 0 is none
abbrev pub RunsFdtLent : ℕ → Part → Sender → Sender → Sent → Type 0
RunsFdtLent now c s = Lent (RunsFdt now (Some c) s) (λ (r : Running). r.sender) (λ (r : Running). run_told r.taken r.answer)

abbrev pub RunsFileLent : ℕ → ℕ → Sender → Sender → Sent → Type 0
RunsFileLent i now s = Lent (RunsFile i now s) (λ (r : Running). r.sender) (λ (r : Running). run_told r.taken r.answer)

-- file session i, and the slot in its hand
abbrev pub session_at : Sender → ℕ → SenderSession
session_at s i = get_or s.sessions i (idle_of 0)

abbrev pub slot_of : Sender → ℕ → Slot
slot_of s i = slot_at s.fdt.slots (session_at s i).slot

-- the sender that a set-up opens; a refused one leaves what stood there
abbrev pub opened_or : Sender → Result Sender Refusal → Sender
opened_or s (Ok x) = x
opened_or s (Err why) = s

abbrev pub OpensLent : PlainSetup → Sender → Sender → ℕ → Type 0
OpensLent z s = Lent (Opens (setup_in z)) (opened_or s) (refusal_told {A = Sender})

-- the sender stays
pub record TotalsTold (t : ℕ) (s : Sender) (answer : Counted) : Type 0 where
  pub result : Option ℕ
  pub promised : CountsTransfers t s result
  pub said : answer ≡ transfers_told result
