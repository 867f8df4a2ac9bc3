-- A run of a file session that changes nothing but the session: what it comes to, from the session, the slot in its hand and how many FDTs wait.
use Rattle.std.specs.Prelude.{◌≡◌, true, false, not, ℕ, eqb, Option, None, Some, Ok}
use Rattle.sizes.specs.Words.{when◌then◌else◌}
use Rattle.lifecycle.specs.declared.slots.Slot.{Slot}
use Rattle.sender.specs.EncoderCalls.{ValidEncoder}
use Rattle.sender.specs.SessionCalls.{forced_slot, served_of}
use Rattle.sender.specs.SenderCalls.{answer_of, RunAnswer}
use Rattle.sender.specs.declared.sendersession.SenderSession.{SenderSession}
use Rattle.sender.specs.declared.sendersession.Outcome.{Outcome}
use Rattle.sender.specs.declared.sendersession.Outcome.TheVariants.{Idle, Sent, Over}
use Rattle.host_structs.specs.Answers.{run_told}
use Rattle.fast_run.specs.declared.Settled.{Settled}

-- where an object is in hand, its encoder belongs to its partition
pub record ValidSession (x : SenderSession) : Type 0 where
  pub busy : x.busy ≡ true → ValidEncoder x.encoder

-- what the host is told, and the session after it
abbrev pub settled_as : RunAnswer → SenderSession → Settled
settled_as a x = record { answer = run_told false a; session = x }

-- the end of a transfer changes the list: it is not settled here
abbrev pub settled_by : ℕ → SenderSession → Outcome → Option Settled
settled_by toi y Over = None
settled_by toi y Idle = Some (settled_as (Ok None) y)
settled_by toi y (Sent s) = Some (settled_as (answer_of false toi 0 (Sent s)) y)

-- nor is the run of a session with nothing in hand
unfoldable pub settled_of : ℕ → ℕ → Slot → SenderSession → Option Settled
settled_of waiting now t x =
    when x.busy then (let r = served_of (forced_slot t) (not (eqb waiting 0)) now x in settled_by t.file.toi r.session r.answer)
    else None
