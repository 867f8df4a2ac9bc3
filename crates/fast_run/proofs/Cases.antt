-- What a run of a session comes to, case by case.
use mathlib.Core.Path.{◌≡◌, sym, ◌∙◌, ap}
use mathlib.Core.Bool.{Bool, true, false, not, ◌||◌}
use Rattle.std.specs.Prelude.{Option, None, Some, Ok}
use Prim.Native.Nat.{ℕ}
use lib.Dec.{eqb}
use borrow.Author.Tests.{eq-eqb, ne_eqb}
use Rattle.lifecycle.specs.Lifecycle.{too_early}
use Rattle.lifecycle.specs.FileDesc.{pace_said, ticked_of}
use Rattle.lifecycle.specs.declared.slots.Slot.{Slot}
use Rattle.sender.specs.EncoderCalls.{Read, read_of}
use Rattle.sender.specs.SessionCalls.{Serving, forced_slot, service_by, served_of}
use Rattle.sender.specs.SenderCalls.{answer_of}
use Rattle.sender.specs.declared.blockencoder.Symbol.{Symbol}
use Rattle.sender.specs.declared.sendersession.SenderSession.{SenderSession}
use Rattle.sender.specs.declared.sendersession.Outcome.TheVariants as OutcomeV
use Rattle.fast_run.specs.Settle.{settled_as, settled_by, settled_of}
use Rattle.fast_run.specs.declared.Settled.{Settled}

-- nothing is in hand
pub idles : (w now : ℕ) (t : Slot) (x : SenderSession) → x.busy ≡ false → settled_of w now t x ≡ None
unfolding settled_of
idles w now t x e = rw e

module _ (w now : ℕ) (t : Slot) (x : SenderSession) (busy : x.busy ≡ true) where
  abbrev of_service : Serving → Option Settled
  of_service r = settled_by t.file.toi r.session r.answer

  pub goes : settled_of w now t x ≡ of_service (served_of (forced_slot t) (not (eqb w 0)) now x)
  unfolding settled_of
  goes = rw busy

  still : not (eqb w 0) || too_early now (pace_said x.pace) ≡ true → served_of (forced_slot t) (not (eqb w 0)) now x ≡ record { answer = OutcomeV.Idle; session = x }
  unfolding served_of
  still e = rw e

  reads : not (eqb w 0) || too_early now (pace_said x.pace) ≡ false
      → served_of (forced_slot t) (not (eqb w 0)) now x ≡ service_by x (read_of (forced_slot t) x.encoder).encoder (read_of (forced_slot t) x.encoder).answer
  unfolding served_of
  reads e = rw e

  -- an FDT waits
  pub waits : (w ≡ 0 → ⊥) → settled_of w now t x ≡ Some (settled_as (Ok None) x)
  waits h = goes ∙ ap of_service (still (ap (λ (b : Bool). not b || too_early now (pace_said x.pace)) (ne_eqb w 0 h)))

  module _ (none : w ≡ 0) where
    -- before the due time
    pub early : too_early now (pace_said x.pace) ≡ true → settled_of w now t x ≡ Some (settled_as (Ok None) x)
    early h = goes ∙ ap of_service (still (ap (λ (b : Bool). not b || too_early now (pace_said x.pace)) (eq-eqb w 0 none) ∙ h))

    module _ (due : too_early now (pace_said x.pace) ≡ false) (f : Bool) (forced : f ≡ forced_slot t) (r : Read) (read : r ≡ read_of f x.encoder) where
      served : served_of (forced_slot t) (not (eqb w 0)) now x ≡ service_by x r.encoder r.answer
      served = reads (ap (λ (b : Bool). not b || too_early now (pace_said x.pace)) (eq-eqb w 0 none) ∙ due)
          ∙ ap (λ (b : Bool). service_by x (read_of b x.encoder).encoder (read_of b x.encoder).answer) (sym forced) ∙ ap (λ (z : Read). service_by x z.encoder z.answer) (sym read)

      -- the transfer is over
      pub ends : r.answer ≡ None → settled_of w now t x ≡ None
      ends h = goes ∙ ap of_service (served ∙ ap (service_by x r.encoder) h)

      -- a packet is sent
      pub sends : (y : Symbol) → r.answer ≡ Some y
          → settled_of w now t x ≡ Some (settled_as (answer_of false t.file.toi 0 (OutcomeV.Sent y)) (record { priority = x.priority; busy = x.busy; slot = x.slot; pace = ticked_of x.pace; encoder = r.encoder }))
      sends y h = goes ∙ ap of_service (served ∙ ap (service_by x r.encoder) h)
