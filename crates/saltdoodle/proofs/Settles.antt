-- Where `fast_run::settle` settles a run of a file session, the sender's run is that: nothing but the session changes.
use mathlib.Core.Path.{◌≡◌, refl, sym, ◌∙◌, ap, subst}
use mathlib.Core.Bool.{Bool, true, false, ◌||◌, true≢false}
use Rattle.std.specs.Prelude.{Option, None, Some}
use Prim.Native.Nat.{ℕ, ◌<◌, ◌≤◌}
use native.Mathlib.Omega.{arith}
use lib.Dec.{ltb}
use borrow.Author.Tests.{ltb-true, ltb-false}
use mathlib.Core.List.{List}
use lib.ListN.{get_or, set, length, length-set}
use Rattle.std.proofs.lemmas.List.{get_or_default, get_or-set_same, set-set}
use Rattle.sizes.specs.Words.{when◌then◌else◌}
use Rattle.lifecycle.specs.Lifecycle.{too_early}
use Rattle.lifecycle.specs.FileDesc.{pace_said}
use Rattle.lifecycle.specs.Slots.{slot_at, no_slot}
use Rattle.lifecycle.specs.Announce.{waits_of}
use Rattle.lifecycle.specs.declared.slots.Slot.{Slot}
use Rattle.lifecycle.specs.declared.fdt.Fdt.{Fdt}
use Rattle.sender.specs.EncoderCalls.{read_of}
use Rattle.sender.specs.SessionCalls.{Serving, Turn, idle_of, forced_slot, service_by, served_of, ran_by, attended_of, again_by, ran_of}
use Rattle.sender.specs.SenderCalls.{Running, ValidSender, with_session, answer_of, running_of}
use Rattle.sender.specs.declared.blockencoder.BlockEncoder.{BlockEncoder}
use Rattle.sender.specs.declared.blockencoder.Symbol.{Symbol}
use Rattle.sender.specs.declared.sendersession.SenderSession.{SenderSession}
use Rattle.sender.specs.declared.sendersession.Outcome.{Outcome}
use Rattle.sender.specs.declared.sendersession.Outcome.TheVariants as OutcomeV
use Rattle.sender.specs.declared.sender.Sender.{Sender}
use Rattle.sender.proofs.SenderKept.{runs, run_goes, ran_sender}
use Rattle.host_structs.specs.Answers.{run_told}
use Rattle.fast_run.specs.Settle.{ValidSession, settled_as, settled_by, settled_of}
use Rattle.fast_run.specs.declared.Settled.{Settled}
use Rattle.fast_run.specs.Quick.{Quick, stepped}
use Rattle.fast_run.specs.declared.quick.Numbers.{Numbers}
use Rattle.fast_run.proofs.Cases.{idles, goes}
use Rattle.saltdoodle.specs.Lent.{session_at, slot_of, RunsFileLent}

-- what `settle` is asked of it
abbrev pub settled_at : Sender → ℕ → ℕ → Option Settled
settled_at s i now = settled_of s.fdt.announcer.waiting now (slot_of s i) (session_at s i)

-- ---- a session that has an object in hand is in use

of_bool : (P : Type 0) (b : Bool) → (b ≡ true → P) → (b ≡ false → P) → P
of_bool P true y n = y refl
of_bool P false y n = n refl

of_order : (P : Type 0) (i n : ℕ) → (i < n → P) → (n ≤ i → P) → P
of_order P i n y m = of_bool P (ltb i n) (λ e. y (ltb-true i n e)) (λ e. m (ltb-false i n e))

module _ (s : Sender) (ok : ValidSender s) (i : ℕ) where
  used : (session_at s i).busy ≡ true → i < s.count
  used e = of_order (i < s.count) i s.count (λ h. h) (λ h. absurd (true≢false (sym e ∙ ap (λ (x : SenderSession). x.busy) (ok.spare i h))))

  pub session_valid : ValidSession (session_at s i)
  session_valid = record { busy = λ e. ((ok.sessions i (used e)).busy e).encoder }

  pub slot_below : (session_at s i).slot < 32
  slot_below = of_bool ((session_at s i).slot < 32) (session_at s i).busy (λ e. ((ok.sessions i (used e)).busy e).slot) (λ e.
      of_order ((session_at s i).slot < 32) i s.count (λ h. let z = ap (λ (x : SenderSession). x.slot) ((ok.sessions i h).idle e) in omega arith) (λ h. let z = ap (λ (x : SenderSession). x.slot) (ok.spare i h) in omega arith))

-- ---- what a service comes to

slot_by : (x : SenderSession) (y : BlockEncoder) (e : Option Symbol) → (service_by x y e).session.slot ≡ x.slot
slot_by x y None = refl
slot_by x y (Some s) = refl

slot_if : (b : Bool) (x : SenderSession) (r : Serving) → r.session.slot ≡ x.slot → (when b then record { answer = OutcomeV.Idle; session = x } else r).session.slot ≡ x.slot
slot_if true x r e = refl
slot_if false x r e = e

served_slot : (forced blocked : Bool) (now : ℕ) (x : SenderSession) → (served_of forced blocked now x).session.slot ≡ x.slot
unfolding served_of
served_slot forced blocked now x = slot_if (blocked || too_early now (pace_said x.pace)) x (service_by x (read_of forced x.encoder).encoder (read_of forced x.encoder).answer) (slot_by x (read_of forced x.encoder).encoder (read_of forced x.encoder).answer)

-- a run that goes no second round
abbrev again : ℕ → ℕ → Fdt → SenderSession → SenderSession → Outcome → Turn
again w now f x y a = again_by w now (ran_by now f x y a) (ran_by now f x y a).answer

once : (w now : ℕ) (f : Fdt) (x : SenderSession) (toi : ℕ) (y : SenderSession) (a : Outcome) (r : Settled) → settled_by toi y a ≡ Some r → again w now f x y a ≡ record { answer = a; fdt = f; session = y }
once w now f x toi y OutcomeV.Over r e = cc
once w now f x toi y OutcomeV.Idle r e = refl
once w now f x toi y (OutcomeV.Sent s) r e = refl

told : (toi : ℕ) (y : SenderSession) (a : Outcome) (r : Settled) → settled_by toi y a ≡ Some r → r ≡ settled_as (answer_of false toi 0 a) y
told toi y OutcomeV.Over r e = cc
told toi y OutcomeV.Idle r e = cc
told toi y (OutcomeV.Sent s) r e = cc

module _ (s : Sender) (ok : ValidSender s) (i now : ℕ) where
  abbrev x : SenderSession
  x = session_at s i

  abbrev t : Slot
  t = slot_at s.fdt.slots x.slot

  abbrev v : Serving
  v = served_of (forced_slot t) (waits_of s.fdt.announcer) now x

  rounds : x.busy ≡ true → ran_of s.window now s.fdt x ≡ again s.window now s.fdt x v.session v.answer
  unfolding ran_of attended_of
  rounds e = rw e

  module _ (busy : x.busy ≡ true) (r : Settled) (e : settled_by t.file.toi v.session v.answer ≡ Some r) where
    abbrev after : Running
    after = record { taken = false; answer = answer_of false t.file.toi 0 v.answer; sender = with_session i v.session s }

    run_is : running_of i now s ≡ after
    run_is = run_goes i now s (used s ok i busy) ∙ ap (ran_sender i s) (rounds busy ∙ once s.window now s.fdt x t.file.toi v.session v.answer r e)
        ∙ ap (λ (k : ℕ). record { taken = false; answer = answer_of false (slot_at s.fdt.slots k).file.toi 0 v.answer; sender = with_session i v.session s }) (served_slot (forced_slot t) (waits_of s.fdt.announcer) now x)

    lent_by : RunsFileLent i now s (with_session i r.session s) r.answer
    lent_by =
        let z = told t.file.toi v.session v.answer r e in
        record {
          result = running_of i now s;
          promised = runs s ok i now;
          stored = ap (λ (q : Settled). with_session i q.session s) z ∙ sym (ap (λ (q : Running). q.sender) run_is);
          said = ap (λ (q : Settled). q.answer) z ∙ sym (ap (λ (q : Running). run_told q.taken q.answer) run_is);
        }

  -- a settled run
  pub settles : (r : Settled) → settled_at s i now ≡ Some r → RunsFileLent i now s (with_session i r.session s) r.answer
  settles r e = of_bool (RunsFileLent i now s (with_session i r.session s) r.answer) x.busy
      (λ busy. lent_by busy r (sym (goes s.fdt.announcer.waiting now t x busy) ∙ e))
      (λ idle. let z : None ≡ Some r = sym (idles s.fdt.announcer.waiting now t x idle) ∙ e in cc)

-- three numbers say how a run is settled
pub glances : (s : Sender) → ValidSender s → (i now : ℕ) (r : Numbers) → Quick s.fdt.announcer.waiting now (slot_of s i) (session_at s i) r
    → RunsFileLent i now s (with_session i (stepped (session_at s i) r.place r.esi r.next r.due) s) r.answer
glances s ok i now r q = settles s ok i now (record { answer = r.answer; session = stepped (session_at s i) r.place r.esi r.next r.due }) q.exact

-- ---- as a run reads it: at any value for what lies past the end

module _ (s : Sender) (ok : ValidSender s) (i : ℕ) (within : i < 4) (d : SenderSession) where
  abbrev read : SenderSession
  read = get_or s.sessions i d

  pub session_read : read ≡ session_at s i
  session_read = get_or_default s.sessions i d (idle_of 0) (omega (arith, ok.long))

  pub read_valid : ValidSession read
  read_valid = subst ValidSession (sym session_read) (session_valid s ok i)

  -- the numbers are those of the session by name, and are stored in the one that is read
  pub glances_stored : (now : ℕ) (r : Numbers) → Quick s.fdt.announcer.waiting now (slot_of s i) (session_at s i) r
      → RunsFileLent i now s (with_session i (stepped read r.place r.esi r.next r.due) s) r.answer
  glances_stored now r q = subst (λ (x : SenderSession). RunsFileLent i now s (with_session i (stepped x r.place r.esi r.next r.due) s) r.answer) (sym session_read) (glances s ok i now r q)

  module _ (e : Slot) where
    slot_read : get_or s.fdt.slots (session_at s i).slot e ≡ slot_of s i
    slot_read = get_or_default s.fdt.slots (session_at s i).slot e no_slot (omega (arith, slot_below s ok i, ok.holds.valid.slots_long))

    pub settles_read : (now : ℕ) (r : Settled) → settled_of s.fdt.announcer.waiting now (get_or s.fdt.slots read.slot e) read ≡ Some r → RunsFileLent i now s (with_session i r.session s) r.answer
    settles_read now r z = settles s ok i now r (sym (ap (λ (t : Slot). settled_of s.fdt.announcer.waiting now t (session_at s i)) slot_read)
        ∙ sym (ap (λ (x : SenderSession). settled_of s.fdt.announcer.waiting now (get_or s.fdt.slots x.slot e) x) session_read) ∙ z)

    pub glances_read : (now : ℕ) (r : Numbers) → Quick s.fdt.announcer.waiting now (get_or s.fdt.slots read.slot e) read r → RunsFileLent i now s (with_session i (stepped read r.place r.esi r.next r.due) s) r.answer
    glances_read now r q = settles_read now (record { answer = r.answer; session = stepped read r.place r.esi r.next r.due }) q.exact

-- an element that is changed three times
pub changed_thrice : {X : Type 0} (l : List X) (i : ℕ) (d : X) (f g h : X → X) → i < length l
    → set (set (set l i (f (get_or l i d))) i (g (get_or (set l i (f (get_or l i d))) i d))) i (h (get_or (set (set l i (f (get_or l i d))) i (g (get_or (set l i (f (get_or l i d))) i d))) i d)) ≡ set l i (h (g (f (get_or l i d))))
changed_thrice l i d f g h lt =
    let a = get_or-set_same l i (f (get_or l i d)) d lt in
    let b = get_or-set_same (set l i (f (get_or l i d))) i (g (get_or (set l i (f (get_or l i d))) i d)) d (omega (arith, length-set l i (f (get_or l i d)))) in
    rw (b, a) (simp set-set)
