-- A packet in the middle of a transfer.
use mathlib.Core.Path.{◌≡◌, refl, sym, ◌∙◌, ap, subst}
use mathlib.Core.Bool.{Bool, true, false, not, ◌&&◌, and-false}
use Rattle.std.specs.Prelude.{Option, None, Some}
use Prim.Native.Nat.{ℕ, ◌+◌, ◌<◌}
use native.Mathlib.Omega.{arith}
use lib.Dec.{eqb, ltb}
use borrow.Author.Tests.{eqb-true, not-true}
use Rattle.sizes.specs.Words.{when◌then◌else◌}
use Rattle.sizes.specs.Limits.{wide}
use Rattle.sizes.specs.Partition.{esi}
use Rattle.sizes.proofs.Tests.{and_left, and_right}
use Rattle.lifecycle.specs.Lifecycle.{too_early}
use Rattle.lifecycle.specs.FileDesc.{pace_said, ticked_of}
use Rattle.lifecycle.specs.declared.filedesc.Pace.{Pace}
use Rattle.lifecycle.specs.declared.slots.Slot.{Slot}
use Rattle.sender.specs.EncoderCalls.{ValidEncoder}
use Rattle.sender.specs.EncoderCalls.{moved_of, glance_of, Steps}
use Rattle.sender.specs.SessionCalls.{forced_slot}
use Rattle.sender.specs.SenderCalls.{answer_of}
use Rattle.sender.specs.declared.blockencoder.BlockEncoder.{BlockEncoder}
use Rattle.sender.specs.declared.blockencoder.Visit.{Visit}
use Rattle.sender.specs.declared.sendersession.SenderSession.{SenderSession}
use Rattle.sender.specs.declared.sendersession.Outcome.TheVariants as OutcomeV
use Rattle.sender.proofs.EncoderReads.{glance_steps}
use Rattle.host_structs.specs.Answers.{run_told}
use Rattle.host_structs.specs.declared.answers.Sent.{Sent}
use Rattle.fast_run.specs.Settle.{ValidSession, settled_as}
use Rattle.fast_run.specs.Quick.{is_due, numbers_by, numbers_of, with_esi, with_index, Quick, Glances}
use Rattle.fast_run.specs.declared.quick.Numbers.{Numbers}
use Rattle.fast_run.specs.declared.Settled.{Settled}
use Rattle.fast_run.proofs.Cases.{sends}

-- what the test for a packet tells
record Due (w now : ℕ) (t : Slot) (x : SenderSession) : Type 0 where
  none : w ≡ 0
  busy : x.busy ≡ true
  listed : t.listed ≡ true
  due : too_early now (pace_said x.pace) ≡ false

due_told : (w now : ℕ) (t : Slot) (x : SenderSession) → is_due w now t x ≡ true → Due w now t x
unfolding is_due
due_told w now t x e =
    let a = eqb w 0 in
    let b = a && x.busy in
    let c = b && t.listed in
    let d = not (too_early now (pace_said x.pace)) in
    let ec = and_left c d e in
    let eb = and_left b t.listed ec in
    record {
      none = eqb-true w 0 (and_left a x.busy eb);
      busy = and_right a x.busy eb;
      listed = and_right b t.listed ec;
      due = not-true (too_early now (pace_said x.pace)) (and_right c d e);
    }

-- a tick changes only the due time
due_if : (p : Pace) (d : ℕ) (b : Bool) → p.paced ≡ b → (when b then record { paced = true; due = d; tick = p.tick } else p) ≡ record { paced = p.paced; due = (when b then record { paced = true; due = d; tick = p.tick } else p).due; tick = p.tick }
due_if p d true e = ap (λ (b : Bool). record { paced = b; due = d; tick = p.tick }) (sym e)
due_if p d false e = refl

due_only : (p : Pace) → ticked_of p ≡ record { paced = p.paced; due = (ticked_of p).due; tick = p.tick }
unfolding ticked_of
due_only p = due_if p (when ltb (p.due + p.tick) wide then p.due + p.tick else p.due) p.paced refl

-- a read in the middle of a transfer changes only two numbers
moved_only : (e : BlockEncoder) (v : Visit) → Steps e v → moved_of e v ≡ with_index (with_esi e v.place (esi (v.symbol.esi.0 + 1))) (v.place + 1)
unfolding moved_of
moved_only e v s = rw (s.begun, s.block)

unforced : (t : Slot) → t.listed ≡ true → false ≡ forced_slot t
unfolding forced_slot
unforced t h = rw (h, and-false)

module _ (w now : ℕ) (t : Slot) (x : SenderSession) (ok : ValidSession x) (b : Bool) (asked : b ≡ is_due w now t x) where
  -- no numbers settle nothing
  unsettled : (r : Option Numbers) → r ≡ None → (n : Numbers) → r ≡ Some n → Quick w now t x n
  unsettled r q n d = let z : None ≡ Some n = sym q ∙ d in cc

  -- no packet is due
  pub passes : b ≡ false → Glances w now t x None
  unfolding numbers_of
  passes e = record { exact = rw (sym asked ∙ e); settles = unsettled None refl }

  module _ (yes : b ≡ true) where
    due : Due w now t x
    due = due_told w now t x (sym asked ∙ yes)

    pub valid : ValidEncoder x.encoder
    valid = ok.busy due.busy

    module _ (y : Option Visit) (seen : y ≡ glance_of x.encoder) where
      -- another packet is
      pub declines : y ≡ None → Glances w now t x None
      unfolding numbers_of
      declines h = record { exact = rw (sym asked ∙ yes, sym seen ∙ h); settles = unsettled None refl }

      -- one in the middle of a transfer is
      module _ (v : Visit) (h : y ≡ Some v) where
        pub steps : Steps x.encoder v
        steps = glance_steps x.encoder valid v (sym seen ∙ h)

        pub within : v.place < 16
        within = let a = steps.place in let b = valid.filled in let c = valid.narrow in omega arith

        -- what the host is told, and the session, by its pace and encoder
        abbrev after : Pace → BlockEncoder → Settled
        after p z = settled_as (answer_of false t.file.toi 0 (OutcomeV.Sent v.symbol)) (record { priority = x.priority; busy = x.busy; slot = x.slot; pace = p; encoder = z })

        quick : Quick w now t x (numbers_by t.file.toi x v)
        quick = record {
          exact = sends w now t x due.busy due.none due.due false (unforced t due.listed) _ (sym steps.read) v.symbol refl
              ∙ ap (λ (z : BlockEncoder). Some (after (ticked_of x.pace) z)) (moved_only x.encoder v steps) ∙ ap (λ (p : Pace). Some (after p (with_index (with_esi x.encoder v.place (esi (v.symbol.esi.0 + 1))) (v.place + 1)))) (due_only x.pace);
          place = within;
        }

        pub glances : (n : Pace) → n ≡ ticked_of x.pace → (a : Sent) → a ≡ run_told false (answer_of false t.file.toi 0 (OutcomeV.Sent v.symbol))
            → Glances w now t x (Some (record { place = v.place; esi = esi (v.symbol.esi.0 + 1); next = v.place + 1; due = n.due; answer = a }))
        unfolding numbers_of
        glances n en a ea =
            let q : record { place = v.place; esi = esi (v.symbol.esi.0 + 1); next = v.place + 1; due = n.due; answer = a } ≡ numbers_by t.file.toi x v
            = λ i. record { place = v.place; esi = esi (v.symbol.esi.0 + 1); next = v.place + 1; due = (en i).due; answer = ea i } in
            record {
              exact = rw (sym asked ∙ yes, sym seen ∙ h) (ap Some q);
              settles = λ m d. let z : record { place = v.place; esi = esi (v.symbol.esi.0 + 1); next = v.place + 1; due = n.due; answer = a } ≡ m = cc in subst (Quick w now t x) (sym q ∙ z) quick;
            }
