-- The calls that only look: listed and transfers.
use mathlib.Core.Path.{◌≡◌, refl, sym, ◌∙◌, ap}
use Rattle.std.specs.Prelude.{Option, None, Some}
use mathlib.Core.List.{◌++◌}
use Prim.Native.Nat.{ℕ}
use lib.Dec.{eqb}
use Rattle.sizes.specs.Words.{maybe, over, collect, find}
use Rattle.lifecycle.specs.FileDesc.{life_of}
use Rattle.lifecycle.specs.FdtCalls.{files, is_added_of, transfers_of}
use Rattle.lifecycle.proofs.FdtMeans.{listed_files}
use Rattle.lifecycle.specs.declared.filedesc.FileDesc.{FileDesc}
use Rattle.lifecycle.proofs.FdtKeeps.{is_added_as}
use Rattle.lifecycle.proofs.FdtByNumber.{transfers_listed}
use Rattle.definition.specs.Session.{Object}
use Rattle.definition.specs.Desk.{Question, Call, Answer, listed_as, step}
use Rattle.sender.specs.SessionCalls.{object_of}
use Rattle.sender.specs.SenderCalls.{working, desk_of, slot_in, ValidSender, Kept}
use Rattle.sender.specs.declared.sender.Sender.{Sender}
use Rattle.sender.proofs.DeskChanges.{listed_desk, listed_answer}

module _ (s : Sender) (v : ValidSender s) (t : ℕ) where
  pub listed_kept : Kept s (Call.ask (Question.listed t)) (Answer.truth (is_added_of t s.fdt)) s
  unfolding step
  listed_kept = record { means = λ u w. ap (λ b. (Answer.truth b, desk_of s)) (listed_answer s v t ∙ sym (is_added_as t s.fdt)); agrees = λ u w. w; valid = v }

  -- its total
  transfers_answer : maybe None (λ (o : Object). Some o.life.total) (listed_as (desk_of s) t) ≡ transfers_of t s.fdt
  transfers_answer =
      ap (maybe None (λ (o : Object). Some o.life.total)) (listed_desk s t)
      ∙ go (find (λ (o : FileDesc). eqb o.toi t) (files s.fdt ++ listed_files s.fdt.slots (collect slot_in (working s))))
      ∙ sym (transfers_listed t s.fdt v.holds.valid (collect slot_in (working s)) v.in_hand)
    where
      go : (o : Option FileDesc) → maybe None (λ (o : Object). Some o.life.total) (over object_of o) ≡ maybe None (λ (o : FileDesc). Some (life_of o.life).total) o
      go None = refl
      go (Some o) = refl

  pub transfers_kept : Kept s (Call.ask (Question.transfers t)) (Answer.transferred (transfers_of t s.fdt)) s
  unfolding step
  transfers_kept = record { means = λ u w. ap (λ n. (Answer.transferred n, desk_of s)) transfers_answer; agrees = λ u w. w; valid = v }
