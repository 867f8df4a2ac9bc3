-- The arrays of a sender in memory: how each is cut out, to be read, and to be put back with one element changed.
-- Assumes `Logic`.
use mathlib.Core.Path.{refl, sym, subst}
use Prim.Native.Nat.{ℕ, ◌+◌}
use mathlib.Core.List.{List, [], ◌∷◌}
use lib.ListN.{set}
use lib.Seq.{set-get_or}
use seplogic.Ra.Ura.{Ura}
use base.Fraction.{full_share}
use mir.Syntax.{ty_int, w64}
use mir.Val.{vint}
use base.Logic.{ent, sep, wand, guard, apply∗}
use base.Fml.{Fml, fat}
use types.Logic.{Logic, sem}
use types.Kit.{‵, raw, given, ◌⊛◌, ◌$◌, !, qed, use1, use2, split, learn, check, frame, assume, done}
use denote.Array.{Array}
use denote.Builtin.{usize}
use denote.Laws.{Is}
use denote.Plain.{UInt}
use denote.Memory.{part_at}
use borrow.Struct.Way.{Cut}
use borrow.Struct.Behind.{look_at, put_at_lem}
use denote.Struct.Loose.{loosens}
use Rattle.lifecycle.specs.Slots.{no_slot, slot_at}
use Rattle.lifecycle.specs.declared.slots.Slot.{Slot}
use Rattle.lifecycle.specs.declared.fdt.Fdt.{Fdt}
use Rattle.sender.specs.SessionCalls.{idle_of}
use Rattle.sender.specs.SenderCalls.{with_session}
use Rattle.sender.specs.declared.sender.Sender.{Sender}
use Rattle.sender.specs.declared.sendersession.SenderSession.{SenderSession}
use Rattle.lending.proofs.Whole.{uint_data, cell_of, of_cell}
use Rattle.lending.proofs.Items.{cut_then, cut_record}
use Rattle.saltdoodle.specs.Lent.{session_at}
use Rattle.sender.specs.contracts.sender.Sender as T
use Rattle.sender.proofs.sender.Sender.TheLaws as T'
use Rattle.sender.specs.contracts.sendersession.SenderSession as X
use Rattle.sender.proofs.sendersession.SenderSession.TheLaws as X'
use Rattle.sender.specs.contracts.blockencoder.BlockEncoder as B
use Rattle.sender.proofs.blockencoder.BlockEncoder.TheLaws as B'
use Rattle.sender.specs.contracts.block.Open as O
use Rattle.lifecycle.specs.contracts.filedesc.Pace as C
use Rattle.lifecycle.proofs.filedesc.Pace.TheLaws as C'
use Rattle.sizes.specs.declared.numbers.Esi.{Esi}
use Rattle.sender.specs.EncoderCalls.{open_at}
use Rattle.sender.specs.declared.blockencoder.BlockEncoder.{BlockEncoder}
use Rattle.fast_run.specs.Quick.{with_esi, with_index, with_encoder, with_due}
use Rattle.lifecycle.specs.contracts.fdt.Fdt as D
use Rattle.lifecycle.proofs.fdt.Fdt.TheLaws as D'
use Rattle.lifecycle.specs.contracts.slots.Slot as Y
use Rattle.lifecycle.specs.contracts.announce.Announcer as N
use Rattle.lifecycle.proofs.announce.Announcer.TheLaws as N'

module _ {M : Type 1} {𝓤 : Ura M} (𝓛 : Logic 𝓤) (b o : ℕ) (g : Sender) where
  pub look_session : (i : ℕ) → Cut 𝓛 full_share T.the_row (Array X.the_row 4) 6992 g g g.sessions (set g.sessions i (session_at g i)) (b, o)
  look_session i = subst (λ (l : List SenderSession). Cut 𝓛 full_share T.the_row (Array X.the_row 4) 6992 g g g.sessions l (b, o)) (sym (set-get_or g.sessions i (idle_of 0)))
      (look_at 𝓛 full_share T.the_type (loosens (T.the_type).parts T'.the_laws) 3 6992 refl refl (b, o) g ((T.struct).as_values g) refl)

  pub put_session : (i : ℕ) (y : SenderSession) → Cut 𝓛 full_share T.the_row (Array X.the_row 4) 6992 g (with_session i y g) g.sessions (set g.sessions i y) (b, o)
  put_session i y = put_at_lem 𝓛 full_share T.the_type (loosens (T.the_type).parts T'.the_laws) 3 6992 refl refl (b, o) g (with_session i y g) ((T.struct).as_values g) (set g.sessions i y) refl refl

  look_list : Cut 𝓛 full_share T.the_row D.the_row 0 g g g.fdt g.fdt (b, o)
  look_list = cut_record 𝓛 T.the_row D.the_type 0 g g g.fdt g.fdt (b, o) (look_at 𝓛 full_share T.the_type (loosens (T.the_type).parts T'.the_laws) 0 0 refl refl (b, o) g ((T.struct).as_values g) refl)

  slots_in : (f : Fdt) (k p : ℕ) → Cut 𝓛 full_share D.the_row (Array Y.the_row 32) 1112 f f f.slots (set f.slots k (slot_at f.slots k)) (b, p)
  slots_in f k p = subst (λ (l : List Slot). Cut 𝓛 full_share D.the_row (Array Y.the_row 32) 1112 f f f.slots l (b, p)) (sym (set-get_or f.slots k no_slot))
      (look_at 𝓛 full_share D.the_type (loosens (D.the_type).parts D'.the_laws) 3 1112 refl refl (b, p) f ((D.struct).as_values f) refl)

  pub look_slot : (k : ℕ) → Cut 𝓛 full_share T.the_row (Array Y.the_row 32) (0 + 1112) g g g.fdt.slots (set g.fdt.slots k (slot_at g.fdt.slots k)) (b, o)
  look_slot k = cut_then 𝓛 T.the_row D.the_row (Array Y.the_row 32) 0 1112 g g g.fdt g.fdt g.fdt.slots (set g.fdt.slots k (slot_at g.fdt.slots k)) b o look_list (slots_in g.fdt k (o + 0))

  -- how many FDTs wait: the number's cell, and the way back
  abbrev waiting_cell : Fml
  waiting_cell = fat full_share (ty_int w64) b (o + 0 + 6496 + 376) (vint w64 g.fdt.announcer.waiting)

  abbrev list_part : Fml
  list_part = part_at D.the_row full_share g.fdt b (o + 0)

  abbrev announcer_part : Fml
  announcer_part = part_at N.the_row full_share g.fdt.announcer b (o + 0 + 6496)

  abbrev waiting_part : Fml
  waiting_part = part_at usize full_share g.fdt.announcer.waiting b (o + 0 + 6496 + 376)

  announcer_in : Cut 𝓛 full_share D.the_row N.the_row 6496 g.fdt g.fdt g.fdt.announcer g.fdt.announcer (b, o + 0)
  announcer_in = cut_record 𝓛 D.the_row N.the_type 6496 g.fdt g.fdt g.fdt.announcer g.fdt.announcer (b, o + 0) (look_at 𝓛 full_share D.the_type (loosens (D.the_type).parts D'.the_laws) 6 6496 refl refl (b, o + 0) g.fdt ((D.struct).as_values g.fdt) refl)

  waiting_in : Cut 𝓛 full_share N.the_row usize 376 g.fdt.announcer g.fdt.announcer g.fdt.announcer.waiting g.fdt.announcer.waiting (b, o + 0 + 6496)
  waiting_in = look_at 𝓛 full_share N.the_type (loosens (N.the_type).parts N'.the_laws) 3 376 refl refl (b, o + 0 + 6496) g.fdt.announcer ((N.struct).as_values g.fdt.announcer) refl

  pub look_waiting : ent 𝓤 (sem 𝓛 (part_at T.the_row full_share g b o)) (guard 𝓤 (Is usize g.fdt.announcer.waiting (vint w64 g.fdt.announcer.waiting ∷ [])) (sep 𝓤 (sem 𝓛 waiting_cell) (wand 𝓤 (sem 𝓛 waiting_cell) (sem 𝓛 (part_at T.the_row full_share g b o)))))
  look_waiting = qed 𝓛 (‵ (part_at T.the_row full_share g b o) ∷ []) {P = guard 𝓤 (Is usize g.fdt.announcer.waiting (vint w64 g.fdt.announcer.waiting ∷ [])) (sep 𝓤 (sem 𝓛 waiting_cell) (wand 𝓤 (sem 𝓛 waiting_cell) (sem 𝓛 (part_at T.the_row full_share g b o))))} (
      use1 𝓛 (‵ list_part ⊛ raw (wand 𝓤 (sem 𝓛 list_part) (sem 𝓛 (part_at T.the_row full_share g b o)))) look_list $ split ! $
      use1 𝓛 (‵ announcer_part ⊛ raw (wand 𝓤 (sem 𝓛 announcer_part) (sem 𝓛 list_part))) announcer_in $ split ! $
      use1 𝓛 (‵ waiting_part ⊛ raw (wand 𝓤 (sem 𝓛 waiting_part) (sem 𝓛 announcer_part))) waiting_in $ split ! $
      use1 𝓛 (given (Is usize g.fdt.announcer.waiting (vint w64 g.fdt.announcer.waiting ∷ [])) (‵ waiting_cell)) (cell_of 𝓛 usize (uint_data 𝓛 w64) full_share g.fdt.announcer.waiting b (o + 0 + 6496 + 376)) $ learn ! (λ is.
      check ! is $ frame ! $ assume ! (‵ waiting_cell) $
      use1 𝓛 (‵ waiting_part) (of_cell 𝓛 usize (uint_data 𝓛 w64) full_share g.fdt.announcer.waiting b (o + 0 + 6496 + 376) is) $
      use2 𝓛 (‵ announcer_part) (apply∗ 𝓤 (sem 𝓛 waiting_part) (sem 𝓛 announcer_part)) $
      use2 𝓛 (‵ list_part) (apply∗ 𝓤 (sem 𝓛 announcer_part) (sem 𝓛 list_part)) $
      use2 𝓛 (‵ (part_at T.the_row full_share g b o)) (apply∗ 𝓤 (sem 𝓛 list_part) (sem 𝓛 (part_at T.the_row full_share g b o))) $ done !))

-- the encoder and the pace of a session, and the next symbol of a block, the index and the due time in them, to be put back changed
module _ {M : Type 1} {𝓤 : Ura M} (𝓛 : Logic 𝓤) (b o : ℕ) where
  pub put_encoder : (x : SenderSession) (e : BlockEncoder) → Cut 𝓛 full_share X.the_row B.the_row 40 x (with_encoder x e) x.encoder e (b, o)
  put_encoder x e = cut_record 𝓛 X.the_row B.the_type 40 x (with_encoder x e) x.encoder e (b, o) (put_at_lem 𝓛 full_share X.the_type (loosens (X.the_type).parts X'.the_laws) 4 40 refl refl (b, o) x (with_encoder x e) ((X.struct).as_values x) e refl refl)

  pub put_open : (e : BlockEncoder) (p : ℕ) (y : Esi) → Cut 𝓛 full_share B.the_row (Array O.the_row 16) 96 e (with_esi e p y) e.window (set e.window p (record { sbn = (open_at e p).sbn; esi = y })) (b, o)
  put_open e p y = put_at_lem 𝓛 full_share B.the_type (loosens (B.the_type).parts B'.the_laws) 8 96 refl refl (b, o) e (with_esi e p y) ((B.struct).as_values e) (set e.window p (record { sbn = (open_at e p).sbn; esi = y })) refl refl

  pub put_index : (e : BlockEncoder) (n : ℕ) → Cut 𝓛 full_share B.the_row (UInt w64) 88 e (with_index e n) e.index n (b, o)
  put_index e n = put_at_lem 𝓛 full_share B.the_type (loosens (B.the_type).parts B'.the_laws) 7 88 refl refl (b, o) e (with_index e n) ((B.struct).as_values e) n refl refl

  pub put_pace : (x : SenderSession) (d : ℕ) → Cut 𝓛 full_share X.the_row C.the_row 16 x (with_due x d) x.pace (with_due x d).pace (b, o)
  put_pace x d = cut_record 𝓛 X.the_row C.the_type 16 x (with_due x d) x.pace (with_due x d).pace (b, o) (put_at_lem 𝓛 full_share X.the_type (loosens (X.the_type).parts X'.the_laws) 3 16 refl refl (b, o) x (with_due x d) ((X.struct).as_values x) (with_due x d).pace refl refl)

  pub put_due : (x : SenderSession) (d : ℕ) → Cut 𝓛 full_share C.the_row (UInt w64) 8 x.pace (with_due x d).pace x.pace.due d (b, o)
  put_due x d = put_at_lem 𝓛 full_share C.the_type (loosens (C.the_type).parts C'.the_laws) 1 8 refl refl (b, o) x.pace (with_due x d).pace ((C.struct).as_values x.pace) d refl refl
