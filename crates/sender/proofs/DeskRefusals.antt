-- Why an add is refused: the desk's table is the list's, read off the records.
use Rattle.sizes.specs.declared.refusal.Refusal.TheVariants as Because
use mathlib.Core.Path.{◌≡◌, refl, sym, ◌∙◌, ap}
use mathlib.Core.Bool.{Bool, true, false, not, ◌&&◌, ◌||◌}
use Rattle.std.specs.Prelude.{Option, None, Some}
use mathlib.Core.List.{[], ◌∷◌}
use Prim.Native.Nat.{ℕ}
use lib.Dec.{eqb, leb}
use lib.ListN.{length}
use Rattle.sizes.specs.Words.{when◌then◌else◌, maybe, any, first_of}
use Rattle.sizes.specs.Limits.{object_slots}
use Rattle.sizes.specs.declared.partition.Sizes.{Sizes}
use Rattle.sizes.proofs.Lists.{any_map}
use Rattle.sizes.proofs.Tables.{any_counts}
use Rattle.lifecycle.specs.Setup.{Setup, bad_blocks}
use Rattle.lifecycle.specs.Parts.{shares, past_store}
use Rattle.lifecycle.specs.Slots.{no_slot}
use Rattle.lifecycle.specs.FdtCalls.{used, own_of, bad_part_of, refusal, added_of}
use Rattle.lifecycle.proofs.FdtMeans.{unknown, full}
use Rattle.lifecycle.specs.declared.parts.Part.{Part}
use Rattle.lifecycle.specs.declared.slots.Slot.{Slot}
use Rattle.lifecycle.proofs.FdtSearches.{bad_part_used}
use Rattle.lifecycle.proofs.FdtKeeps.{own_given, own_set_up}
use Rattle.lifecycle.proofs.FdtAdds.{refusal_view}
use Rattle.definition.specs.Session as DefS
use Rattle.definition.specs.Desk as Def
use Rattle.sender.specs.SessionCalls.{object_of, session_of}
use Rattle.sender.specs.SenderCalls.{working, desk_of, Agrees, ValidSender, object_said, has_priority, request_of}
use Rattle.sender.specs.declared.sender.Sender.{Sender}
use Rattle.sender.specs.declared.sender.Object.{Object}
use Rattle.sender.proofs.DeskCounts.{owners, objects_view, owners_used, full_slots, full_view}

-- refusal 2
pub no_session_view : (s : Sender) (p : ℕ) → Def.no_session (desk_of s) p ≡ not (any (has_priority p) (working s))
unfolding Def.no_session desk_of
no_session_view s p = ap not (any_map (λ (x : DefS.Session). eqb x.priority p) (session_of s.fdt.slots) (working s))

-- refusal 4 asks of the same E and B
pub own_view : (u : Setup) (z : Sizes) → u.sizes ≡ z → (o : Object) → Def.own_sizes u (object_said o) ≡ own_of o.own z
unfolding Def.own_sizes
own_view u z e o = go o.own
  where
    go : (w : Option Sizes) → maybe u.sizes (λ z. z) w ≡ own_of w z
    go (Some y) = sym (own_given y z)
    go None = e ∙ sym (own_set_up z)

-- refusal 5
pub part_view : (u : Setup) (s : Sender) → Agrees u s → ValidSender s → (c : Part) → Def.bad_object_part u (desk_of s) c ≡ bad_part_of s.fdt c
unfolding Def.bad_object_part
part_view u s a v c =
    let ok : DefS.Object → Bool = λ o. shares c o.part in
    let held : any ok (Def.objects (desk_of s)) ≡ any (λ (y : Slot). used y && shares c y.file.part) s.fdt.slots
    = ap (any ok) (objects_view s) ∙ any_counts no_slot used s.fdt.slots (owners s) refl (owners_used s v) ok (λ (y : Slot). object_of y.file) in
    (λ i. past_store (a.object_store i) c || held i) ∙ sym (bad_part_used s.fdt v.holds.valid c)

-- refusal 6
pub not_loose_view : (s : Sender) (named : Option ℕ) → Def.not_loose (desk_of s) named ≡ unknown named s.fdt
unfolding Def.not_loose desk_of
not_loose_view s (Some t) = refl
not_loose_view s None = refl

-- refusal 7
pub no_room_view : (s : Sender) → ValidSender s → (named : Option ℕ) → Def.no_room (desk_of s) named ≡ full named s.fdt
unfolding Def.no_room
no_room_view s v (Some t) = or_nothing (leb object_slots (length (Def.objects (desk_of s)))) ∙ full_slots s v
  where
    or_nothing : (b : Bool) → (b || false) ≡ b
    or_nothing true = refl
    or_nothing false = refl
no_room_view s v None = λ i. full_slots s v i || full_view s v i

-- the table: 2, and then the list's own
pub add_refusal_view : (u : Setup) (s : Sender) → Agrees u s → ValidSender s → (o : Object) (named : Option ℕ)
    → Def.add_refusal u (desk_of s) named (object_said o)
    ≡ (when not (any (has_priority o.priority) (working s)) then Some Because.NoPriority else refusal (added_of s.fdt (request_of o) named).answer)
unfolding Def.add_refusal desk_of request_of
add_refusal_view u s a v o named =
    (λ i. first_of
    ((Because.NoPriority, no_session_view s o.priority i)
    ∷ (Because.Complete, s.fdt.complete)
    ∷ (Because.Sizes, bad_blocks (own_view u s.fdt.settings.sizes a.sizes o i) o.part.size)
    ∷ (Because.Part, part_view u s a v o.part i)
    ∷ (Because.NotLoose, not_loose_view s named i)
    ∷ (Because.Full, no_room_view s v named i)
    ∷ []))
    ∙ ap (λ r. when not (any (has_priority o.priority) (working s)) then Some Because.NoPriority else r) (sym (refusal_view s.fdt (request_of o) named))
