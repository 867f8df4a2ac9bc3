-- The calls that change only numbers, or that the list is complete: reserve, release, complete.
use Rattle.sizes.specs.declared.refusal.Refusal.TheVariants as Because
use mathlib.Core.Path.{◌≡◌, refl, sym, ◌∙◌, ap, subst}
use mathlib.Core.Bool.{Bool, true, false, not}
use mathlib.Core.List.{[], ◌∷◌}
use Prim.Native.Nat.{ℕ, ◌≤◌, ◌<◌}
use lib.Dec.{ltb}
use borrow.Author.Tests.{ltb-true, ltb-false}
use Rattle.sizes.specs.Words.{when◌then◌else◌, has, first_of}
use Rattle.sizes.specs.Limits.{toi_entries}
use Rattle.sizes.specs.Allocator as Alloc
use Rattle.sizes.specs.declared.toiallocator.ToiAllocator.{ToiAllocator}
use Rattle.sizes.specs.Allocator.{Allocated}
use Rattle.sizes.specs.Allocator.{Changed}
use Rattle.sizes.proofs.Tests.{Tested, pass, fail, tested}
use Rattle.sizes.proofs.AllocatorLaws.{given_fresh, full_by}
use Rattle.sizes.proofs.AllocatorViews.{allocated_room, loose_reserved, released_view, released_none, allocated_width, dropped_width, released_some}
use Rattle.lifecycle.specs.Setup.{Setup}
use Rattle.lifecycle.specs.FdtCalls.{with_tois}
use Rattle.lifecycle.specs.declared.fdt.Fdt.{Fdt}
use Rattle.lifecycle.specs.FdtCalls.{Reserved}
use Rattle.lifecycle.specs.FdtCalls.{Released}
use Rattle.lifecycle.proofs.FdtKeeps.{reserved_as, released_as}
use Rattle.definition.specs.Desk.{reserve_refusal, release_refusal, Call, Answer, Result, unless, step, not_loose, numbered, reserved, unloosed}
use Rattle.sender.specs.SessionCalls.{Holds}
use Rattle.sender.specs.FdtSessionCalls.{FdtHolds}
use Rattle.sender.specs.SenderCalls.{desk_of, Agrees, ValidSender, Kept, alloc_answer, with_list, reserving_of, releasing_of, completing_of}
use Rattle.sender.specs.declared.sender.Sender.{Sender}
use Rattle.sender.proofs.DeskChanges.{valid_list, agrees_list}
use Rattle.sender.proofs.DeskCounts.{full_view, next_view}

-- ---- the numbers are changed, or that the list is complete, and nothing else is

-- the list with other numbers, complete or not
abbrev pub numbered_list : Fdt → Bool → ToiAllocator → Fdt
numbered_list f c a = record { settings = f.settings; complete = c; tois = a; slots = f.slots; queue = f.queue; queued = f.queued; announcer = f.announcer }

module _ (s : Sender) (c : Bool) (a : ToiAllocator) where
  -- the sender with such a list
  abbrev pub numbered_sender : Sender
  numbered_sender = with_list s (numbered_list s.fdt c a)

  pub kept_numbered : (x : Call) (r : Answer) → ValidSender s → Holds numbered_sender.fdt → FdtHolds numbered_sender.fdt → a.width ≡ s.fdt.tois.width
      → ((u : Setup) → Agrees u s → step u (desk_of s) x ≡ (r, desk_of numbered_sender)) → Kept s x r numbered_sender
  kept_numbered x r v h g e m = record {
    means = m;
    agrees = λ u w. agrees_list u s (numbered_list s.fdt c a) refl e w;
    valid = valid_list s (numbered_list s.fdt c a) v (record { settings = refl; sent_same = λ j. refl; part = λ j k. refl; sizes = λ j k. refl; current = refl }) h g;
  }

-- ---- reserve

-- what a call of allocate makes of the answer and the desk
abbrev after_reserve : Sender → Allocated → Result
after_reserve s x = (alloc_answer (Alloc.given_said x.answer), desk_of (with_list s (with_tois s.fdt x.allocator)))

module _ (s : Sender) (v : ValidSender s) (u : Setup) (w : Agrees u s) where
  -- refused or not, by the test that the allocator makes
  reserve_tested : (b : Bool) → ltb s.fdt.tois.entered toi_entries ≡ b → step u (desk_of s) Call.reserve ≡ (when b then (Answer.number s.fdt.tois.next, reserved u (desk_of s)) else (Answer.refused Because.Full, desk_of s))
  unfolding step reserve_refusal desk_of
  reserve_tested b e =
      ap (λ x. unless (first_of ((Because.Full, x) ∷ [])) (desk_of s) (Answer.number s.fdt.tois.next, reserved u (desk_of s))) (full_view s v ∙ ap not e)
      ∙ elim b as (λ x. unless (first_of ((Because.Full, not x) ∷ [])) (desk_of s) (Answer.number s.fdt.tois.next, reserved u (desk_of s)) ≡ (when x then (Answer.number s.fdt.tois.next, reserved u (desk_of s)) else (Answer.refused Because.Full, desk_of s)))
      [ true ↦ refl | false ↦ refl ]

  reserve_room : s.fdt.tois.entered < toi_entries → (Answer.number s.fdt.tois.next, reserved u (desk_of s)) ≡ after_reserve s (Alloc.allocated_of true s.fdt.tois)
  unfolding reserved numbered desk_of
  reserve_room h =
      let a = s.fdt.tois in
      let va = v.holds.valid.tois in
      let q = (given_fresh a va true h).given in
      let r = allocated_room a true h in
      let d : reserved u (desk_of s) ≡ desk_of (with_list s (with_tois s.fdt (Alloc.moved_on (Alloc.noting true a)))) = (λ i. record {
        complete = s.fdt.complete;
        next = next_view s v u w true h i;
        loose = sym (loose_reserved a va h) i;
        queue = (desk_of s).queue;
        sessions = (desk_of s).sessions;
        fdt = (desk_of s).fdt;
      }) in
      (λ i. (Answer.number a.next, d i)) ∙ sym (λ i. (alloc_answer (Alloc.given_said (q i)), desk_of (with_list s (with_tois s.fdt (r i)))))

  reserve_full : toi_entries ≤ s.fdt.tois.entered → (Answer.refused Because.Full, desk_of s) ≡ after_reserve s (Alloc.allocated_of true s.fdt.tois)
  reserve_full h = ap (after_reserve s) (full_by s.fdt.tois true h)

  reserve_means : step u (desk_of s) Call.reserve ≡ after_reserve s (Alloc.allocated_of true s.fdt.tois)
  reserve_means = go (tested (ltb s.fdt.tois.entered toi_entries))
    where
      go : Tested (ltb s.fdt.tois.entered toi_entries) → step u (desk_of s) Call.reserve ≡ after_reserve s (Alloc.allocated_of true s.fdt.tois)
      go (pass e) = reserve_tested true e ∙ reserve_room (ltb-true s.fdt.tois.entered toi_entries e)
      go (fail e) = reserve_tested false e ∙ reserve_full (ltb-false s.fdt.tois.entered toi_entries e)

pub reserve_kept : (s : Sender) → ValidSender s → Holds (reserving_of s).sender.fdt → FdtHolds (reserving_of s).sender.fdt
    → Kept s Call.reserve (alloc_answer (Alloc.given_said (reserving_of s).answer)) (reserving_of s).sender
unfolding reserving_of
reserve_kept s v =
    let x = Alloc.allocated_of true s.fdt.tois in
    subst (λ (r : Reserved). Holds r.fdt → FdtHolds r.fdt → Kept s Call.reserve (alloc_answer (Alloc.given_said r.answer)) (with_list s r.fdt)) (sym (reserved_as s.fdt))
    (λ h g. kept_numbered s s.fdt.complete x.allocator Call.reserve (alloc_answer (Alloc.given_said x.answer)) v h g (allocated_width s.fdt.tois true) (λ u w. reserve_means s v u w))

-- ---- release

-- what a call of release makes of the answer and the desk
abbrev after_release : Sender → Changed → Result
after_release s x = (alloc_answer (Alloc.known_said x.answer), desk_of (with_list s (with_tois s.fdt x.allocator)))

module _ (s : Sender) (v : ValidSender s) (u : Setup) (t : ℕ) where
  release_some : has t (Alloc.loose s.fdt.tois) ≡ true → step u (desk_of s) (Call.release t) ≡ after_release s (Alloc.dropped_of true t s.fdt.tois)
  unfolding step release_refusal not_loose numbered unloosed desk_of
  release_some h =
      let a = s.fdt.tois in
      let r = released_view a v.holds.valid.tois t in
      let d : numbered (desk_of s) a.next (unloosed t (Alloc.loose a)) ≡ desk_of (with_list s (with_tois s.fdt (Alloc.dropped_of true t a).allocator)) = (λ i. record {
        complete = s.fdt.complete;
        next = sym r.next_same i;
        loose = sym r.loose_left i;
        queue = (desk_of s).queue;
        sessions = (desk_of s).sessions;
        fdt = (desk_of s).fdt;
      }) in
      ap (λ b. unless (first_of ((Because.NotLoose, not b) ∷ [])) (desk_of s) (Answer.done, numbered (desk_of s) a.next (unloosed t (Alloc.loose a)))) h
      ∙ (λ i. (alloc_answer (Alloc.known_said (sym (released_some a t h) i)), d i))

  release_none : has t (Alloc.loose s.fdt.tois) ≡ false → step u (desk_of s) (Call.release t) ≡ after_release s (Alloc.dropped_of true t s.fdt.tois)
  unfolding step release_refusal not_loose desk_of
  release_none h =
      let a = s.fdt.tois in
      ap (λ b. unless (first_of ((Because.NotLoose, not b) ∷ [])) (desk_of s) (Answer.done, numbered (desk_of s) a.next (unloosed t (Alloc.loose a)))) h
      ∙ ap (after_release s) (sym (released_none a t h))

  release_means : step u (desk_of s) (Call.release t) ≡ after_release s (Alloc.dropped_of true t s.fdt.tois)
  release_means = go (tested (has t (Alloc.loose s.fdt.tois)))
    where
      go : Tested (has t (Alloc.loose s.fdt.tois)) → step u (desk_of s) (Call.release t) ≡ after_release s (Alloc.dropped_of true t s.fdt.tois)
      go (pass e) = release_some e
      go (fail e) = release_none e

pub release_kept : (t : ℕ) (s : Sender) → ValidSender s → Holds (releasing_of t s).sender.fdt → FdtHolds (releasing_of t s).sender.fdt
    → Kept s (Call.release t) (alloc_answer (Alloc.known_said (releasing_of t s).answer)) (releasing_of t s).sender
unfolding releasing_of
release_kept t s v =
    let x = Alloc.dropped_of true t s.fdt.tois in
    subst (λ (r : Released). Holds r.fdt → FdtHolds r.fdt → Kept s (Call.release t) (alloc_answer (Alloc.known_said r.answer)) (with_list s r.fdt)) (sym (released_as s.fdt t))
    (λ h g. kept_numbered s s.fdt.complete x.allocator (Call.release t) (alloc_answer (Alloc.known_said x.answer)) v h g (dropped_width s.fdt.tois true t) (λ u w. release_means s v u t))

-- ---- complete

pub complete_kept : (s : Sender) → ValidSender s → Holds (completing_of s).fdt → FdtHolds (completing_of s).fdt → Kept s Call.complete Answer.done (completing_of s)
unfolding step desk_of
complete_kept s v h g = kept_numbered s true s.fdt.tois Call.complete Answer.done v h g refl (λ u w. refl)
