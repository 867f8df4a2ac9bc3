-- Add for the layer above: refused, and nothing has changed; or a new object stands last in the queue, in a slot that was free.
use mathlib.Core.Path.{◌≡◌, refl, ap}
use mathlib.Core.Bool.{Bool, true, false, not, ◌||◌}
use Rattle.std.specs.Prelude.{Option, None, Some, Ok}
use mathlib.Core.List.{[], ◌∷◌, ◌++◌}
use Prim.Native.Nat.{ℕ}
use lib.Dec.{ltb}
use borrow.Author.Tests.{ltb-true}
use Rattle.sizes.specs.Words.{when◌then◌else◌, maybe, given, has, place, first_of}
use Rattle.sizes.specs.declared.refusal.Refusal.{Refusal}
use Rattle.sizes.specs.declared.refusal.Refusal.TheVariants as Because
use Rattle.sizes.specs.Limits.{toi_entries}
use Rattle.sizes.specs.Allocator as Alloc
use Rattle.sizes.specs.declared.partition.Sizes.{Sizes}
use Rattle.sizes.specs.declared.toiallocator.ToiAllocator.{ToiAllocator}
use Rattle.sizes.proofs.AllocatorViews.{allocated_room}
use Rattle.sizes.proofs.Tests.{if_on, maybe_on}
use Rattle.lifecycle.specs.Setup.{bad_blocks}
use Rattle.lifecycle.specs.Slots.{is_free}
use Rattle.lifecycle.specs.FdtCalls.{Added, files, waits, ValidFdt, with_tois, own_of, bad_part_of, put_of, refuses, refusal, named_of, fresh_of, numbered_of, added_of}
use Rattle.lifecycle.specs.FdtCalls.{new_slot}
use Rattle.lifecycle.proofs.FdtMeans.{Seen, ListAdds, refused, admits, unknown, full}
use Rattle.lifecycle.specs.declared.fdt.Fdt.{Fdt}
use Rattle.lifecycle.specs.declared.fdt.Request.{Request}
use Rattle.lifecycle.proofs.FdtFacts.{free_at}
use Rattle.lifecycle.proofs.FdtViews.{seen_joins}

module _ (f : Fdt) (v : ValidFdt f) (q : Request) (z : Sizes) where
  pub put_view : (a : ToiAllocator) (k t : ℕ) → place is_free f.slots ≡ Some k → Seen f (files f ++ ((new_slot q z t).file ∷ [])) k (new_slot q z t) (put_of (with_tois f a) k t q z)
  unfolding put_of
  put_view a k t e = let h = free_at f v k e in seen_joins f v k h.0 (new_slot q z t) a (ap waits h.1.blank)

  named_view : (t : ℕ) → ListAdds f q z (Some t) (named_of f q z t)
  unfolding named_of put_of
  named_view t =
      if_on (ListAdds f q z (Some t)) (has t (Alloc.loose f.tois))
      (λ l. maybe_on (ListAdds f q z (Some t)) (place is_free f.slots) (λ e. no_room)
      (λ k e. admits k t (record { answer = refl; found = e; free = (free_at f v k e).1; number = (refl, l, refl); view = put_view (Alloc.claimed_of t f.tois).allocator k t e })))
      (λ l. refused Because.NotLoose refl)
    where
      no_room : ListAdds f q z (Some t) (refuses f Because.Full)
      no_room = refused Because.Full refl

  fresh_view : ListAdds f q z None (fresh_of f q z)
  unfolding fresh_of put_of
  fresh_view =
      maybe_on (ListAdds f q z None) (place is_free f.slots) (λ e. no_room)
      (λ k e. if_on (ListAdds f q z None) (ltb f.tois.entered toi_entries)
      (λ l.
      let h = ltb-true f.tois.entered toi_entries l in
      admits k f.tois.next (record {
        answer = refl;
        found = e;
        free = (free_at f v k e).1;
        number = (refl, h, allocated_room f.tois false h);
        view = put_view (Alloc.allocated_of false f.tois).allocator k f.tois.next e;
      }))
      (λ l. no_room))
    where
      no_room : ListAdds f q z None (refuses f Because.Full)
      no_room = refused Because.Full refl

  numbered_view : (named : Option ℕ) → ListAdds f q z named (numbered_of f q z named)
  unfolding numbered_of
  numbered_view (Some t) = named_view t
  numbered_view None = fresh_view

pub added_view : (f : Fdt) → ValidFdt f → (q : Request) (named : Option ℕ) → ListAdds f q (own_of q.own f.settings.sizes) named (added_of f q named)
unfolding added_of
added_view f v q named =
    let z = own_of q.own f.settings.sizes in
    if_on (ListAdds f q z named) f.complete (λ e. refused Because.Complete refl) (λ e.
    if_on (ListAdds f q z named) (bad_blocks z q.part.size) (λ e. refused Because.Sizes refl) (λ e.
    if_on (ListAdds f q z named) (bad_part_of f q.part) (λ e. refused Because.Part refl) (λ e.
    numbered_view f v q z named)))

-- ---- refusals 3 to 7, in their order

refused_first : (n : Refusal) (b : Bool) (x y : Added) {o : Option Refusal} → refusal x.answer ≡ Some n → refusal y.answer ≡ o → refusal (when b then x else y).answer ≡ (when b then Some n else o)
refused_first n true x y e h = e
refused_first n false x y e h = h

module _ (f : Fdt) (q : Request) where
  refused_numbered : (z : Sizes) (named : Option ℕ) → refusal (numbered_of f q z named).answer ≡ first_of ((Because.NotLoose, unknown named f) ∷ (Because.Full, full named f) ∷ [])
  unfolding numbered_of named_of fresh_of
  refused_numbered z (Some t) = go (has t (Alloc.loose f.tois)) (place is_free f.slots)
    where
      go : (b : Bool) (o : Option ℕ)
          → refusal (when b then maybe (refuses f Because.Full) (λ k. record { answer = Ok t; fdt = put_of (with_tois f (Alloc.claimed_of t f.tois).allocator) k t q z }) o else refuses f Because.NotLoose).answer
          ≡ first_of ((Because.NotLoose, not b) ∷ (Because.Full, not (given o)) ∷ [])
      go true None = refl
      go true (Some k) = refl
      go false o = refl
  refused_numbered z None = go (ltb f.tois.entered toi_entries) (place is_free f.slots)
    where
      go : (b : Bool) (o : Option ℕ)
          → refusal (maybe (refuses f Because.Full) (λ k. when b then record { answer = Ok f.tois.next; fdt = put_of (with_tois f (Alloc.allocated_of false f.tois).allocator) k f.tois.next q z } else refuses f Because.Full) o).answer
          ≡ first_of ((Because.NotLoose, false) ∷ (Because.Full, not (given o) || not b) ∷ [])
      go b None = refl
      go true (Some k) = refl
      go false (Some k) = refl

  pub refusal_view : (named : Option ℕ) → refusal (added_of f q named).answer
      ≡ first_of ((Because.Complete, f.complete) ∷ (Because.Sizes, bad_blocks (own_of q.own f.settings.sizes) q.part.size) ∷ (Because.Part, bad_part_of f q.part) ∷ (Because.NotLoose, unknown named f) ∷ (Because.Full, full named f) ∷ [])
  unfolding added_of
  refusal_view named =
      let z = own_of q.own f.settings.sizes in
      refused_first Because.Complete f.complete (refuses f Because.Complete) _ refl
      (refused_first Because.Sizes (bad_blocks z q.part.size) (refuses f Because.Sizes) _ refl
      (refused_first Because.Part (bad_part_of f q.part) (refuses f Because.Part) _ refl (refused_numbered z named)))
