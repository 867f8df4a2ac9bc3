-- What each call of fdt.rt means for the layer above: the objects that wait, in order, and the slots in transfer.
use mathlib.Core.Path.{◌≡◌}
use mathlib.Core.Bool.{Bool, true, false, not, ◌&&◌, ◌||◌}
use Rattle.std.specs.Prelude.{Option, None, Some, Ok}
use mathlib.Core.List.{List, [], ◌∷◌, ◌++◌, map}
use Prim.Native.Nat.{ℕ, ◌<◌}
use lib.Dec.{eqb, ltb}
use lib.ListN.{length, get_or}
use Rattle.sizes.specs.declared.refusal.Refusal.{Refusal}
use Rattle.sizes.specs.Words.{when◌then◌else◌, maybe, given, collect, keep, cut, has, place, times}
use Rattle.sizes.specs.Limits.{toi_entries}
use Rattle.sizes.specs.Allocator as Alloc
use Rattle.sizes.proofs.Lists.{Hit}
use Rattle.sizes.proofs.AllocatorViews.{Freed}
use Rattle.sizes.specs.declared.partition.Sizes.{Sizes}
use Rattle.sizes.specs.declared.toiallocator.ToiAllocator.{ToiAllocator}
use Rattle.lifecycle.specs.FileDesc.{with_life, reset_life, published_life, startable_file}
use Rattle.lifecycle.specs.Slots.{no_slot, slot_at, is_free, is_listed_as}
use Rattle.lifecycle.specs.FdtCalls.{Added, Touched, Taken, waiting, file_at, files, sends, used, refuses, new_slot, unlisted_slot, started_slot, ended_file, ended_slot, goes_back}
use Rattle.lifecycle.specs.declared.filedesc.Time.{Time}
use Rattle.lifecycle.specs.declared.filedesc.FileDesc.{FileDesc}
use Rattle.lifecycle.specs.declared.slots.Slot.{Slot}
use Rattle.lifecycle.specs.declared.fdt.Fdt.{Fdt}
use Rattle.lifecycle.specs.declared.fdt.Request.{Request}

-- ---- a slot

-- is it not the object with this number
abbrev pub is_not : ℕ → FileDesc → Bool
is_not t o = not (eqb o.toi t)

-- slot k stands at place n of the queue, and nowhere else in it
pub record Waits (f : Fdt) (n k : ℕ) : Type 0 where
  pub inn : k < length f.slots
  pub is_listed : (slot_at f.slots k).listed ≡ true
  pub unsent : sends (slot_at f.slots k) ≡ false
  pub early : n < f.queued
  pub here : get_or f.queue n 0 ≡ k
  pub gone : times k (cut (waiting f) n) ≡ 0

-- nobody holds it
pub record Free (v : Slot) : Type 0 where
  pub blank : v ≡ no_slot
  pub unused : used v ≡ false

-- slot k has the listed object with the number t
pub record Listed (t : ℕ) (f : Fdt) (k : ℕ) : Type 0 where
  pub inn : k < length f.slots
  pub is_listed : (slot_at f.slots k).listed ≡ true
  pub number : (slot_at f.slots k).file.toi ≡ t

-- the listed objects in the slots of a list
abbrev pub listed_files : List Slot → List ℕ → List FileDesc
listed_files s = collect (λ k. when (slot_at s k).listed then Some (file_at s k) else None)

-- ---- a change

-- the objects that wait are l, slot k is w, and every other slot is as it was
pub record Seen (f : Fdt) (l : List FileDesc) (k : ℕ) (w : Slot) (r : Fdt) : Type 0 where
  pub queue : files r ≡ l
  pub new : slot_at r.slots k ≡ w
  pub same : (j : ℕ) → eqb k j ≡ false → slot_at r.slots j ≡ slot_at f.slots j

-- the same slots are in transfer
abbrev pub SentSame : Fdt → Fdt → Type 0
SentSame f r = (j : ℕ) → sends (slot_at r.slots j) ≡ sends (slot_at f.slots j)

-- ---- add

-- where its number is from: a reservation, loose until now; or the allocator's next
abbrev pub Numbers : Option ℕ → ℕ → ToiAllocator → ToiAllocator → Type 0
Numbers (Some u) t a b = (t ≡ u) × (has u (Alloc.loose a) ≡ true) × (b ≡ (Alloc.claimed_of u a).allocator)
Numbers None t a b = (t ≡ a.next) × (a.entered < toi_entries) × (b ≡ Alloc.moved_on (Alloc.noting false a))

-- the new object gets number t and slot k, which was free, and stands last in the queue
pub record Admits (f : Fdt) (q : Request) (z : Sizes) (named : Option ℕ) (k t : ℕ) (r : Added) : Type 0 where
  pub answer : r.answer ≡ Ok t
  pub found : place is_free f.slots ≡ Some k
  pub free : Free (slot_at f.slots k)
  pub number : Numbers named t f.tois r.fdt.tois
  pub view : Seen f (files f ++ ((new_slot q z t).file ∷ [])) k (new_slot q z t) r.fdt

-- refused, and nothing has changed; or admitted
pub data ListAdds (f : Fdt) (q : Request) (z : Sizes) (named : Option ℕ) (r : Added) : Type 0 where
  refused : (why : Refusal) → r ≡ refuses f why → ListAdds f q z named r
  admits : (k t : ℕ) → Admits f q z named k t r → ListAdds f q z named r

-- refusal 6: the reservation that is named is not loose
abbrev pub unknown : Option ℕ → Fdt → Bool
unknown (Some t) f = not (has t (Alloc.loose f.tois))
unknown None f = false

-- refusal 7: there is no slot, or no entry for a fresh number
abbrev pub full : Option ℕ → Fdt → Bool
full (Some t) f = not (given (place is_free f.slots))
full None f = not (given (place is_free f.slots)) || not (ltb f.tois.entered toi_entries)

-- ---- remove

-- nobody listed has the number, and nothing has changed
pub record FindsNobody (t : ℕ) (f : Fdt) (r : Touched) : Type 0 where
  pub unlisted : (k : ℕ) → is_listed_as t (slot_at f.slots k) ≡ false
  pub queue : files f ≡ keep (is_not t) (files f)
  pub unchanged : r ≡ record { yes = false; fdt = f }

-- it is in transfer from slot k, and only the list lets go
pub record Unlists (t : ℕ) (f : Fdt) (k : ℕ) (r : Touched) : Type 0 where
  pub found : Listed t f k
  pub is_sent : sends (slot_at f.slots k) ≡ true
  pub queue : files f ≡ keep (is_not t) (files f)
  pub answer : r.yes ≡ true
  pub tois : r.fdt.tois ≡ f.tois
  pub view : Seen f (files f) k (unlisted_slot (slot_at f.slots k)) r.fdt

-- it waits in slot k, at place n of the queue, and is free from now on
pub record Frees (t : ℕ) (f : Fdt) (k n : ℕ) (r : Touched) : Type 0 where
  pub found : Listed t f k
  pub waits : Waits f n k
  pub queue : cut (files f) n ≡ keep (is_not t) (files f)
  pub answer : r.yes ≡ true
  pub number : Freed t f.tois r.fdt.tois
  pub view : Seen f (cut (files f) n) k no_slot r.fdt

-- one of the three
pub data Removal (t : ℕ) (f : Fdt) (r : Touched) : Type 0 where
  nobody : FindsNobody t f r → Removal t f r
  sent : (k : ℕ) → Unlists t f k r → Removal t f r
  waited : (k n : ℕ) → Frees t f k n r → Removal t f r

-- is it on the list once the object with the number is off it
abbrev pub listed_but : ℕ → Slot → Bool
listed_but t y = y.listed && is_not t y.file

-- in each case: the objects without the number wait; what is in transfer stays, and is off the list if it has the number
pub record ListRemoves (t : ℕ) (f r : Fdt) : Type 0 where
  pub queue : files r ≡ keep (is_not t) (files f)
  pub sent_same : SentSame f r
  pub file_same : (j : ℕ) → sends (slot_at f.slots j) ≡ true → file_at r.slots j ≡ file_at f.slots j
  pub unlists : (j : ℕ) → sends (slot_at f.slots j) ≡ true → (slot_at r.slots j).listed ≡ listed_but t (slot_at f.slots j)

-- ---- trigger

-- the object, reset if it has the number
abbrev pub reset_file : ℕ → Time → FileDesc → FileDesc
reset_file t start o = when eqb o.toi t then with_life o (reset_life start o.life) else o

-- the object that waits with the number is reset; what is in transfer stays as it was
pub record Triggers (t : ℕ) (start : Time) (f r : Fdt) : Type 0 where
  pub queue : files r ≡ map (reset_file t start) (files f)
  pub sent_same : SentSame f r
  pub same : (j : ℕ) → sends (slot_at f.slots j) ≡ true → slot_at r.slots j ≡ slot_at f.slots j

-- ---- take

-- nothing may start; or the first of the queue that may is taken
pub data Takes (p now : ℕ) (f : Fdt) (r : Taken) : Type 0 where
  nothing : place (startable_file p now) (files f) ≡ None → r ≡ record { answer = None; fdt = f } → Takes p now f r
  takes : (n k : ℕ) → Hit (startable_file p now) (files f) n (file_at f.slots k) → Waits f n k → r.answer ≡ Some k
      → Seen f (cut (files f) n) k (started_slot now (slot_at f.slots k)) r.fdt → Takes p now f r

-- is it the slot that was taken
abbrev pub is_taken : Option ℕ → ℕ → Bool
is_taken a j = maybe false (λ k. eqb k j) a

-- ---- done

-- it was not in transfer; or it goes to the queue's end; or it is let go
pub data Ends (now k : ℕ) (f r : Fdt) : Type 0 where
  idle : sends (slot_at f.slots k) ≡ false → r ≡ f → Ends now k f r
  back : sends (slot_at f.slots k) ≡ true → goes_back now (slot_at f.slots k) ≡ true → r.tois ≡ f.tois
      → Seen f (files f ++ (ended_file now (slot_at f.slots k) ∷ [])) k (ended_slot now (slot_at f.slots k)) r → Ends now k f r
  gone : sends (slot_at f.slots k) ≡ true → goes_back now (slot_at f.slots k) ≡ false → Freed (file_at f.slots k).toi f.tois r.tois
      → Seen f (files f) k no_slot r → Ends now k f r

-- ---- publish

-- the object, published
abbrev pub published_file : FileDesc → FileDesc
published_file o = with_life o (published_life o.life)
