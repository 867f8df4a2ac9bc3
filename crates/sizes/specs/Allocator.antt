-- The allocator of object numbers: 64 entries, each a number that is held by a loose reservation or by an object.
use Rattle.std.specs.Prelude.{◌≡◌, ℕ, ◌+◌, ◌-◌, ◌≤◌, Bool, true, false, not, ◌&&◌, eqb, List, [], ◌∷◌, ◌++◌, map, length, take, replicate, ◌==◌, nat_lt, slice_index_or, slice_set}
use Rattle.std.specs.Prelude.{Option, None, Some, Result, Ok, Err, ok_or}
use Rattle.sizes.specs.Words.{when◌then◌else◌, maybe, has, place, shut, collect, times, Each}
use Rattle.sizes.specs.Limits.{toi_entries}
use Rattle.sizes.specs.declared.refusal.Refusal.{Refusal}
use Rattle.sizes.specs.declared.refusal.Refusal.TheVariants as Because
use Rattle.sizes.specs.Toi.{Toi, first_toi, next_toi, FirstFree}
use Rattle.sizes.specs.declared.toiallocator.ToiMaxLength.{ToiMaxLength}
use Rattle.sizes.specs.declared.toiallocator.ToiMaxLength.TheVariants.{ToiMax16, ToiMax32, ToiMax48, ToiMax64}
use Rattle.sizes.specs.declared.toiallocator.Entry.{Entry}
use Rattle.sizes.specs.declared.toiallocator.ToiAllocator.{ToiAllocator}

-- how many bits a number has
abbrev pub bits : ToiMaxLength → ℕ
bits ToiMax16 = 16
bits ToiMax32 = 32
bits ToiMax48 = 48
bits ToiMax64 = 64

-- a width that numbers may have
abbrev pub Width : ℕ → Type 0
Width n = (w : ToiMaxLength) × (n ≡ bits w)

-- a width by its number
unfoldable pub width_said : ℕ → Option ToiMaxLength
width_said n =
    when eqb n 16 then Some ToiMax16
    else when eqb n 32 then Some ToiMax32
    else when eqb n 48 then Some ToiMax48
    else when eqb n 64 then Some ToiMax64
    else None

-- what a number that is named as a width becomes: the width with so many bits; refusal 1 where there is none
abbrev pub width_told : ℕ → Result ToiMaxLength Refusal
width_told n = ok_or (width_said n) Because.SetUp

-- what a call says: a number, that it was done, or why it is refused
pub data Said : Type 0 where
  toi : ℕ → Said
  done : Said
  refused : Refusal → Said

abbrev pub given_said : Result ℕ Refusal → Said
given_said (Ok n) = Said.toi n
given_said (Err why) = Said.refused why

abbrev pub known_said : Result (Unit {0}) Refusal → Said
known_said (Ok u) = Said.done
known_said (Err why) = Said.refused why

-- a number, or why none is given; and the allocator after the call
pub record Allocated : Type 0 where
  pub answer : Result ℕ Refusal
  pub allocator : ToiAllocator

-- done, or why not; and the allocator after the call
pub record Changed : Type 0 where
  pub answer : Result (Unit {0}) Refusal
  pub allocator : ToiAllocator

-- an entry that is not in use
abbrev pub no_entry : Entry
no_entry = record { toi = 0; loose = false }

-- the entries in use, oldest first
abbrev pub noted : ToiAllocator → List Entry
noted a = take a.entered a.entries

-- the numbers that are held
abbrev pub held : ToiAllocator → List ℕ
held a = map (λ (e : Entry). e.toi) (noted a)

abbrev pub loose_in : Entry → Option ℕ
loose_in e = when e.loose then Some e.toi else None

abbrev pub bound_in : Entry → Option ℕ
bound_in e = when e.loose then None else Some e.toi

-- the numbers of loose reservations, and those of objects
abbrev pub loose : ToiAllocator → List ℕ
loose a = collect loose_in (noted a)

abbrev pub bound : ToiAllocator → List ℕ
bound a = collect bound_in (noted a)

-- is it the entry of a loose reservation (or of an object) with this number
unfoldable pub entry_is : ℕ → Bool → Entry → Bool
entry_is t flag e = e.toi == t && (when flag then e.loose else not e.loose)

-- before the first call
unfoldable pub new_allocator : ℕ → ℕ → ToiAllocator
new_allocator w n = record { entries = replicate toi_entries no_entry; entered = 0; next = first_toi w n; width = w }

-- the stored next number as one entry more
unfoldable pub noting : Bool → ToiAllocator → ToiAllocator
noting flag a = record {
  entries = slice_set a.entries a.entered (record { toi = a.next; loose = flag });
  entered = a.entered + 1;
  next = a.next;
  width = a.width;
}

unfoldable pub moved_on : ToiAllocator → ToiAllocator
moved_on a = record { entries = a.entries; entered = a.entered; next = next_toi a.width (held a) a.next; width = a.width }

-- the answer is the stored next number, and the next is the first after it that is not held; refused where all entries are in use
unfoldable pub allocated_of : Bool → ToiAllocator → Allocated
allocated_of flag a =
    when nat_lt a.entered toi_entries then record { answer = Ok a.next; allocator = moved_on (noting flag a) }
    else record { answer = Err Because.Full; allocator = a }

-- the entry at place i is an object's from now on
unfoldable pub bound_at : ToiAllocator → ℕ → ℕ → ToiAllocator
bound_at a t i = record { entries = slice_set a.entries i (record { toi = t; loose = false }); entered = a.entered; next = a.next; width = a.width }

-- the entry at place i is gone, the others keep their order, and next stays
unfoldable pub entry_gone : ToiAllocator → ℕ → ToiAllocator
entry_gone a i = record { entries = shut no_entry a.entries i; entered = a.entered - 1; next = a.next; width = a.width }

abbrev pub unchanged : ToiAllocator → Changed
unchanged a = record { answer = Err Because.NotLoose; allocator = a }

abbrev pub changed : ToiAllocator → Changed
changed a = record { answer = Ok tt; allocator = a }

-- a loose reservation becomes an object's number
unfoldable pub claimed_of : ℕ → ToiAllocator → Changed
claimed_of t a = maybe (unchanged a) (λ i. changed (bound_at a t i)) (place (entry_is t true) (noted a))

-- a loose reservation (true), or an object's number (false), is let go
unfoldable pub dropped_of : Bool → ℕ → ToiAllocator → Changed
dropped_of flag t a = maybe (unchanged a) (λ i. changed (entry_gone a i)) (place (entry_is t flag) (noted a))

-- what an accepted call of allocate promises: the number is one that an object may have, and nobody held it;
-- it is held from now on, and the next is the first number after it that is not
pub record Fresh (flag : Bool) (a : ToiAllocator) (r : Allocated) : Type 0 where
  pub given : r.answer ≡ Ok a.next
  pub ranged : Toi a.width a.next
  pub unheld : has a.next (held a) ≡ false
  pub noted_last : noted r.allocator ≡ noted a ++ (record { toi = a.next; loose = flag } ∷ [])
  pub next : FirstFree a.width (held r.allocator) a.next r.allocator.next

-- what new and every call give back, and the only premise of a call
pub record ValidAllocator (a : ToiAllocator) : Type 0 where
  pub wide : Width a.width
  pub sized : length a.entries ≡ toi_entries
  pub room : a.entered ≤ toi_entries
  -- zeros past the entries in use
  pub clear : (i : ℕ) → a.entered ≤ i → slice_index_or a.entries i no_entry ≡ no_entry
  -- no number is held twice, and each is one that an object may have
  pub once : (n : ℕ) → times n (held a) ≤ 1
  pub ranged : Each (Toi a.width) (held a)
  -- the next number is such a number too, and is not held
  pub next_ranged : Toi a.width a.next
  pub next_free : has a.next (held a) ≡ false

-- what a search of the entries needs
pub record Searchable (a : ToiAllocator) : Type 0 where
  pub wide : Width a.width
  pub sized : length a.entries ≡ toi_entries
  pub room : a.entered ≤ toi_entries

pub record Opened (w : ToiMaxLength) (n : ℕ) (r : ToiAllocator) : Type 0 where
  pub exact : r ≡ new_allocator (bits w) n
  pub valid : ValidAllocator r

pub record Gives (flag : Bool) (a : ToiAllocator) (r : Allocated) : Type 0 where
  pub exact : r ≡ allocated_of flag a
  pub valid : ValidAllocator r.allocator

pub record Becomes (s r : Changed) : Type 0 where
  pub exact : r ≡ s
  pub valid : ValidAllocator r.allocator
