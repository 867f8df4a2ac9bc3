-- What holds of every desk that a run from an accepted set-up comes to. Read Total last: it collects the rest.
use Rattle.std.specs.Prelude.{◌≡◌, true, false, List, [], ◌∷◌, map, ℕ, ◌≤◌, length}
use Rattle.std.specs.Prelude.{Option, None, Some}
use Rattle.sizes.specs.Words.{when◌then◌else◌, maybe, has, times, Each}
use Rattle.sizes.specs.Limits.{toi_entries, object_slots, waiting_fdts, longest_store}
use Rattle.sizes.specs.Toi.{Toi}
use Rattle.lifecycle.specs.Parts.{part_end, shares}
use Rattle.lifecycle.specs.declared.parts.Part.{Part}
use Rattle.lifecycle.specs.Lifecycle.{unborn}
use Rattle.lifecycle.specs.Setup.{Setup, bad_blocks, sound}
use Rattle.lifecycle.specs.Fdt.{Instance, fdt_parts}
use Rattle.definition.specs.FdtSession.{Fdt, FdtHand}
use Rattle.definition.specs.Session.{Object, Hand, Session, living}
use Rattle.definition.specs.Desk.{Desk, Request, Call, Answer, opening, objects, numbers, toi_for, made, step, run}
use Rattle.definition.specs.Apart.{adding, accepted}

-- ---- words

-- what is there, if anything, has the property
abbrev pub IfGiven : {A : Type 0} → (A → Type 0) → Option A → Type 0
IfGiven P None = Unit {0}
IfGiven P (Some a) = P a

-- no two parts share a byte: the first shares none with any of the rest, and so on
abbrev pub ApartAll : List Part → Type 0
ApartAll [] = Unit {0}
ApartAll (c ∷ l) = Each (λ b. shares c b ≡ false) l × ApartAll l

-- ---- numbers

-- no number is held twice
pub record Unique (s : Setup) (d : Desk) : Type 0 where
  pub once : (n : ℕ) → times n (numbers d) ≤ 1  -- reservations and objects have different numbers
  pub free : times d.next (numbers d) ≡ 0  -- the next number is not held
  pub range : Toi s.width d.next  -- and is in 1 .. 2^width - 1

-- a number that a call gives is not held, but by the reservation that the add names
pub data Given (d : Desk) (c : Call) (t : ℕ) : Type 0 where
  anew : has t (numbers d) ≡ false → Given d c t
  by_name : (q : Request) → c ≡ Call.add (Some t) q → has t d.loose ≡ true → Given d c t

-- where a number that is held after a call comes from: it was held before, or the call answers it
pub data HeldFrom (s : Setup) (d : Desk) (c : Call) (n : ℕ) : Type 0 where
  before : has n (numbers d) ≡ true → HeldFrom s d c n
  answered : (step s d c).0 ≡ Answer.number n → HeldFrom s d c n

-- ---- where objects come from

-- an object but for what has happened to it: number, priority, part, sizes and plan
abbrev pub newborn : Object → Object
newborn o = living (unborn false None) o

-- it is one of these, but for what has happened to it
pub data Among : List Object → Object → Type 0 where
  this : {a : Object} {j : List Object} {o : Object} → newborn o ≡ newborn a → Among (a ∷ j) o
  later : {a : Object} {j : List Object} {o : Object} → Among j o → Among (a ∷ j) o

-- the objects that adds admitted, latest first, after one more call
abbrev pub grown : Setup → Desk → Call → List Object → List Object
grown s d c j = maybe j (λ x. when accepted (step s d c).0 then made s (toi_for d x.0) x.1 ∷ j else j) (adding c)

-- the same, after a run
unfoldable pub came : Setup → Desk → List Call → List Object → List Object
came s d [] j = j
came s d (c ∷ l) j = came s (step s d c).1 l (grown s d c j)

-- ---- sizes and parts

-- an object is as refusals 4 and 5 let it in
pub record Admitted (s : Setup) (o : Object) : Type 0 where
  pub blocks : bad_blocks o.sizes o.part.size ≡ false  -- so E, B and the block count are in their ranges
  pub inside : part_end o.part ≤ s.object_store
  pub short : o.part.size ≤ longest_store

-- what a session of this priority has in hand
pub record InHands (s : Setup) (p : ℕ) (h : Hand) : Type 0 where
  pub priority : h.object.priority ≡ p
  pub window : length h.encoder.window ≤ s.window

-- an FDT's part is as refusals 4 and 5 let it in
pub record FdtPart (s : Setup) (c : Part) : Type 0 where
  pub blocks : bad_blocks s.sizes c.size ≡ false
  pub inside : part_end c ≤ s.fdt_store
  pub nonempty : 1 ≤ c.size

-- what the FDT session has in hand is the current FDT, and that is transferring; with nothing in hand it is not
pub data Matched : Option Instance → Option FdtHand → Type 0 where
  nothing : Matched None None
  resting : {i : Instance} → i.transferring ≡ false → Matched (Some i) None
  sending : {i : Instance} {h : FdtHand} → i.transferring ≡ true → h.id ≡ i.id → h.part ≡ i.part → Matched (Some i) (Some h)

-- the FDT side
pub record FdtReachable (s : Setup) (f : Fdt) : Type 0 where
  pub few : length f.state.waiting ≤ waiting_fdts
  pub apart : ApartAll (fdt_parts f.state)
  pub admitted : Each (FdtPart s) (fdt_parts f.state)
  pub idle : Each (λ (i : Instance). i.transferring ≡ false) f.state.waiting
  pub matched : Matched f.state.current f.hand
  pub window : IfGiven (λ (h : FdtHand). length h.encoder.window ≤ s.window) f.hand

-- ---- together

-- what every call keeps
pub record Reachable (s : Setup) (d : Desk) : Type 0 where
  pub unique : Unique s d
  pub ranged : (n : ℕ) → has n (numbers d) ≡ true → Toi s.width n  -- every held number is in 1 .. 2^width - 1
  pub few_numbers : length (numbers d) ≤ toi_entries
  pub few_objects : length (objects d) ≤ object_slots
  pub priorities : map (λ (x : Session). x.priority) d.sessions ≡ s.priorities  -- session i has priority i of the set-up
  pub hands : Each (λ (x : Session). IfGiven (InHands s x.priority) x.hand) d.sessions
  pub admitted : Each (Admitted s) (objects d)
  pub apart : ApartAll (map (λ (o : Object). o.part) (objects d))
  pub fdts : FdtReachable s d.fdt

-- the promises, over all runs
pub record Total (s : Setup) : Type 0 where
  pub reachable : (l : List Call) → Reachable s (run s (opening s) l).1
  pub given_once : (l : List Call) (c : Call) (t : ℕ) → (step s (run s (opening s) l).1 c).0 ≡ Answer.number t → Given (run s (opening s) l).1 c t
  pub held_from : (d : Desk) (c : Call) (n : ℕ) → has n (numbers (step s d c).1) ≡ true → HeldFrom s d c n
  pub all_came : (l : List Call) → Each (Among (came s (opening s) l [])) (objects (run s (opening s) l).1)

-- for every set-up that is accepted
abbrev pub Totals : Type 0
Totals = (s : Setup) → sound s ≡ true → Total s
