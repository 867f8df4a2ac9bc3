-- FDT: publishing, and which FDT is sent next (src/sender/fdt.rs). Objects and encoders have no part in it.
use Rattle.std.specs.Prelude.{Bool, true, false, not, ◌&&◌, ◌||◌, List, [], ◌∷◌, ◌++◌, ℕ, ◌+◌, ◌-◌, ◌*◌, ◌%◌, eqb, ltb, leb, length}
use Rattle.std.specs.Prelude.{Option, None, Some}
use Rattle.sizes.specs.Words.{when◌then◌else◌, maybe, given, collect, any}
use Rattle.sizes.specs.Limits.{largest_fdt_id}
use Rattle.lifecycle.specs.Parts.{shares, past_store}
use Rattle.lifecycle.specs.declared.parts.Part.{Part}
use Rattle.lifecycle.specs.Lifecycle.{Plan, Life, Target, unborn, started, finished, may_start}
use Rattle.lifecycle.specs.Setup.{Setup}

-- one FDT
pub record Instance : Type 0 where
  pub id : ℕ
  pub part : Part
  pub life : Life
  pub transferring : Bool

pub record FdtState : Type 0 where
  pub next_id : ℕ
  pub last : Option ℕ  -- the time of the last publish
  pub waiting : List Instance
  pub current : Option Instance

-- every FDT's plan: maximum 1, the set-up's carousel, no target
abbrev pub fdt_plan : Setup → Plan
fdt_plan s = record { most = 1; carousel = Some s.carousel; target = Target.at_once; stop_at_once = false }

-- the parts that are held: those that wait, and the current one's
unfoldable pub fdt_parts : FdtState → List Part
fdt_parts f = collect (λ (i : Instance). Some i.part) f.waiting ++ maybe [] (λ (i : Instance). i.part ∷ []) f.current

-- refusal 5 of an FDT's part: it ends past the store, or shares a byte with a held one
unfoldable pub bad_fdt_part : Setup → FdtState → Part → Bool
bad_fdt_part s f c = past_store s.fdt_store c || any (shares c) (fdt_parts f)

-- the FDT id after this one
abbrev pub id_after : ℕ → ℕ
id_after n = (n + 1) % (largest_fdt_id + 1)

-- publish: the part waits under the current id, which moves on
unfoldable pub queued : ℕ → Part → FdtState → FdtState
queued now c f = record {
  next_id = id_after f.next_id;
  last = Some now;
  current = f.current;
  waiting = f.waiting ++ (record { id = f.next_id; part = c; life = unborn true None; transferring = false } ∷ []);
}

-- so many seconds, in nanoseconds
abbrev pub seconds : ℕ → ℕ
seconds n = n * 1_000_000_000

-- has the validity d run out, or nearly, once this much has elapsed
unfoldable pub runs_out : ℕ → ℕ → Bool
runs_out d elapsed =
    when ltb (seconds 30) d then ltb (d - seconds 5) elapsed
    else when ltb (seconds 10) d then ltb (d - seconds 1) elapsed
    else leb d elapsed

-- is a new FDT needed: none waits, and there is no current one, or none was ever published, or the validity runs out
unfoldable pub needs_new : Setup → ℕ → FdtState → Bool
needs_new s now f =
    eqb (length f.waiting) 0
    && (not (given f.current) || maybe true (λ t. runs_out s.validity (now - t)) f.last)

-- is the draft taken: a new FDT is needed, and there is a draft
unfoldable pub takes_draft : Setup → ℕ → Option Part → FdtState → Bool
takes_draft s now draft f = needs_new s now f && given draft

-- republish: without a draft it fails, and nothing is queued
unfoldable pub republished : Setup → ℕ → Option Part → FdtState → FdtState
republished s now draft f = when needs_new s now f then maybe f (λ c. queued now c f) draft else f

-- the front of the queue, if any, becomes current
unfoldable pub front_taken : FdtState → FdtState
front_taken f = let w = f.waiting in elim w [ [] ↦ f | i ∷ rest ↦ record { next_id = f.next_id; last = f.last; waiting = rest; current = Some i } ]

-- the same, with another current
unfoldable pub with_current : FdtState → Instance → FdtState
with_current f i = record { next_id = f.next_id; last = f.last; waiting = f.waiting; current = Some i }

-- what asking for the next FDT comes to
pub record Next : Type 0 where
  pub taken : Bool  -- was the draft taken
  pub state : FdtState
  pub starts : Option Instance  -- the FDT that starts now

-- start the current one if it may
unfoldable pub start_current : Setup → ℕ → Bool → FdtState → Next
start_current s now taken f =
    let stays : Next = record { taken = taken; state = f; starts = None } in
    maybe stays (λ (i : Instance). when may_start (fdt_plan s) now i.life
    then (let i' : Instance = record { id = i.id; part = i.part; life = started (fdt_plan s) now i.life; transferring = true } in record { taken = taken; state = with_current f i'; starts = Some i' })
    else stays) f.current

-- nothing new while the current one is transferring; else republish if needed, take the front, start it if it may
unfoldable pub next_fdt : Setup → ℕ → Option Part → FdtState → Next
next_fdt s now draft f =
    when maybe false (λ (i : Instance). i.transferring) f.current then record { taken = false; state = f; starts = None }
    else start_current s now (takes_draft s now draft f) (front_taken (republished s now draft f))

-- the current one is done; it has a carousel, so it stays current
unfoldable pub fdt_done : ℕ → FdtState → FdtState
fdt_done now f = maybe f (λ (i : Instance). with_current f (record { id = i.id; part = i.part; life = finished now i.life; transferring = false })) f.current
