-- The FDT side as the code has it: what its records mean, and what each function makes of them.
use Rattle.std.specs.Prelude.{◌≡◌, Bool, true, false, not, ◌&&◌, ◌||◌, List, map, ℕ, ◌+◌, ◌-◌, ◌≤◌, ◌<◌, eqb, ltb, length, get_or, take, set, replicate}
use Rattle.std.specs.Prelude.{Option, None, Some}
use Rattle.sizes.specs.Words.{when◌then◌else◌, maybe, given, any, shut}
use Rattle.sizes.specs.Limits.{waiting_fdts, largest_fdt_id}
use Rattle.lifecycle.specs.Parts.{shares, past_store}
use Rattle.lifecycle.specs.Lifecycle.{may_start}
use Rattle.lifecycle.specs.FileDesc.{time_of, plan_of, life_of, no_time, time_at, unborn_of, published_life, started_life, done_life}
use Rattle.lifecycle.specs.Fdt as Def
use Rattle.lifecycle.specs.Fdt.{FdtState, id_after, runs_out}
use Rattle.lifecycle.specs.declared.parts.Part.{Part}
use Rattle.lifecycle.specs.declared.filedesc.Plan.{Plan}
use Rattle.lifecycle.specs.declared.announce.Instance.{Instance}
use Rattle.lifecycle.specs.declared.announce.Announcer.{Announcer}

-- ---- what the records mean

-- one FDT
abbrev pub instance_of : Instance → Def.Instance
instance_of i = record { id = i.id; part = i.part; life = life_of i.life; transferring = i.life.transferring }

-- those that wait, oldest first
abbrev pub waiting_of : Announcer → List Instance
waiting_of a = take a.waiting a.queue

unfoldable pub state_of : Announcer → FdtState
state_of a = record {
  next_id = a.fdtid;
  last = time_of a.last_publish;
  waiting = map instance_of (waiting_of a);
  current = when a.has_current then Some (instance_of a.current) else None;
}

-- what asking for the next FDT comes to: was the draft taken, does the current one start now, and what is left behind
pub record NextInstance : Type 0 where
  pub taken : Bool
  pub starts : Bool
  pub announcer : Announcer

-- what an answer says; the FDT that starts is the new current one
unfoldable pub next_told : NextInstance → Def.Next
next_told r = record { taken = r.taken; state = state_of r.announcer; starts = when r.starts then Some (instance_of r.announcer.current) else None }

-- ---- what holds of it at any time

-- what stands where there is no FDT
abbrev pub no_instance : Instance
no_instance = record { id = 0; part = record { start = 0; size = 0 }; life = unborn_of no_time }

pub record ValidAnnouncer (a : Announcer) : Type 0 where
  pub sized : length a.queue ≡ waiting_fdts
  pub room : a.waiting ≤ waiting_fdts
  -- zeros past those that wait, and where there is no current one
  pub clear : (i : ℕ) → a.waiting ≤ i → get_or a.queue i no_instance ≡ no_instance
  pub blank : a.has_current ≡ false → a.current ≡ no_instance
  pub ranged : a.fdtid ≤ largest_fdt_id
  -- none that waits is transferring
  pub idle : (i : ℕ) → i < a.waiting → (get_or a.queue i no_instance).life.transferring ≡ false

-- ---- what the functions make of them

-- what is asked of every FDT
abbrev pub fdt_plan_of : Bool → ℕ → Plan
fdt_plan_of start d = record { most = 1; repeats = true; from_start = start; interval = d; paced = false; by_time = false; target = 0; stop_at_once = false }

-- is a new FDT needed
unfoldable pub needs_new_of : ℕ → ℕ → Announcer → Bool
needs_new_of validity now a =
    eqb a.waiting 0
    && (not a.has_current || maybe true (λ t. runs_out validity (now - t)) (time_of a.last_publish))

-- an FDT that was just published
abbrev pub first_instance : ℕ → Part → Instance
first_instance id c = record { id = id; part = c; life = published_life (unborn_of no_time) }

-- publish: the part waits under the current id, which moves on
unfoldable pub queued_of : ℕ → Part → Announcer → Announcer
queued_of now c a = record {
  fdtid = id_after a.fdtid;
  last_publish = time_at now;
  queue = set a.queue a.waiting (first_instance a.fdtid c);
  waiting = a.waiting + 1;
  has_current = a.has_current;
  current = a.current;
}

-- the same; where the queue is full, nothing changes
unfoldable pub published_of : ℕ → Part → Announcer → Announcer
published_of now c a = when ltb a.waiting waiting_fdts then queued_of now c a else a

-- the front of the queue, if any, becomes current
unfoldable pub front_of : Announcer → Announcer
front_of a = when eqb a.waiting 0 then a else record {
  fdtid = a.fdtid;
  last_publish = a.last_publish;
  queue = shut no_instance a.queue 0;
  waiting = a.waiting - 1;
  has_current = true;
  current = get_or a.queue 0 no_instance;
}

-- start and end of one FDT
abbrev pub started_instance : Plan → ℕ → Instance → Instance
started_instance r now i = record { id = i.id; part = i.part; life = started_life r now i.life }

abbrev pub done_instance : ℕ → Instance → Instance
done_instance now i = record { id = i.id; part = i.part; life = done_life now i.life }

-- the same, with another current
abbrev pub holding : Announcer → Instance → Announcer
holding a i = record { fdtid = a.fdtid; last_publish = a.last_publish; queue = a.queue; waiting = a.waiting; has_current = a.has_current; current = i }

-- start the current one if it may
unfoldable pub start_of : Plan → ℕ → Bool → Announcer → NextInstance
start_of r now taken a =
    when a.has_current && may_start (plan_of r) now (life_of a.current.life)
    then record { taken = taken; starts = true; announcer = holding a (started_instance r now a.current) }
    else record { taken = taken; starts = false; announcer = a }

-- republish: without a draft it fails, and nothing is queued
unfoldable pub republished_of : ℕ → ℕ → Option Part → Announcer → Announcer
republished_of validity now draft a = when needs_new_of validity now a then maybe a (λ c. queued_of now c a) draft else a

-- is an FDT being transferred
unfoldable pub transferring_of : Announcer → Bool
transferring_of a = a.has_current && a.current.life.transferring

-- nothing new while the current one is transferring; else republish if needed, take the front, start it if it may
unfoldable pub next_of : Plan → ℕ → ℕ → Option Part → Announcer → NextInstance
next_of r validity now draft a =
    when transferring_of a then record { taken = false; starts = false; announcer = a }
    else start_of r now (needs_new_of validity now a && given draft) (front_of (republished_of validity now draft a))

-- the current one is done
unfoldable pub current_done : ℕ → Announcer → Announcer
current_done now a = when a.has_current then holding a (done_instance now a.current) else a

-- does an FDT wait
abbrev pub waits_of : Announcer → Bool
waits_of a = not (eqb a.waiting 0)

-- does a part share a byte with that of an FDT
abbrev pub held_of : Part → Instance → Bool
held_of c i = shares c i.part

-- with that of one that waits, or of the current one
unfoldable pub shares_fdt_of : Part → Announcer → Bool
shares_fdt_of c a = any (held_of c) (waiting_of a) || (a.has_current && held_of c a.current)

-- refusal 5 of an FDT's part
unfoldable pub bad_fdt_of : ℕ → Part → Announcer → Bool
bad_fdt_of store c a = past_store store c || shares_fdt_of c a

-- nothing waits, and nothing is current
abbrev pub new_announcer : ℕ → Announcer
new_announcer id = record { fdtid = id; last_publish = no_time; queue = replicate waiting_fdts no_instance; waiting = 0; has_current = false; current = no_instance }
