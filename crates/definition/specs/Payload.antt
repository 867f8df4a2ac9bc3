-- The payload of a packet: a part of one of the two stores.
use Rattle.std.specs.Prelude.{Option, None, Some}
use Rattle.std.specs.Prelude.{List, ℕ, length, take, drop}
use Rattle.sizes.specs.Words.{when◌then◌else◌, maybe}
use Rattle.lifecycle.specs.Parts.{past_store}
use Rattle.lifecycle.specs.declared.parts.Part.{Part}
use Rattle.definition.specs.FdtSession.{Packet}

pub data Store : Type 0 where
  objects : Store
  fdts : Store

-- the two stores' bytes
pub record Stores : Type 0 where
  pub of_objects : List ℕ
  pub of_fdts : List ℕ

abbrev pub bytes_of : Stores → Store → List ℕ
bytes_of m Store.objects = m.of_objects
bytes_of m Store.fdts = m.of_fdts

-- where a packet's payload stands: an FDT's packet has an id
unfoldable pub store_of : Packet → Store
store_of k = maybe Store.objects (λ id. Store.fdts) k.id

-- a place in one of the stores
pub record Place : Type 0 where
  pub store : Store
  pub part : Part

abbrev pub no_place : Place
no_place = record { store = Store.objects; part = record { start = 0; size = 0 } }

-- the part that a packet names, if the store that is lent has it; else, and with no packet, the empty part of the object store
unfoldable pub place_of : Stores → Option Packet → Place
place_of m None = no_place
place_of m (Some k) =
    when past_store (length (bytes_of m (store_of k))) k.symbol.payload then no_place
    else record { store = store_of k; part = k.symbol.payload }

-- the payload
unfoldable pub payload_of : Stores → Option Packet → List ℕ
payload_of m k = let c = place_of m k in take c.part.size (drop c.part.start (bytes_of m c.store))
