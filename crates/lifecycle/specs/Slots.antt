-- The slots of held objects and the queue, as the code has them, and what each search asks.
use Rattle.std.specs.Prelude.{Bool, false, not, ◌&&◌, List, ℕ, eqb, get_or}
use Rattle.sizes.specs.Words.{when◌then◌else◌}
use Rattle.lifecycle.specs.Parts.{shares}
use Rattle.lifecycle.specs.FileDesc.{no_time, unborn_of, plain_plan, with_life, published_life, startable_file}
use Rattle.lifecycle.specs.declared.parts.Part.{Part}
use Rattle.lifecycle.specs.declared.filedesc.FileDesc.{FileDesc}
use Rattle.lifecycle.specs.declared.slots.Slot.{Slot}

-- no object: all zeros
abbrev pub no_file : FileDesc
no_file = record {
  toi = 0;
  priority = 0;
  part = record { start = 0; size = 0 };
  sizes = record { e = 0; b = 0 };
  plan = plain_plan 0 false;
  life = unborn_of no_time;
}

-- a slot with nothing in it
abbrev pub no_slot : Slot
no_slot = record { holders = 0; listed = false; file = no_file }

-- the slot with this number; past the end it is a free one
abbrev pub slot_at : List Slot → ℕ → Slot
slot_at l k = get_or l k no_slot

-- does nobody hold it
unfoldable pub is_free : Slot → Bool
is_free v = eqb v.holders 0

-- is it the listed object with this number
unfoldable pub is_listed_as : ℕ → Slot → Bool
is_listed_as t v = v.listed && eqb v.file.toi t

-- is it a held object that shares a byte with the part
unfoldable pub holds_byte : Part → Slot → Bool
holds_byte c v = not (is_free v) && shares c v.file.part

-- may a session of priority p start the object in slot k
unfoldable pub queue_startable : List Slot → ℕ → ℕ → ℕ → Bool
queue_startable l p now k = startable_file p now (slot_at l k).file

-- a listed object is published from now on
unfoldable pub published_slot : Slot → Slot
published_slot v = when v.listed then record { holders = v.holders; listed = v.listed; file = with_life v.file (published_life v.file.life) } else v
