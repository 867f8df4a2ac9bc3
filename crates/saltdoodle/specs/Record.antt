-- What a host is told of a packet that a run gave: where its payload stands, and its record.
use Rattle.std.specs.Prelude.{◌≡◌, Bool, false, List, ℕ, length, take, drop}
use Rattle.std.specs.Prelude.{Option, None, Some, Result, Ok, Err}
use Rattle.sizes.specs.declared.refusal.Refusal.{Refusal}
use Rattle.sizes.specs.Partition.{sbn, esi}
use Rattle.sizes.specs.Words.{when◌then◌else◌, maybe, over}
use Rattle.sizes.specs.Refusals.{refusal_number}
use Rattle.sizes.specs.declared.refusal.Refusal.TheVariants as Because
use Rattle.lifecycle.specs.Parts.{past_store}
use Rattle.lifecycle.specs.declared.parts.Part.{Part}
use Rattle.definition.specs.FdtSession.{Packet}
use Rattle.definition.specs.Payload.{Store, Stores, bytes_of, Place, no_place, place_of, payload_of}
use Rattle.sender.specs.SenderCalls.{packet_said, packet_in, RunAnswer}
use Rattle.wire.specs.Record.{RecordAnswer, done, fields, refused, write_answer, write_buffer, RecordReads}
use Rattle.wire.specs.declared.record.Record.{Record}
use Rattle.packet_record.specs.PacketRecord.{record_of}
use Rattle.host_structs.specs.Answers.{run_told}
use Rattle.host_structs.specs.declared.answers.Sent.{Sent}
use Rattle.saltdoodle.specs.declared.record.PlainRecord.{PlainRecord}
use Rattle.saltdoodle.specs.declared.record.PayloadPlace.{PayloadPlace}

-- the packet that was sent, if one was
abbrev pub packet_sent : Sent → Option Packet
packet_sent s = when s.sent then Some (packet_said s.packet) else None

-- what is told of an answer keeps its packet
abbrev pub PacketKept : Type 0
PacketKept = (taken : Bool) (a : RunAnswer) → packet_sent (run_told taken a) ≡ packet_in a

abbrev pub store_named : Bool → Store
store_named of_fdt = when of_fdt then Store.fdts else Store.objects

abbrev pub place_named : PayloadPlace → Place
place_named r = record { store = store_named r.of_fdt; part = record { start = r.start; size = r.size } }

-- a part of a store of this length, if the store has it
abbrev pub place_in : Bool → ℕ → Part → Place
place_in of_fdt n c = when past_store n c then no_place else record { store = store_named of_fdt; part = c }

-- for any stores of these lengths, it is the payload's place, and the bytes there are the payload
pub record PayloadTold (object_store fdt_store : ℕ) (s : Sent) (r : PayloadPlace) : Type 0 where
  pub place : (m : Stores) → length m.of_objects ≡ object_store → length m.of_fdts ≡ fdt_store → place_named r ≡ place_of m (packet_sent s)
  pub bytes : (m : Stores) → length m.of_objects ≡ object_store → length m.of_fdts ≡ fdt_store → take r.size (drop r.start (bytes_of m (store_named r.of_fdt))) ≡ payload_of m (packet_sent s)

-- its record
abbrev pub record_sent : Sent → Option Record
record_sent s = over record_of (packet_sent s)

-- what a write says, in numbers
abbrev pub said_told : RecordAnswer → ℕ
said_told done = 0
said_told (fields r) = 0
said_told (refused why) = refusal_number why

-- the record of the packet is written into the buffer, or refused; with no packet it is refused
pub record RecordTold (s : Sent) (before : List ℕ) (answer : ℕ) (after : List ℕ) : Type 0 where
  pub said : answer ≡ maybe (refusal_number Because.Record) (λ r. said_told (write_answer before r)) (record_sent s)
  pub buffer : after ≡ maybe before (write_buffer before) (record_sent s)

abbrev pub fields_told : Record → PlainRecord
fields_told r = record {
  refused = 0;
  is_fdt = r.is_fdt;
  close = r.close;
  fdt_id = r.fdt_id;
  block = r.block;
  symbol = r.symbol;
  toi = r.toi;
  length = r.length;
  total = r.total;
  symbols = r.symbols;
}

-- refused: zeros stand for the fields
abbrev pub unread : ℕ → PlainRecord
unread n = record { refused = n; is_fdt = false; close = false; fdt_id = 0; block = sbn 0; symbol = esi 0; toi = 0; length = 0; total = 0; symbols = 0 }

abbrev pub reading_told : Result Record Refusal → PlainRecord
reading_told (Ok r) = fields_told r
reading_told (Err why) = unread (refusal_number why)

-- there is a result of the read, with all that is promised of it, and the host is told it
pub record FieldsTold (bs : List ℕ) (answer : PlainRecord) : Type 0 where
  pub result : Result Record Refusal
  pub promised : RecordReads bs result
  pub said : answer ≡ reading_told result
