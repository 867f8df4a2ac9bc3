-- The encoder as the code has it: what it means, and what each function makes of it.
use Rattle.std.specs.Prelude.{◌≡◌, Bool, true, false, not, ◌&&◌, ◌||◌, List, map, ℕ, zero, suc, ◌+◌, ◌-◌, ◌*◌, ◌≤◌, ◌<◌, min, eqb, ltb, leb, length, get_or, take, set, replicate}
use Rattle.std.specs.Prelude.{Option, None, Some}
use Rattle.sizes.specs.Words.{when◌then◌else◌, all, shut, tally}
use Rattle.sizes.specs.Limits.{wide, largest_block, largest_window}
use Rattle.sizes.specs.Partition.{sbn, esi, blocks_of, symbols_in, first_symbol}
use Rattle.sizes.specs.declared.partition.Sizes.{Sizes}
use Rattle.sizes.specs.declared.partition.Partition.{Partition}
use Rattle.lifecycle.specs.Setup.{bad_blocks}
use Rattle.lifecycle.specs.declared.parts.Part.{Part}
use Rattle.definition.specs.Encoder as Def
use Rattle.sender.specs.declared.block.Open.{Open}
use Rattle.sender.specs.declared.blockencoder.Content.{Content}
use Rattle.sender.specs.declared.blockencoder.BlockEncoder.{BlockEncoder}
use Rattle.sender.specs.declared.blockencoder.Symbol.{Symbol}
use Rattle.sender.specs.declared.blockencoder.Visit.{Visit}

-- ---- what the records mean

abbrev pub open_said : Open → Def.Open
open_said o = record { block = o.sbn; symbol = o.esi }

-- the open blocks, in order
abbrev pub opened_blocks : BlockEncoder → List Def.Open
opened_blocks x = map open_said (take x.filled x.window)

abbrev pub encoder_of : BlockEncoder → Def.Encoder
encoder_of x = record { closable = x.closable; next = x.next; window = opened_blocks x; index = x.index; begun = x.begun; stopped = x.stopped }

abbrev pub symbol_said : Symbol → Def.Symbol
symbol_said s = record { block = s.sbn; symbol = s.esi; symbols = s.symbols; payload = s.payload; transfer_length = s.transfer_length; close = s.close }

-- a symbol, or that there is none to send
abbrev pub emitted_said : Option Symbol → Option Def.Symbol
emitted_said (Some s) = Some (symbol_said s)
emitted_said None = None

-- what a read answers, and the encoder after it
pub record Read : Type 0 where
  pub answer : Option Symbol
  pub encoder : BlockEncoder

-- ---- what every call keeps

-- a block with nothing in it
abbrev pub no_open : Open
no_open = record { sbn = sbn 0; esi = esi 0 }

-- the block at a place of the window
abbrev pub open_at : BlockEncoder → ℕ → Open
open_at x i = get_or x.window i no_open

-- has the block no symbol left
unfoldable pub is_empty : Partition → Open → Bool
is_empty p o = leb (symbols_in p o.sbn) o.esi.0

-- a block of what is sent, and a symbol of it or its end
pub record Inside (c : Content) (o : Open) : Type 0 where
  pub block : o.sbn.0 < c.partition.blocks
  pub symbol : o.esi.0 ≤ symbols_in c.partition o.sbn

-- what is sent is cut as the RFC says, in admitted sizes, and no byte of it lies past 64 bits
pub record Sound (c : Content) : Type 0 where
  pub cut : c.partition ≡ blocks_of c.sizes c.part.size
  pub sizes : bad_blocks c.sizes c.part.size ≡ false
  pub fits : c.part.start + c.part.size < wide

-- an encoder belongs to its object's partition
pub record ValidEncoder (x : BlockEncoder) : Type 0 where
  pub content : Sound x.content
  pub narrow : x.width ≤ largest_window
  pub filled : x.filled ≤ x.width
  pub next : x.next.0 ≤ x.content.partition.blocks
  pub long : length x.window ≡ largest_window
  pub each : (i : ℕ) → i < x.filled → Inside x.content (open_at x i)
  -- zeros past the open blocks
  pub clear : (i : ℕ) → x.filled ≤ i → open_at x i ≡ no_open

-- ---- what the functions make of it

-- the same with other open blocks
abbrev pub with_window : BlockEncoder → ℕ → ℕ → ℕ → List Open → BlockEncoder
with_window x next filled index l = record {
  content = x.content;
  width = x.width;
  closable = x.closable;
  begun = x.begun;
  stopped = x.stopped;
  next = sbn next;
  filled = filled;
  index = index;
  window = l;
}

unfoldable pub new_of : Part → Sizes → ℕ → Bool → BlockEncoder
new_of c z w closable = record {
  content = record { part = c; sizes = z; partition = blocks_of z c.size };
  width = w;
  closable = closable;
  begun = false;
  stopped = false;
  next = sbn 0;
  filled = 0;
  index = 0;
  window = replicate largest_window no_open;
}

-- is there a block to open, and room for it
unfoldable pub has_room : BlockEncoder → Bool
has_room x = ltb x.filled x.width && ltb x.next.0 x.content.partition.blocks

-- the next block is opened, at the window's end
unfoldable pub one_opened : BlockEncoder → BlockEncoder
one_opened x = with_window x (x.next.0 + 1) (x.filled + 1) x.index (set x.window x.filled (record { sbn = x.next; esi = esi 0 }))

-- n blocks more
abbrev pub blocks_opened : ℕ → BlockEncoder → BlockEncoder
blocks_opened zero x = x
blocks_opened (suc n) x = blocks_opened n (one_opened x)

-- the window is filled
unfoldable pub filled_of : BlockEncoder → BlockEncoder
filled_of x = blocks_opened (min (x.width - x.filled) (x.content.partition.blocks - x.next.0)) x

-- an index past the end becomes 0
unfoldable pub place_to_visit : BlockEncoder → ℕ
place_to_visit x = when ltb x.index x.filled then x.index else 0

-- has the block to visit no symbol left
unfoldable pub stuck : BlockEncoder → Bool
stuck x = ltb 0 x.filled && is_empty x.content.partition (open_at x (place_to_visit x))

-- it leaves, and the index stays
unfoldable pub without_of : BlockEncoder → BlockEncoder
without_of x = with_window x x.next.0 (x.filled - 1) (place_to_visit x) (shut no_open x.window (place_to_visit x))

-- how many open blocks have no symbol left
abbrev pub drained_count : BlockEncoder → ℕ
drained_count x = tally (is_empty x.content.partition) (take x.filled x.window)

-- drained blocks leave where they are visited, n at most, and the window is filled again
abbrev pub settled : ℕ → BlockEncoder → BlockEncoder
settled zero x = x
settled (suc n) x = when stuck x then settled n (filled_of (without_of x)) else x

-- as many as there are
unfoldable pub ready_of : BlockEncoder → BlockEncoder
ready_of x = settled (drained_count (filled_of x)) (filled_of x)

-- where a symbol begins in what is sent
unfoldable pub offset_of : Content → Open → ℕ
offset_of c o = (first_symbol c.partition o.sbn + o.esi.0) * c.sizes.e

-- does nothing remain once the block at a place is as o says
unfoldable pub last_of : BlockEncoder → ℕ → Open → Bool
last_of x i o = leb x.content.partition.blocks x.next.0 && all (is_empty x.content.partition) (take x.filled (set x.window i o))

-- the block after one symbol more
abbrev pub next_symbol : Open → Open
next_symbol o = record { sbn = o.sbn; esi = esi (o.esi.0 + 1) }

-- the bytes of a symbol; the last one may be short
abbrev pub symbol_payload : Content → Open → Part
symbol_payload c o = record { start = c.part.start + offset_of c o; size = min c.sizes.e (c.part.size - offset_of c o) }

-- does a symbol of the block at a place close the transfer
abbrev pub closes_of : Bool → BlockEncoder → ℕ → Open → Bool
closes_of force x i o = force || (x.closable && last_of x i (next_symbol o))

-- what the block o at a place gives
abbrev pub shown_of : Content → ℕ → Open → Bool → Visit
shown_of c i o close = record {
  place = i;
  symbol = record { sbn = o.sbn; esi = o.esi; symbols = symbols_in c.partition o.sbn; payload = symbol_payload c o; transfer_length = c.part.size; close = close };
}

-- the symbol that the block to visit gives
unfoldable pub visit_of : Bool → BlockEncoder → Visit
visit_of force x = let i = place_to_visit x in let o = open_at x i in shown_of x.content i o (closes_of force x i o)

-- is a block left to open, or has the block to visit a symbol after its next one
abbrev pub goes_on : BlockEncoder → Bool
goes_on x = let p = x.content.partition in let o = open_at x (place_to_visit x) in ltb x.next.0 p.blocks || ltb (o.esi.0 + 1) (symbols_in p o.sbn)

-- is the transfer under way, with no block to open or to remove, and more to send after the next symbol
unfoldable pub midway : BlockEncoder → Bool
midway x = not x.stopped && x.begun && not (has_room x) && not (eqb x.filled 0) && not (stuck x) && goes_on x

-- the next symbol, where reading it only moves its block and the index on
unfoldable pub glance_of : BlockEncoder → Option Visit
glance_of x = when midway x then Some (visit_of false x) else None

-- a symbol was read, and the index moves on
unfoldable pub moved_of : BlockEncoder → Visit → BlockEncoder
moved_of x v = record {
  content = x.content;
  width = x.width;
  closable = x.closable;
  begun = true;
  stopped = x.stopped;
  next = x.next;
  filled = x.filled;
  index = v.place + 1;
  window = set x.window v.place (record { sbn = v.symbol.sbn; esi = esi (v.symbol.esi.0 + 1) });
}

-- with no block open: the one packet of an empty object, or none
unfoldable pub emptied_of : BlockEncoder → Read
emptied_of x =
    when x.begun || not (eqb x.content.part.size 0) then record { answer = None; encoder = x }
    else record {
      answer = Some record { sbn = sbn 0; esi = esi 0; symbols = 0; payload = record { start = x.content.part.start; size = 0 }; transfer_length = 0; close = true };
      encoder = record { content = x.content; width = x.width; closable = x.closable; begun = true; stopped = x.stopped; next = x.next; filled = x.filled; index = x.index; window = x.window };
    }

-- a forced read is the last one
abbrev pub stopping_of : Bool → BlockEncoder → BlockEncoder
stopping_of force x = record { content = x.content; width = x.width; closable = x.closable; begun = x.begun; stopped = force; next = x.next; filled = x.filled; index = x.index; window = x.window }

-- from a window that is ready
unfoldable pub emitted_of : Bool → BlockEncoder → Read
emitted_of force x = when eqb x.filled 0 then emptied_of x else record { answer = Some (visit_of force x).symbol; encoder = moved_of x (visit_of force x) }

unfoldable pub read_of : Bool → BlockEncoder → Read
read_of force x = when x.stopped then record { answer = None; encoder = x } else emitted_of force (ready_of (stopping_of force x))

-- ---- what read promises

-- the definition's read of the same transfer
abbrev pub read_said : Bool → BlockEncoder → Option Def.Symbol × Def.Encoder
read_said force x = Def.read x.width x.content.part x.content.sizes force (encoder_of x)

pub record Reads (force : Bool) (x : BlockEncoder) (r : Read) : Type 0 where
  pub exact : r ≡ read_of force x
  pub said : emitted_said r.answer ≡ (read_said force x).0
  pub next : encoder_of r.encoder ≡ (read_said force x).1
  pub content : r.encoder.content ≡ x.content
  pub width : r.encoder.width ≡ x.width
  pub valid : ValidEncoder r.encoder

-- ---- what a glance tells of the read

-- it only moves the block of the visit and the index on, and closes nothing
pub record Steps (x : BlockEncoder) (v : Visit) : Type 0 where
  pub read : read_of false x ≡ record { answer = Some v.symbol; encoder = moved_of x v }
  pub begun : x.begun ≡ true
  pub place : v.place < x.filled
  pub block : v.symbol.sbn ≡ (open_at x v.place).sbn
  pub symbol : v.symbol.esi.0 < largest_block
  pub close : v.symbol.close ≡ false
