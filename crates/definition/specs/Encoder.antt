-- Encoder: the packets of one transfer, blocks interleaved over a window (src/sender/block.rs, blockencoder.rs).
use Rattle.std.specs.Prelude.{Bool, true, false, not, ◌&&◌, ◌||◌, List, [], ◌∷◌, ◌++◌, ℕ, zero, suc, ◌+◌, ◌-◌, ◌*◌, min, eqb, ltb, leb, length, set}
use Rattle.std.specs.Prelude.{Option, None, Some}
use Rattle.sizes.specs.Words.{when◌then◌else◌, maybe, all, at, cut}
use Rattle.sizes.specs.Partition.{sbn, esi, blocks_of, symbols_in, first_symbol}
use Rattle.sizes.specs.declared.partition.Sizes.{Sizes}
use Rattle.sizes.specs.declared.numbers.Sbn.{Sbn}
use Rattle.sizes.specs.declared.numbers.Esi.{Esi}
use Rattle.sizes.specs.declared.partition.Partition.{Partition}
use Rattle.lifecycle.specs.declared.parts.Part.{Part}

-- an open block, and the next symbol of it
pub record Open : Type 0 where
  pub block : Sbn
  pub symbol : Esi

-- one transfer under way
pub record Encoder : Type 0 where
  pub closable : Bool  -- is this the object's last transfer
  pub next : Sbn  -- the next block to open
  pub window : List Open
  pub index : ℕ  -- the place in the window to visit
  pub begun : Bool  -- a packet was sent
  pub stopped : Bool  -- a forced packet was asked for

-- what a packet says of its symbol; the payload is a part of the store
pub record Symbol : Type 0 where
  pub block : Sbn
  pub symbol : Esi
  pub symbols : ℕ  -- how many the block has
  pub payload : Part
  pub transfer_length : ℕ
  pub close : Bool

-- a transfer before its first packet
abbrev pub fresh : Bool → Encoder
fresh c = record { closable = c; next = sbn 0; window = []; index = 0; begun = false; stopped = false }

-- n blocks from k on, each at its first symbol
abbrev pub opened : ℕ → ℕ → List Open
opened k zero = []
opened k (suc n) = record { block = sbn k; symbol = esi 0 } ∷ opened (suc k) n

-- has the block no symbol left
unfoldable pub drained : Partition → Open → Bool
drained p o = leb (symbols_in p o.block) o.symbol.0

-- fill the window of w blocks, appending
unfoldable pub fill : ℕ → Partition → Encoder → Encoder
fill w p x = let n = min (w - length x.window) (p.blocks - x.next.0) in record {
  closable = x.closable;
  next = sbn (x.next.0 + n);
  window = x.window ++ opened x.next.0 n;
  index = x.index;
  begun = x.begun;
  stopped = x.stopped;
}

-- an index past the end becomes 0
unfoldable pub wrapped : Encoder → ℕ
wrapped x = when ltb x.index (length x.window) then x.index else 0

-- with no block open: an empty object has one packet, which closes; all else has been sent
unfoldable pub emptied : Part → Encoder → Option Symbol × Encoder
emptied c x =
    when x.begun || not (eqb c.size 0) then (None, x)
    else (
      Some record { block = sbn 0; symbol = esi 0; symbols = 0; payload = record { start = c.start; size = 0 }; transfer_length = 0; close = true },
      record { closable = x.closable; next = x.next; window = x.window; index = x.index; begun = true; stopped = x.stopped },
    )

-- a drained block leaves, the index stays
unfoldable pub without : Encoder → ℕ → Encoder
without x i = record { closable = x.closable; next = x.next; window = cut x.window i; index = i; begun = x.begun; stopped = x.stopped }

-- the block at i is read and the index moves on
unfoldable pub advanced : Encoder → ℕ → Open → Encoder
advanced x i o = record {
  closable = x.closable;
  next = x.next;
  window = set x.window i (record { block = o.block; symbol = esi (suc o.symbol.0) });
  index = suc i;
  begun = true;
  stopped = x.stopped;
}

-- does nothing remain: every block was opened, and every open one is drained
unfoldable pub nothing_left : Partition → Encoder → Bool
nothing_left p x = leb p.blocks x.next.0 && all (drained p) x.window

-- the symbol read from a block of content c; x is the encoder after it. It closes if it is forced, or if the transfer is closable and nothing remains
unfoldable pub symbol_of : Part → Sizes → Bool → Open → Encoder → Symbol
symbol_of c z force o x = let p = blocks_of z c.size in let from = (first_symbol p o.block + o.symbol.0) * z.e in record {
  block = o.block;
  symbol = o.symbol;
  symbols = symbols_in p o.block;
  payload = record { start = c.start + from; size = min z.e (c.size - from) };
  transfer_length = c.size;
  close = force || (x.closable && nothing_left p x);
}

-- fill and visit, at most so many times: a visit that reads nothing removes a drained block, so one more than the open blocks are enough
unfoldable pub visit : ℕ → ℕ → Part → Sizes → Bool → Encoder → Option Symbol × Encoder
visit zero w c z force x = (None, x)
visit (suc k) w c z force x =
    let p = blocks_of z c.size in
    let y = fill w p x in
    let i = wrapped y in
    let again = visit k w c z force (without y i) in
    maybe (emptied c y) (λ o. when drained p o then again else (let y' = advanced y i o in (Some (symbol_of c z force o y'), y'))) (at y.window i)

-- a forced read is the last one
unfoldable pub stopping : Bool → Encoder → Encoder
stopping force x = record {
  closable = x.closable;
  next = x.next;
  window = x.window;
  index = x.index;
  begun = x.begun;
  stopped = x.stopped || force;
}

-- the next symbol of the transfer of content c, or none
unfoldable pub read : ℕ → Part → Sizes → Bool → Encoder → Option Symbol × Encoder
read w c z force x = when x.stopped then (None, x) else visit (suc (length x.window)) w c z force (stopping force x)
