-- What is promised of each packet of a transfer: statements only, proved in proofs/EncoderPromises.
use Rattle.std.specs.Prelude.{◌≡◌, true, false, ℕ, ◌+◌, ◌≤◌, ◌<◌}
use Rattle.sizes.specs.Partition.{sbn, esi, symbols_of, symbols_in, first_symbol}
use Rattle.sender.specs.EncoderCalls.{Inside, is_empty, symbol_payload}
use Rattle.sender.specs.declared.block.Open.{Open}
use Rattle.sender.specs.declared.blockencoder.Content.{Content}
use Rattle.sender.specs.declared.blockencoder.Symbol.{Symbol}

-- the block and symbol that a packet names
abbrev pub named : Symbol → Open
named s = record { sbn = s.sbn; esi = s.esi }

-- a symbol of a block of what is sent
pub record OfBlock (c : Content) (s : Symbol) : Type 0 where
  pub inside : Inside c (named s)
  pub left : is_empty c.partition (named s) ≡ false
  pub symbols : s.symbols ≡ symbols_in c.partition s.sbn
  pub payload : s.payload ≡ symbol_payload c (named s)
  pub transfer_length : s.transfer_length ≡ c.part.size

-- the one packet of an empty object
pub record OfNothing (c : Content) (s : Symbol) : Type 0 where
  pub empty : c.part.size ≡ 0
  pub shown : s ≡ record { sbn = sbn 0; esi = esi 0; symbols = 0; payload = record { start = c.part.start; size = 0 }; transfer_length = 0; close = true }

-- what a packet shows is one or the other
pub data Shown (c : Content) (s : Symbol) : Type 0 where
  of_block : OfBlock c s → Shown c s
  of_nothing : OfNothing c s → Shown c s

-- the symbol's number in all that is sent
abbrev pub rank_of : Content → Symbol → ℕ
rank_of c s = first_symbol c.partition s.sbn + s.esi.0

-- the payload is a part of the object's part
pub record Carried (c : Content) (s : Symbol) : Type 0 where
  pub after_start : c.part.start ≤ s.payload.start
  pub before_end : s.payload.start + s.payload.size ≤ c.part.start + c.part.size
  -- no payload is longer than a symbol, and none but the last symbol's is shorter
  pub at_most : s.payload.size ≤ c.sizes.e
  pub full : rank_of c s + 1 < symbols_of c.part.size c.sizes.e → s.payload.size ≡ c.sizes.e
  -- it is empty for an empty object only
  pub some_bytes : 0 < c.part.size → 0 < s.payload.size
