-- What a record says of a packet.
use Rattle.sizes.specs.Words.{given, maybe}
use Rattle.definition.specs.FdtSession.{Packet}
use Rattle.wire.specs.declared.record.Record.{Record}

-- the FDT flag stands for the id that an FDT's packet has; the payload is told by its length
abbrev pub record_of : Packet → Record
record_of p = record {
  is_fdt = given p.id;
  close = p.symbol.close;
  fdt_id = maybe 0 (λ k. k) p.id;
  toi = p.toi;
  block = p.symbol.block;
  symbol = p.symbol.symbol;
  length = p.symbol.payload.size;
  total = p.symbol.transfer_length;
  symbols = p.symbol.symbols;
}
