-- One transfer sent once, line by line: what is refused, and what a line says.
use Rattle.std.specs.Prelude.{◌≡◌, Bool, true, false, not, ◌||◌, ℕ, ◌-◌, ltb}
use Rattle.std.specs.Prelude.{Option, None, Some, IfSome}
use Rattle.sizes.specs.Words.{when◌then◌else◌, over, within}
use Rattle.sizes.specs.Limits.{largest_window, longest_store}
use Rattle.lifecycle.specs.Setup.{bad_blocks}
use Rattle.definition.specs.Encoder as Def
use Rattle.sender.specs.EncoderCalls.{ValidEncoder, encoder_of, new_of, read_of, read_said}
use Rattle.sender.specs.declared.blockencoder.Content.{Content}
use Rattle.sender.specs.declared.blockencoder.BlockEncoder.{BlockEncoder}
use Rattle.drain_program.specs.declared.drain.Line.{Line}

-- a window out of range, too long an object, E or B out of range, or too many blocks
unfoldable pub drain_refuses : ℕ → ℕ → ℕ → ℕ → Bool
drain_refuses l e b w = not (within 1 largest_window w) || (ltb longest_store l || bad_blocks (record { e = e; b = b }) l)

-- a transfer of l bytes that stand at the store's start; it is the object's only one, so it closes
abbrev pub drain_begun : ℕ → ℕ → ℕ → ℕ → Option BlockEncoder
drain_begun l e b w =
    when drain_refuses l e b w then None
    else Some (new_of (record { start = 0; size = l }) (record { e = e; b = b }) w true)

pub record DrainBegins (l e b w : ℕ) (r : Option BlockEncoder) : Type 0 where
  pub exact : r ≡ drain_begun l e b w
  pub valid : IfSome r ValidEncoder

-- the next line, if there is one, and the encoder after it
pub record Turned : Type 0 where
  pub line : Option Line
  pub encoder : BlockEncoder

-- block, symbol, the block's symbols, where the bytes begin in the object, how many they are, close
abbrev pub packet_line : Content → Def.Symbol → Line
packet_line c s = record { block = s.block; symbol = s.symbol; symbols = s.symbols; start = s.payload.start - c.part.start; length = s.payload.size; close = s.close }

pub record Turns (x : BlockEncoder) (r : Turned) : Type 0 where
  pub exact : r.encoder ≡ (read_of false x).encoder
  pub line : r.line ≡ over (packet_line x.content) (read_said (false) x).0
  pub next : encoder_of r.encoder ≡ (read_said (false) x).1
  pub content : r.encoder.content ≡ x.content
  pub width : r.encoder.width ≡ x.width
  pub valid : ValidEncoder r.encoder
