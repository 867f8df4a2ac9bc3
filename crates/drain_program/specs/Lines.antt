-- The text of a packet's line.
use Rattle.std.specs.Prelude.{cond, List, [], ◌∷◌, ◌++◌, ℕ}
use Rattle.text.specs.Put.{decimal}
use Rattle.drain_program.specs.declared.drain.Line.{Line}

-- a number in decimal, and one byte behind it
unfoldable pub field : ℕ → ℕ → List ℕ
field n mark = decimal n ++ (mark ∷ [])

-- how long a field of a 64-bit number can be, and six of them
abbrev pub most_field : ℕ
most_field = 21

abbrev pub most_line : ℕ
most_line = 126

-- six numbers, with spaces (32) between them and a line feed (10) behind them
unfoldable pub line_text : Line → List ℕ
line_text p =
    field p.block.0 32 ++ field p.symbol.0 32 ++ field p.symbols 32 ++ field p.start 32 ++ field p.length 32 ++ field (cond p.close 1 0) 10
