-- The lines of an input, one after another.
use Rattle.std.specs.Prelude.{◌≡◌, List, [], ℕ, Option}
use Rattle.std.specs.Option.{option_copied}
use Rattle.std.specs.Borrow.{Fml, RattleType, Bor, MutBor}
use Rattle.std.specs.Io.BufRead.{Rests}
use mir.Syntax.{named}
use Rattle.text.specs.Bytes.{part}
use Rattle.text.specs.Line.{word_bytes}
use Rattle.text.specs.Lines.{Taken}
use Rattle.text.specs.declared.word.Word.{Word}
use Rattle.text.specs.declared.lines.Lines.{Lines}
use Rattle.text.specs.contracts.lines.Lines.{the_row}

-- what the next line is: its places in the same buffer
pub record TakesPlace {R : Type 0} (was : Lines R) (r : Option Word) (now : Lines R) : Type 0 where
  pub input : now.input.ghost_name ≡ was.input.ghost_name
  pub buf : now.buf.ghost_name ≡ was.buf.ghost_name
  pub taken : Taken (part was.at.from was.at.to was.buf.now) was.buf.now was.at.ended now.buf.now r now.at

-- what next_line answers: the bytes of the next line, as they stand in the buffer until the next call
pub record TakesLine {R : Type 0} (was : Lines R) (r : Option (List ℕ)) (now : Lines R) : Type 0 where
  pub place : Option Word
  pub taken : TakesPlace was place now
  pub line : r ≡ word_bytes now.buf.now place

-- the lines are so once the line that is answered is no longer used
abbrev pub EndsAs : (R : RattleType) → MutBor (Lines R.Denot) → Option (Bor (List ℕ)) → Fml
EndsAs R lines result = Rests (the_row (record { mir = named 0; lft = [] }) R) lines (TakesLine lines.now (option_copied result))
