-- Laws on the lines of an input, one after another.
use mathlib.Core.Path.{◌≡◌, refl}
use mathlib.Core.List.{List}
use Prim.Native.Nat.{ℕ}
use Rattle.std.specs.Prelude.{Some, None}
use Rattle.text.specs.Bytes.{part}
use Rattle.text.specs.Line.{word_bytes}
use Rattle.text.specs.Reader.{TakesPlace, TakesLine}
use Rattle.text.specs.declared.word.Word.{Word}
use Rattle.text.specs.declared.lines.Lines.{Lines}

-- a line is there, or none is
module _ {R : Type 0} (was now : Lines R) where
  pub line_there : (w : Word) (b : List ℕ) → TakesPlace was (Some w) now → b ≡ part w.start w.end now.buf.now → TakesLine was (Some b) now
  unfolding word_bytes
  line_there w b t e = record { place = Some w; taken = t; line = rw e }

  pub line_missing : TakesPlace was None now → TakesLine was None now
  unfolding word_bytes
  line_missing t = record { place = None; taken = t; line = refl }
