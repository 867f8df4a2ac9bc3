-- `text::lines::Lines::next_line` meets its contract, with a line and without.
use mathlib.Core.Path.{refl}
use Rattle.text.proofs.ReaderLaws.{line_there, line_missing}
use Rattle.text.proofs.lines.Lines.next_line.Goals as goal

pub returns-in_err-place : goal.returns-in_err-place
returns-in_err-place g c = ((refl, λ _. tt, rw c.from_residual.ensures (line_missing _ _ (rw c.in_err-place.was at c.advance.ensures))), record { ends = tt })

pub returns : goal.returns
returns g c = ((refl, λ _. tt, line_there _ _ c.in_ok-place.place _ (rw c.in_ok-place.was at c.advance.ensures) c.bytes.ensures), record { ends = tt })
