-- `text::line::take_line` meets its contract.
use native.Mathlib.Omega.{arith}
use Rattle.text.proofs.LineLaws.{line_taken, none_taken}
use Rattle.text.proofs.line.take_line.Goals as goal
use Rattle.text.proofs.line.take_line.Goals.{then-end-at, else-end-at}

pub returns-then-start-at : goal.returns-then-start-at
returns-then-start-at g c = none_taken _ _ _ _ _ _ c.read_line-end.ensures c.if-start-at.true

pub returns : goal.returns
returns g c =
    line_taken _ _ _ _ _ _ c.read_line-end.ensures c.if-start-at.false c.if-end-at.at
    (λ h. elim c.if-end-at.branch [ then-end-at w ↦ w.at-is | else-end-at w ↦ absurd (omega (arith, w.if-end-at.false)) ])
    (λ h. elim c.if-end-at.branch [ then-end-at w ↦ absurd (omega (arith, w.if-end-at.true)) | else-end-at w ↦ w.at-is ])
