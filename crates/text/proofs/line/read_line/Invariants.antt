use mathlib.Core.Bool.{cond}
use Prim.Native.Nat.{◌+◌, ◌-◌}
use lib.ListN.{length}
use Rattle.text.specs.Bytes.{part}
use Rattle.text.specs.Lines.{Pending}
use Rattle.text.proofs.line.read_line.Given as goal

abbrev pub invariant-loop-at : goal.invariant-loop-at
invariant-loop-at g l = Pending (part l.fn.at.from l.fn.at.to l.fn.buf) l.fn.buf l.fn.at.ended l.buf l.at

abbrev pub decreases-loop-at : goal.decreases-loop-at
decreases-loop-at g l = cond l.at.ended 0 (length l.buf - (l.at.to - l.at.from) + 1)
