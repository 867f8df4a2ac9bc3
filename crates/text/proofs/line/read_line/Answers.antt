-- `text::line::read_line` meets its contract.
use mathlib.Core.Path.{refl}
use mathlib.Core.Logic.{inl, inr}
use native.Mathlib.Omega.{arith}
use Rattle.text.specs.Bytes.{member}
use Rattle.text.proofs.Lists.{part_turned, part_past}
use Rattle.text.proofs.LineLaws.{pending_first, pending_none, pending_more, less_room}
use Rattle.text.proofs.line.read_line.Goals as goal
use Rattle.text.proofs.line.read_line.Goals.{then-at, then-at-via-then-at, then-at-via-else-at+then-buf-at, else-at+else-buf-at}
use Rattle.text.proofs.line.read_line.Goals.{then-end-at-via-then-end-at, then-end-at-via-else-end-at+then-at-2, then-end-at-via-else-end-at+else-at-2+then-buf-pending}

pub loop-at-init : goal.loop-at-init
loop-at-init g c =
    elim c.if-at.branch [
      | then-at w ↦ rw w.at-is (pending_none _ _ _ _ (elim w.then-at.branch [ then-at-via-then-at v ↦ part_turned _ _ _ v.if-at.true | then-at-via-else-at+then-buf-at v ↦ part_past _ _ _ v.if-buf-at.true ]))
      | else-at+else-buf-at w ↦ rw w.at-is (pending_first _ _ w.if-at.false w.if-buf-at.false)
    ]

pub returns-then-end-at : goal.returns-then-end-at
unfolding member
returns-then-end-at g c =
    record {
      pending = c.loop-at.invariant;
      exact = c.pass-end.ensures;
      whole = λ h.
          elim c.then-end-at.branch [
            | then-end-at-via-then-end-at w ↦ absurd (omega (arith, w.if-end-at.true))
            | then-end-at-via-else-end-at+then-at-2 w ↦ inl w.if-at-2.true
            | then-end-at-via-else-end-at+else-at-2+then-buf-pending w ↦ inr (omega (arith, w.if-buf-pending.true, c.loop-at.invariant.within))
          ];
    }

pub loop-at-preserved : goal.loop-at-preserved
loop-at-preserved g c = pending_more _ _ _ _ _ _ _ c.loop-at.invariant c.if-at-2.false c.refill-at.ensures refl

pub loop-at-smaller : goal.loop-at-smaller
loop-at-smaller g c =
    less_room _ _ _ _ c.if-at-2.false c.loop-at.invariant.order c.loop-at.invariant.within c.if-buf-pending.false c.refill-at.ensures
