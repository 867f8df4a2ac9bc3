use mathlib.Core.Bool.{false}
use mathlib.Core.Path.{ap}
use Prim.Native.Nat.{◌-◌, ◌<◌}
use native.Mathlib.Omega.{arith}
use lib.ListN.{length}
use Rattle.lifecycle.specs.declared.slots.Slot.{Slot}
use Rattle.lifecycle.specs.Slots.{slot_at}
use Rattle.lifecycle.specs.FdtCalls.{with_slots, unlisted_of}
use Rattle.lifecycle.proofs.FdtLaws.{twice}
use Rattle.lifecycle.proofs.fdt.Fdt.unlist.Goals as goal

pub returns : goal.returns
unfolding unlisted_of
returns c =
    let l = c.args.self.now.slots in
    let k = c.args.k in
    let g = c.requires.0.slots_long in
    let h : k < length l = omega arith in
    let y = slot_at l k in
    ap (with_slots c.args.self.now)
    (twice l k h (record { holders = y.holders - 1; listed = y.listed; file = y.file }) (λ (w : Slot). record { holders = w.holders; listed = false; file = w.file }))
