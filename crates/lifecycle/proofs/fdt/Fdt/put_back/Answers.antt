use mathlib.Core.Path.{ap}
use Prim.Native.Nat.{◌+◌, ◌-◌, ◌<◌}
use native.Mathlib.Omega.{arith}
use lib.ListN.{length, set}
use Rattle.lifecycle.specs.declared.slots.Slot.{Slot}
use Rattle.lifecycle.specs.FileDesc.{with_life, done_life}
use Rattle.lifecycle.specs.Slots.{slot_at}
use Rattle.lifecycle.specs.FdtCalls.{with_objects, back_of}
use Rattle.lifecycle.proofs.FdtLaws.{twice}
use Rattle.lifecycle.proofs.fdt.Fdt.put_back.Goals as goal

pub returns : goal.returns
unfolding back_of
returns c =
    let f = c.args.self.now in
    let l = c.args.self.now.slots in
    let k = c.args.k in
    let g = c.requires.0.slots_long in
    let h : k < length l = omega arith in
    let y = slot_at l k in
    rw c.transfer_done.ensures
    (ap (λ s. with_objects f f.tois s (set f.queue f.queued k) (f.queued + 1))
    (twice l k h (record { holders = y.holders; listed = y.listed; file = with_life y.file (done_life c.args.now y.file.life) })
    (λ (w : Slot). record { holders = w.holders - 1; listed = w.listed; file = w.file })))
