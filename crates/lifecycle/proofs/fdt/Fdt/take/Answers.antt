use mathlib.Core.Path.{ap}
use Prim.Native.Nat.{◌+◌, ◌-◌, ◌<◌}
use native.Mathlib.Omega.{arith}
use lib.ListN.{length}
use Rattle.sizes.specs.Words.{shut}
use Rattle.lifecycle.specs.declared.slots.Slot.{Slot}
use Rattle.lifecycle.specs.FileDesc.{with_life, started_life}
use Rattle.lifecycle.specs.Slots.{slot_at}
use Rattle.lifecycle.specs.FdtCalls.{with_objects, taken_at}
use Rattle.lifecycle.proofs.FdtLaws.{twice}
use Rattle.lifecycle.proofs.fdt.Fdt.take.Goals as goal

pub returns : goal.returns
unfolding taken_at
returns c =
    let f = c.args.self.now in
    let l = c.args.self.now.slots in
    let k = c.args.k in
    let g = c.requires.0.slots_long in
    let h : k < length l = omega arith in
    let y = slot_at l k in
    let long = c.requires.0.queue_long in
    let room = c.requires.0.queued in
    rw (c.close_gap.ensures.inside (omega arith), c.transfer_started.ensures)
    (ap (λ s. with_objects f f.tois s (shut 0 f.queue c.args.n) (f.queued - 1))
    (twice l k h (record { holders = y.holders; listed = y.listed; file = with_life y.file (started_life y.file.plan c.args.now y.file.life) })
    (λ (w : Slot). record { holders = w.holders + 1; listed = w.listed; file = w.file })))
