use Rattle.lifecycle.specs.Announce.{NextInstance}
use Rattle.lifecycle.proofs.PublishLaws.{next_taken_by, next_left_by}
use Rattle.lifecycle.proofs.fdt.Fdt.get_next_fdt_transfer.Goals as goal

pub returns-then-next : goal.returns-then-next
returns-then-next c =
    let n : NextInstance = record { taken = c.get_next_fdt_transfer-next.result.taken; starts = c.get_next_fdt_transfer-next.result.starts; announcer = c.get_next_fdt_transfer-next.new.self } in
    rw c.mark_published.ensures (next_taken_by c.args.now c.args.draft c.args.self.now c.fdt_plan-plan.result n c.fdt_plan-plan.ensures c.get_next_fdt_transfer-next.ensures c.if-next.true)

pub returns-else-next : goal.returns-else-next
returns-else-next c =
    let n : NextInstance = record { taken = c.get_next_fdt_transfer-next.result.taken; starts = c.get_next_fdt_transfer-next.result.starts; announcer = c.get_next_fdt_transfer-next.new.self } in
    next_left_by c.args.now c.args.draft c.args.self.now c.fdt_plan-plan.result n c.fdt_plan-plan.ensures c.get_next_fdt_transfer-next.ensures c.if-next.false
