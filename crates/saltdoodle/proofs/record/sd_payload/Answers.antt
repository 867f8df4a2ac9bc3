use mathlib.Core.Path.{◌∙◌}
use borrow.Author.Tests.{not-true, not-false}
use Rattle.saltdoodle.specs.Record.{place_in}
use Rattle.saltdoodle.proofs.PacketLaws.{of_none, of_an_fdt, of_an_object}
use Rattle.saltdoodle.proofs.record.sd_payload.Goals as goal
use Rattle.saltdoodle.proofs.record.sd_payload.Goals.{then-p, else-p}

pub returns-then-not-s : goal.returns-then-not-s
returns-then-not-s c = of_none c.args.object_store c.args.fdt_store c.args.s c.no_place.result (not-true c.args.s.sent c.if-not-s.true) c.no_place.ensures

pub returns : goal.returns
returns c = elim c.if-p.branch [
  | then-p w ↦ of_an_fdt c.args.object_store c.args.fdt_store c.args.s c.place_in.result (not-false c.args.s.sent c.if-not-s.false) w.if-p.true (c.place_in.ensures ∙ λ i. place_in (w.if-p.true i) (w.store-is i) c.args.s.packet.symbol.payload)
  | else-p w ↦ of_an_object c.args.object_store c.args.fdt_store c.args.s c.place_in.result (not-false c.args.s.sent c.if-not-s.false) w.if-p.false (c.place_in.ensures ∙ λ i. place_in (w.if-p.false i) (w.store-is i) c.args.s.packet.symbol.payload)
]
