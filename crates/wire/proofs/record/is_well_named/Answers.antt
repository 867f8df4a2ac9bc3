-- `wire::record::is_well_named` meets its contract.
use mathlib.Core.Path.{sym}
use Rattle.wire.proofs.RecordLaws.{fdt_named, no_number, object_named}
use Rattle.wire.proofs.record.is_well_named.Goals as goal

pub returns-then-r : goal.returns-then-r
returns-then-r c = sym (fdt_named _ c.if-r.true)

pub returns-then-r-ne0 : goal.returns-then-r-ne0
returns-then-r-ne0 c = sym (object_named _ c.if-r.false c.if-r-ne0.true)

pub returns-else-r-ne0 : goal.returns-else-r-ne0
returns-else-r-ne0 c = rw (no_number c.args.r c.if-r.false c.if-r-ne0.false, c.if-r-ne0.false)
