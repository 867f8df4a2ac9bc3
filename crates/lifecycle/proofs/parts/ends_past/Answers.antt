use Rattle.lifecycle.proofs.PartLaws.{starts_past, left_short}
use Rattle.lifecycle.proofs.parts.ends_past.Goals as goal

pub returns-then-store-c : goal.returns-then-store-c
returns-then-store-c c = starts_past c.args.store c.args.c c.if-store-c.true

pub returns : goal.returns
returns c = left_short c.args.store c.args.c c.if-store-c.false
