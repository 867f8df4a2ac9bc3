use Rattle.lifecycle.proofs.PartLaws.{empty_first, empty_second, first_reaches, second_reaches}
use Rattle.lifecycle.proofs.parts.shares.Goals as goal

pub returns-then-a-eq0 : goal.returns-then-a-eq0
returns-then-a-eq0 c = empty_first c.args.a c.args.b c.if-a-eq0.true

pub returns-then-b-eq0 : goal.returns-then-b-eq0
returns-then-b-eq0 c = empty_second c.args.a c.args.b c.if-b-eq0.true

pub returns-then-a-b : goal.returns-then-a-b
returns-then-a-b c = first_reaches c.args.a c.args.b c.if-b-eq0.false c.if-a-b.true

pub returns : goal.returns
returns c = second_reaches c.args.a c.args.b c.if-a-eq0.false c.if-a-b.false
