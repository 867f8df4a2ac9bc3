use borrow.Author.Rules.{rules}
use borrow.Author.Tests.{eq-eqb, ne_eqb}
use Rattle.lifecycle.specs.Announce.{front_of}
use Rattle.lifecycle.proofs.announce.Announcer.take_front.Goals as goal

pub returns-then-self-eq0 : goal.returns-then-self-eq0
unfolding front_of
returns-then-self-eq0 c = rw (eq-eqb c.args.self.now.waiting 0 c.if-self-eq0.true)

pub returns : goal.returns
unfolding front_of
returns c = rw (c.close_gap.ensures.inside (search rules), c.no_fdt.ensures, ne_eqb c.args.self.now.waiting 0 c.if-self-eq0.false)
