use native.Mathlib.Omega.{arith}
use Rattle.lifecycle.proofs.AnnounceLaws.{runs_short, runs_middle, runs_long}
use Rattle.lifecycle.proofs.announce.will_expire.Goals as goal

pub returns-then-rest-eq0 : goal.returns-then-rest-eq0
returns-then-rest-eq0 c = runs_short c.args.validity c.args.elapsed (omega arith)

pub returns-then-rest-gt0 : goal.returns-then-rest-gt0
returns-then-rest-gt0 c = runs_long c.args.validity c.args.elapsed (omega arith)

pub returns-else-rest-eq0 : goal.returns-else-rest-eq0
returns-else-rest-eq0 c = runs_middle c.args.validity c.args.elapsed (omega arith) (omega arith)

pub returns-else-rest-gt0 : goal.returns-else-rest-gt0
returns-else-rest-gt0 c = runs_middle c.args.validity c.args.elapsed (omega arith) (omega arith)

pub returns-in-0-to-9 : goal.returns-in-0-to-9
returns-in-0-to-9 c = runs_short c.args.validity c.args.elapsed (omega arith)

pub returns-in-11-to-29 : goal.returns-in-11-to-29
returns-in-11-to-29 c = runs_middle c.args.validity c.args.elapsed (omega arith) (omega arith)

pub returns-in_default : goal.returns-in_default
returns-in_default c = runs_long c.args.validity c.args.elapsed (omega arith)
