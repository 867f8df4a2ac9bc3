use Rattle.lifecycle.specs.FileDesc.{with_target}
use Rattle.lifecycle.proofs.filedesc.Plan.with_target.Goals as goal

pub returns-in-AtOnce : goal.returns-in-AtOnce
unfolding with_target
returns-in-AtOnce c = rw c.in-AtOnce.is

pub returns-in-Within : goal.returns-in-Within
unfolding with_target
returns-in-Within c = rw c.in-Within.is

pub returns-in-By : goal.returns-in-By
unfolding with_target
returns-in-By c = rw c.in-By.is
