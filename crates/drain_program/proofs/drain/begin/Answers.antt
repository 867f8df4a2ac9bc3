-- `drain_program::drain::begin` meets its contract.
use mathlib.Core.Path.{sym, ◌∙◌, ap, subst}
use Rattle.std.specs.Prelude.{Some}
use Rattle.sender.specs.EncoderCalls.{ValidEncoder}
use Rattle.drain_program.proofs.DrainLaws.{begun_valid}
use Rattle.drain_program.proofs.drain.begin.Goals as goal

pub returns : goal.returns
returns c =
    let t = c.args.t in
    let h = sym c.is_refused.ensures ∙ c.if-is_refused.false in
    record { exact = rw h (ap Some c.new.ensures); valid = subst ValidEncoder (sym c.new.ensures) (begun_valid t.l t.e t.b t.w h) }
