use mathlib.Core.Path.{◌≡◌}
use Rattle.lifecycle.specs.declared.filedesc.Carousel.TheVariants.{Delay, Interval}
use Rattle.lifecycle.specs.FileDesc.{with_carousel}
use Rattle.lifecycle.proofs.filedesc.Plan.with_carousel.Goals as goal

pub returns-in-None : goal.returns-in-None
unfolding with_carousel
returns-in-None c = rw c.in-None.is

pub returns-in-Some-Delay : goal.returns-in-Some-Delay
unfolding with_carousel
returns-in-Some-Delay c = let e : c.in-Some-Delay.field-0 ≡ Delay c.in-Some-Delay.d = rw c.in-Some-Delay.is at c.in-Some-Delay.field-0-is in rw (c.in-Some-Delay.is, e)

pub returns-in-Some-Interval : goal.returns-in-Some-Interval
unfolding with_carousel
returns-in-Some-Interval c = let e : c.in-Some-Interval.field-0 ≡ Interval c.in-Some-Interval.d = rw c.in-Some-Interval.is at c.in-Some-Interval.field-0-is in rw (c.in-Some-Interval.is, e)
