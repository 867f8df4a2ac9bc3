-- What the host names by numbers and plain structs.
use Rattle.std.specs.Prelude.{Bool, ℕ, Option, None, Some}
use Rattle.sizes.specs.Words.{when◌then◌else◌}
use Rattle.sizes.specs.declared.partition.Sizes.{Sizes}
use Rattle.lifecycle.specs.declared.filedesc.Plan.{Plan}
use Rattle.lifecycle.specs.declared.filedesc.Carousel.{Carousel}
use Rattle.lifecycle.specs.declared.filedesc.Carousel.TheVariants as CarouselV
use Rattle.lifecycle.specs.declared.filedesc.Target.{Target}
use Rattle.lifecycle.specs.declared.filedesc.Target.TheVariants as TargetV
use Rattle.sender.specs.declared.sender.Object.{Object}
use Rattle.sender.specs.declared.setup.Setup.{Setup}
use Rattle.host_structs.specs.declared.inputs.PlainObject.{PlainObject}
use Rattle.host_structs.specs.declared.inputs.PlainSetup.{PlainSetup}

unfoldable pub fdt_carousel_in : Bool → ℕ → Carousel
fdt_carousel_in from_start interval = when from_start then CarouselV.Interval interval else CarouselV.Delay interval

unfoldable pub carousel_in : Plan → Option Carousel
carousel_in x = when x.repeats then Some (fdt_carousel_in x.from_start x.interval) else None

unfoldable pub target_in : Plan → Target
target_in x = when x.paced then (when x.by_time then TargetV.By x.target else TargetV.Within x.target) else TargetV.AtOnce

unfoldable pub own_in : Bool → Sizes → Option Sizes
own_in own z = when own then Some z else None

abbrev pub object_in : PlainObject → Object
object_in o = record {
  priority = o.priority;
  part = o.part;
  own = own_in o.own o.sizes;
  most = o.plan.most;
  carousel = carousel_in o.plan;
  target = target_in o.plan;
  start = o.start;
  stop_at_once = o.plan.stop_at_once;
}

unfoldable pub named_in : PlainObject → Option ℕ
named_in o = when o.named then Some o.toi else None

abbrev pub setup_in : PlainSetup → Setup
setup_in z = record {
  sizes = z.sizes;
  window = z.window;
  count = z.count;
  priorities = z.priorities;
  width = z.width;
  first_toi = z.first_toi;
  first_fdt_id = z.first_fdt_id;
  validity = z.validity;
  carousel = fdt_carousel_in z.from_start z.interval;
  object_store = z.object_store;
  fdt_store = z.fdt_store;
}
