-- The object's record as the code has it: what it means, and what each function makes of it.
use Rattle.std.specs.Prelude.{Bool, true, false, not, ◌&&◌, ℕ, ◌+◌, ◌-◌, min, eqb, ltb}
use Rattle.std.specs.Prelude.{Option, None, Some}
use Rattle.sizes.specs.Words.{when◌then◌else◌}
use Rattle.sizes.specs.Limits.{wide, largest_count, largest_total}
use Rattle.sizes.specs.declared.partition.Sizes.{Sizes}
use Rattle.lifecycle.specs.Lifecycle as Def
use Rattle.lifecycle.specs.Lifecycle.{tick_of}
use Rattle.lifecycle.specs.declared.parts.Part.{Part}
use Rattle.lifecycle.specs.declared.filedesc.Time.{Time}
use Rattle.lifecycle.specs.declared.filedesc.Carousel.{Carousel}
use Rattle.lifecycle.specs.declared.filedesc.Carousel.TheVariants.{Delay, Interval}
use Rattle.lifecycle.specs.declared.filedesc.Target.{Target}
use Rattle.lifecycle.specs.declared.filedesc.Target.TheVariants.{AtOnce, Within, By}
use Rattle.lifecycle.specs.declared.filedesc.Plan.{Plan}
use Rattle.lifecycle.specs.declared.filedesc.Life.{Life}
use Rattle.lifecycle.specs.declared.filedesc.Pace.{Pace}
use Rattle.lifecycle.specs.declared.filedesc.FileDesc.{FileDesc}

-- ---- what the records mean

-- a time that may be missing
abbrev pub time_of : Time → Option ℕ
time_of t = when t.known then Some t.at else None

abbrev pub carousel_of : Plan → Option Def.Carousel
carousel_of r = when r.repeats then Some (when r.from_start then Def.Carousel.interval r.interval else Def.Carousel.delay r.interval) else None

abbrev pub target_of : Plan → Def.Target
target_of r = when r.paced then (when r.by_time then Def.Target.by r.target else Def.Target.for r.target) else Def.Target.at_once

abbrev pub plan_of : Plan → Def.Plan
plan_of r = record { most = r.most; carousel = carousel_of r; target = target_of r; stop_at_once = r.stop_at_once }

-- whether it is transferring is asked apart
abbrev pub life_of : Life → Def.Life
life_of x = record {
  published = x.published;
  count = x.count;
  total = x.total;
  last_start = time_of x.last_start;
  last_end = time_of x.last_end;
  named_start = time_of x.named_start;
}

abbrev pub pace_said : Pace → Option Def.Pace
pace_said p = when p.paced then Some record { due = p.due; tick = p.tick } else None

-- what an input names
abbrev pub carousel_named : Carousel → Def.Carousel
carousel_named (Delay d) = Def.Carousel.delay d
carousel_named (Interval d) = Def.Carousel.interval d

abbrev pub target_named : Target → Def.Target
target_named AtOnce = Def.Target.at_once
target_named (Within d) = Def.Target.for d
target_named (By t) = Def.Target.by t

-- ---- what the functions make of them

abbrev pub no_time : Time
no_time = record { known = false; at = 0 }

abbrev pub time_at : ℕ → Time
time_at n = record { known = true; at = n }

-- nothing has happened yet
abbrev pub unborn_of : Time → Life
unborn_of t = record { published = false; transferring = false; count = 0; total = 0; last_start = no_time; last_end = no_time; named_start = t }

abbrev pub with_life : FileDesc → Life → FileDesc
with_life f x = record { toi = f.toi; priority = f.priority; part = f.part; sizes = f.sizes; plan = f.plan; life = x }

-- start: a carousel that has reached the maximum counts anew
unfoldable pub started_life : Plan → ℕ → Life → Life
started_life r now x = record {
  published = x.published;
  transferring = true;
  count = when r.repeats && eqb x.count r.most then 0 else x.count;
  total = x.total;
  last_start = time_at now;
  last_end = x.last_end;
  named_start = x.named_start;
}

-- done
unfoldable pub done_life : ℕ → Life → Life
done_life now x = record {
  published = x.published;
  transferring = false;
  count = min (x.count + 1) largest_count;
  total = min (x.total + 1) largest_total;
  last_start = x.last_start;
  last_end = time_at now;
  named_start = x.named_start;
}

-- publish
abbrev pub published_life : Life → Life
published_life x = record {
  published = true;
  transferring = x.transferring;
  count = x.count;
  total = x.total;
  last_start = x.last_start;
  last_end = x.last_end;
  named_start = x.named_start;
}

-- trigger
unfoldable pub reset_life : Time → Life → Life
reset_life t x = record {
  published = x.published;
  transferring = x.transferring;
  count = x.count;
  total = x.total;
  last_start = no_time;
  last_end = no_time;
  named_start = when t.known then t else x.named_start;
}

-- ---- what is asked, from the inputs

abbrev pub plain_plan : ℕ → Bool → Plan
plain_plan most stop = record { most = most; repeats = false; from_start = false; interval = 0; paced = false; by_time = false; target = 0; stop_at_once = stop }

abbrev pub repeating : Plan → Bool → ℕ → Plan
repeating r start d = record { most = r.most; repeats = true; from_start = start; interval = d; paced = r.paced; by_time = r.by_time; target = r.target; stop_at_once = r.stop_at_once }

abbrev pub aiming : Plan → Bool → ℕ → Plan
aiming r by d = record { most = r.most; repeats = r.repeats; from_start = r.from_start; interval = r.interval; paced = true; by_time = by; target = d; stop_at_once = r.stop_at_once }

unfoldable pub with_carousel : Plan → Option Carousel → Plan
with_carousel r None = r
with_carousel r (Some (Delay d)) = repeating r r.from_start d
with_carousel r (Some (Interval d)) = repeating r true d

unfoldable pub with_target : Plan → Target → Plan
with_target r AtOnce = r
with_target r (Within d) = aiming r r.by_time d
with_target r (By t) = aiming r true t

unfoldable pub plan_named : ℕ → Option Carousel → Target → Bool → Plan
plan_named most c t stop = with_target (with_carousel (plain_plan most stop) c) t

-- a new object
abbrev pub file_new : ℕ → ℕ → Part → Sizes → Plan → Time → FileDesc
file_new toi p c z r t = record { toi = toi; priority = p; part = c; sizes = z; plan = r; life = unborn_of t }

-- may a session of priority p start it
unfoldable pub startable_file : ℕ → ℕ → FileDesc → Bool
startable_file p now f = eqb f.priority p && (not f.life.transferring && Def.may_start (plan_of f.plan) now (life_of f.life))

-- ---- pacing

abbrev pub no_pace : Pace
no_pace = record { paced = false; due = 0; tick = 0 }

-- the time that a transfer has
abbrev pub duration_of : Plan → ℕ → ℕ
duration_of r now = when r.by_time then r.target - now else r.target

unfoldable pub pace_at : Plan → ℕ → ℕ → ℕ → Pace
pace_at r now l e = when r.paced then record { paced = true; due = now; tick = tick_of (duration_of r now) l e } else no_pace

unfoldable pub ticked_of : Pace → Pace
ticked_of p = when p.paced then record { paced = true; due = when ltb (p.due + p.tick) wide then p.due + p.tick else p.due; tick = p.tick } else p
