-- Lifecycle of what is sent: when it may start, what a start and an end note, pacing (src/sender/filedesc.rs).
use Rattle.std.specs.Prelude.{Bool, true, false, not, ◌&&◌, ◌||◌, ℕ, suc, ◌+◌, ◌-◌, ◌/◌, min, max, eqb, ltb, leb}
use Rattle.std.specs.Prelude.{Option, None, Some}
use Rattle.sizes.specs.Words.{when◌then◌else◌, maybe, ceil, given}
use Rattle.sizes.specs.Limits.{wide, largest_count, largest_total}

-- a carousel: sent again a delay after its last end, or an interval after its last start
pub data Carousel : Type 0 where
  delay : ℕ → Carousel
  interval : ℕ → Carousel

-- sent as fast as can be, within a duration, or by a time
pub data Target : Type 0 where
  at_once : Target
  for : ℕ → Target
  by : ℕ → Target

-- what is asked of an object
pub record Plan : Type 0 where
  pub most : ℕ  -- the maximum of transfers
  pub carousel : Option Carousel
  pub target : Target
  pub stop_at_once : Bool  -- may be stopped before its first transfer ends

-- what has happened to it
pub record Life : Type 0 where
  pub published : Bool
  pub count : ℕ  -- transfers of this round of the carousel
  pub total : ℕ  -- transfers in all
  pub last_start : Option ℕ
  pub last_end : Option ℕ
  pub named_start : Option ℕ  -- not to start before this time

-- nothing has happened yet
abbrev pub unborn : Bool → Option ℕ → Life
unborn p f = record { published = p; count = 0; total = 0; last_start = None; last_end = None; named_start = f }

-- is there a carousel
abbrev pub repeats : Plan → Bool
repeats p = given p.carousel

-- start: a carousel that has reached the maximum counts anew
unfoldable pub started : Plan → ℕ → Life → Life
started p now x = record {
  published = x.published;
  count = when eqb x.count p.most && repeats p then 0 else x.count;
  total = x.total;
  last_start = Some now;
  last_end = x.last_end;
  named_start = x.named_start;
}

-- done: the counts go up by one and stop at the largest number
unfoldable pub finished : ℕ → Life → Life
finished now x = record {
  published = x.published;
  count = min (suc x.count) largest_count;
  total = min (suc x.total) largest_total;
  last_start = x.last_start;
  last_end = Some now;
  named_start = x.named_start;
}

-- publish
unfoldable pub announced : Life → Life
announced x = record {
  published = true;
  count = x.count;
  total = x.total;
  last_start = x.last_start;
  last_end = x.last_end;
  named_start = x.named_start;
}

-- trigger: both last times cleared, the named start set if given; the counts stay
unfoldable pub triggered : Option ℕ → Life → Life
triggered f x = record {
  published = x.published;
  count = x.count;
  total = x.total;
  last_start = None;
  last_end = None;
  named_start = maybe x.named_start Some f;
}

-- expired: maximum not above count, and no carousel
unfoldable pub expired : Plan → Life → Bool
expired p x = leb p.most x.count && not (repeats p)

-- closable: no carousel, and this transfer is the last
unfoldable pub is_last : Plan → Life → Bool
is_last p x = not (repeats p) && eqb p.most (suc x.count)

-- has more than the interval elapsed, from the last end or the last start; a clock behind counts as elapsed 0
abbrev pub elapsed_over : Carousel → ℕ → ℕ → ℕ → Bool
elapsed_over (delay d) now start end = ltb d (now - end)
elapsed_over (interval d) now start end = ltb d (now - start)

-- may a new round begin, by the carousel, the last end and the last start: where one of them is missing, it may; else if more than the interval has elapsed
abbrev pub due_after : Option Carousel → ℕ → Option ℕ → Option ℕ → Bool
due_after None now end start = true
due_after (Some r) now None start = true
due_after (Some r) now (Some end) None = true
due_after (Some r) now (Some end) (Some start) = elapsed_over r now start end

unfoldable pub round_due : Plan → ℕ → Life → Bool
round_due p now x = due_after p.carousel now x.last_end x.last_start

-- may start: published, not before the named start, and the maximum is above the count or a new round may begin (priority and transferring are asked elsewhere)
unfoldable pub may_start : Plan → ℕ → Life → Bool
may_start p now x = x.published && maybe true (λ f. leb f now) x.named_start && (ltb x.count p.most || round_due p now x)

-- may be stopped: allowed at once, or sent before
unfoldable pub may_stop : Plan → Life → Bool
may_stop p x = p.stop_at_once || ltb 0 x.total

-- the due time of the next packet, and the tick
pub record Pace : Type 0 where
  pub due : ℕ
  pub tick : ℕ

-- a duration over the packets of l bytes, of which there is at least 1, rounded down
unfoldable pub tick_of : ℕ → ℕ → ℕ → ℕ
tick_of d l e = d / max 1 (ceil l e)

-- the pace of a transfer that starts now, of length l and symbol length e: the first packet is due at once; a target time that is past leaves no duration
abbrev pub pace_of : Target → ℕ → ℕ → ℕ → Option Pace
pace_of at_once now l e = None
pace_of (for d) now l e = Some record { due = now; tick = tick_of d l e }
pace_of (by t) now l e = Some record { due = now; tick = tick_of (t - now) l e }

-- each packet moves the due time by one tick, unless the sum passes 64 bits
unfoldable pub paced : Pace → Pace
paced x = record { due = when ltb (x.due + x.tick) wide then x.due + x.tick else x.due; tick = x.tick }

-- is it before the due time
unfoldable pub too_early : ℕ → Option Pace → Bool
too_early now = maybe false (λ x. ltb now x.due)
