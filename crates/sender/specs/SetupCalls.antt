-- Set-up as the code has it: what it says, the sender that it opens, and what is promised of it.
use Rattle.std.specs.Prelude.{◌≡◌, Bool, true, false, List, [], ◌∷◌, map, ℕ, ltb, leb, get_or, take, replicate}
use Rattle.std.specs.Prelude.{Option, None, Some, Result, Ok, Err, IfOk}
use Rattle.sizes.specs.declared.refusal.Refusal.{Refusal}
use Rattle.sizes.specs.declared.refusal.Refusal.TheVariants as Because
use Rattle.sizes.specs.Words.{when◌then◌else◌}
use Rattle.sizes.specs.Limits.{most_sessions}
use Rattle.sizes.specs.Allocator as Alloc
use Rattle.lifecycle.specs.Setup.{sound}
use Rattle.lifecycle.specs.Setup.{Setup as DefSetup}
use Rattle.lifecycle.specs.FdtCalls.{opening_fdt}
use Rattle.lifecycle.specs.FileDesc.{carousel_named}
use Rattle.lifecycle.specs.declared.filedesc.Carousel.{Carousel}
use Rattle.lifecycle.specs.declared.filedesc.Carousel.TheVariants as CarouselV
use Rattle.lifecycle.specs.declared.fdt.Settings.{Settings}
use Rattle.definition.specs.Desk as Def
use Rattle.sender.specs.SessionCalls.{idle_of}
use Rattle.sender.specs.FdtSessionCalls.{fdt_idle_of}
use Rattle.sender.specs.SenderCalls.{desk_of, Agrees, ValidSender}
use Rattle.sender.specs.declared.sender.Sender.{Sender}
use Rattle.sender.specs.declared.setup.Setup.{Setup}

-- ---- what it says

-- as many priorities as it names sessions; where these are too many, what they are does not matter
abbrev pub priorities_said : Setup → List ℕ
priorities_said z = when leb z.count most_sessions then take z.count z.priorities else replicate z.count 0

abbrev pub setup_said : Setup → DefSetup
setup_said z = record {
  priorities = priorities_said z;
  window = z.window;
  sizes = z.sizes;
  object_store = z.object_store;
  fdt_store = z.fdt_store;
  width = z.width;
  first = z.first_toi;
  first_id = z.first_fdt_id;
  carousel = carousel_named z.carousel;
  validity = z.validity;
}

-- ---- the sender that it opens

abbrev pub is_interval : Carousel → Bool
is_interval (CarouselV.Delay d) = false
is_interval (CarouselV.Interval d) = true

abbrev pub interval_in : Carousel → ℕ
interval_in (CarouselV.Delay d) = d
interval_in (CarouselV.Interval d) = d

abbrev pub settings_of : Setup → Settings
settings_of z = record {
  object_store = z.object_store;
  fdt_store = z.fdt_store;
  sizes = z.sizes;
  validity = z.validity;
  from_start = is_interval z.carousel;
  interval = interval_in z.carousel;
}

-- the priority of session i; zero past the sessions in use
unfoldable pub priority_at : List ℕ → ℕ → ℕ → ℕ
priority_at l n i = when ltb i n then get_or l i 0 else 0

unfoldable pub opening_sender : Setup → Sender
opening_sender z = record {
  fdt = opening_fdt (settings_of z) (Alloc.new_allocator z.width z.first_toi) z.first_fdt_id;
  window = z.window;
  count = z.count;
  sessions = map idle_of (map (priority_at z.priorities z.count) (0 ∷ 1 ∷ 2 ∷ 3 ∷ []));
  fdt_session = fdt_idle_of;
}

unfoldable pub opened_of : Setup → Result Sender Refusal
opened_of z = when sound (setup_said z) then Ok (opening_sender z) else Err Because.SetUp

-- what it says: done, with the desk that is opened; or refused, with none
abbrev pub opening_said : Result Sender Refusal → Def.Answer × Option Def.Desk
opening_said (Ok s) = (Def.Answer.done, Some (desk_of s))
opening_said (Err why) = (Def.Answer.refused why, None)

-- ---- what is promised: refusal 1 exactly where a number is out of its range, and the definition's opening desk where not

pub record Opens (z : Setup) (r : Result Sender Refusal) : Type 0 where
  pub exact : r ≡ opened_of z
  pub means : Def.set_up (setup_said z) ≡ opening_said r
  pub agrees : IfOk r (Agrees (setup_said z))
  pub valid : IfOk r ValidSender
