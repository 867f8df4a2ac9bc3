-- What every call keeps, and so: what holds of every desk that a run from an accepted set-up comes to.
use mathlib.Core.Path.{◌≡◌, refl, ◌∙◌}
use mathlib.Core.Bool.{true}
use mathlib.Core.List.{List, [], ◌∷◌}
use Prim.Native.Nat.{ℕ, ◌≤◌}
use native.Mathlib.Omega.{arith}
use lib.ListN.{length}
use Rattle.sizes.specs.Limits.{object_slots}
use Rattle.lifecycle.specs.Setup.{Setup, sound}
use Rattle.definition.specs.Desk.{Desk, Call, Answer, opening, objects, step, run}
use Rattle.definition.specs.TotalPromises.{Unique, Given, Admitted, Reachable, Totals}
use Rattle.lifecycle.proofs.SetupLaws.{told}
use Rattle.definition.proofs.Weights.{total_length, none_yet, bound_step}
use Rattle.definition.proofs.Numbers.{admissible, room, unique_step, unique_opening, none_held, given_once, held_from, ranged_step, ranged_opening, entries_step}
use Rattle.definition.proofs.Everywhere.{each_opening}
use Rattle.definition.proofs.Came.{came_run}
use Rattle.definition.proofs.PartLaws.{apart_step, admitted_step}
use Rattle.definition.proofs.Hands.{hands_step, priorities_step, hands_opening, priorities_opening}
use Rattle.definition.proofs.FdtSide.{fdt_step, fdt_opening}

-- ---- every call

-- the slots suffice
slots_step : (s : Setup) (d : Desk) (c : Call) → length (objects d) ≤ object_slots → length (objects (step s d c).1) ≤ object_slots
slots_step s d c u =
    let a = total_length (objects d) in
    let b = total_length (objects (step s d c).1) in
    let z = bound_step (λ o. 1) (λ x o. refl) object_slots s d c (λ named q e.
    let h = (room d named (admissible s d named q e).has_room).0 in omega arith) (omega arith) in omega arith

pub reachable_step : (s : Setup) (d : Desk) (c : Call) → sound s ≡ true → Reachable s d → Reachable s (step s d c).1
reachable_step s d c e u = record {
  unique = unique_step s d c (told s e).width u.unique;
  ranged = ranged_step s d c u.unique u.ranged;
  few_numbers = entries_step s d c u.few_numbers;
  few_objects = slots_step s d c u.few_objects;
  priorities = priorities_step s d c u.hands ∙ u.priorities;
  hands = hands_step s d c u.hands;
  admitted = admitted_step s d c (told s e).object_store u.admitted;
  apart = apart_step s d c u.apart;
  fdts = fdt_step s d c u.fdts;
}

pub reachable_opening : (s : Setup) → sound s ≡ true → Reachable s (opening s)
reachable_opening s e = record {
  unique = unique_opening s (told s e).width;
  ranged = ranged_opening s;
  few_numbers = rw none_held (omega arith);
  few_objects = rw none_yet (omega arith);
  priorities = priorities_opening s;
  hands = hands_opening s;
  admitted = each_opening (Admitted s) s;
  apart = rw none_yet tt;
  fdts = fdt_opening s;
}

reachable_from : (s : Setup) (d : Desk) (l : List Call) → sound s ≡ true → Reachable s d → Reachable s (run s d l).1
unfolding run
reachable_from s d [] e u = u
reachable_from s d (c ∷ l) e u = reachable_from s (step s d c).1 l e (reachable_step s d c e u)

-- ---- every run

pub reachable_run : (s : Setup) → sound s ≡ true → (l : List Call) → Reachable s (run s (opening s) l).1
reachable_run s e l = reachable_from s (opening s) l e (reachable_opening s e)

pub unique_run : (s : Setup) → sound s ≡ true → (l : List Call) → Unique s (run s (opening s) l).1
unique_run s e l = (reachable_run s e l).unique

pub given_once_run : (s : Setup) → sound s ≡ true → (l : List Call) (c : Call) (t : ℕ) → (step s (run s (opening s) l).1 c).0 ≡ Answer.number t → Given (run s (opening s) l).1 c t
given_once_run s e l c t h = given_once s (run s (opening s) l).1 c t (unique_run s e l) h

pub totals : Totals
totals s e = record {
  reachable = reachable_run s e;
  given_once = given_once_run s e;
  held_from = held_from s;
  all_came = came_run s;
}
