-- Every object is one that an add of the run admitted: it has the number, priority, part, sizes and plan that it got there.
use mathlib.Core.Path.{◌≡◌, refl, sym, subst}
use Rattle.std.specs.Prelude.{Option, None, Some}
use mathlib.Core.List.{List, [], ◌∷◌}
use Prim.Native.Nat.{ℕ}
use Rattle.sizes.specs.Words.{when◌then◌else◌, maybe, Each}
use Rattle.sizes.proofs.Lists.{each_imp}
use Rattle.lifecycle.specs.Lifecycle.{Life}
use Rattle.lifecycle.specs.Setup.{Setup}
use Rattle.definition.specs.Session.{Object, living}
use Rattle.definition.specs.Desk.{Desk, Request, Call, opening, objects, toi_for, made, add_refusal, step, run}
use Rattle.definition.specs.Apart.{adding, accepted}
use Rattle.definition.specs.TotalPromises.{Among, this, later, grown, came}
use Rattle.definition.proofs.Refused.{either}
use Rattle.definition.proofs.Everywhere.{each_step, each_opening}

among_stable : (j : List Object) (x : Life) (o : Object) → Among j o → Among j (living x o)
among_stable [] x o u = elim u [ ]
among_stable (a ∷ j) x o (this e) = this e
among_stable (a ∷ j) x o (later u) = later (among_stable j x o u)

among_grown : (s : Setup) (d : Desk) (c : Call) (j : List Object) (o : Object) → Among j o → Among (grown s d c j) o
among_grown s d c j o u = go (adding c)
  where
    go : (x : Option (Option ℕ × Request)) → Among (maybe j (λ y. when accepted (step s d c).0 then made s (toi_for d y.0) y.1 ∷ j else j) x) o
    go None = u
    go (Some y) = either (λ l. Among l o) (accepted (step s d c).0) (made s (toi_for d y.0) y.1 ∷ j) j (later u) u

among_new : (s : Setup) (d : Desk) (j : List Object) (named : Option ℕ) (q : Request) → add_refusal s d named q ≡ None → Among (grown s d (Call.add named q) j) (made s (toi_for d named) q)
unfolding step
among_new s d j named q h = rw h (this refl)

came_step : (s : Setup) (d : Desk) (c : Call) (j : List Object) → Each (Among j) (objects d) → Each (Among (grown s d c j)) (objects (step s d c).1)
came_step s d c j u = each_step (Among (grown s d c j)) (among_stable (grown s d c j)) s d c
    (λ named q e h. subst (λ k. Among (grown s d k j) (made s (toi_for d named) q)) (sym e) (among_new s d j named q h))
    (each_imp (Among j) (Among (grown s d c j)) (among_grown s d c j) (objects d) u)

came_from : (s : Setup) (d : Desk) (l : List Call) (j : List Object) → Each (Among j) (objects d) → Each (Among (came s d l j)) (objects (run s d l).1)
unfolding run came
came_from s d [] j u = u
came_from s d (c ∷ l) j u = came_from s (step s d c).1 l (grown s d c j) (came_step s d c j u)

pub came_run : (s : Setup) (l : List Call) → Each (Among (came s (opening s) l [])) (objects (run s (opening s) l).1)
came_run s l = came_from s (opening s) l [] (each_opening (Among []) s)
