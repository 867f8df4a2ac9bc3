-- However many rounds are allowed, a file session's run comes to the same: two are enough.
use mathlib.Core.Path.{◌≡◌, refl}
use mathlib.Core.Bool.{Bool, true, false, true≢false}
use Rattle.std.specs.Prelude.{Option, None, Some}
use mathlib.Core.List.{List}
use Prim.Native.Nat.{ℕ, suc, ◌≤◌}
use Rattle.sizes.specs.Words.{when◌then◌else◌, find, drop_first, Each}
use Rattle.sizes.proofs.Lists.{each_find, each_at}
use Rattle.lifecycle.specs.Lifecycle.{too_early}
use Rattle.lifecycle.specs.Setup.{Setup}
use Rattle.lifecycle.proofs.SetupLaws.{told}
use Rattle.definition.specs.Encoder.{Symbol}
use Rattle.definition.specs.Session.{Object, Hand, Session, startable, begin, put_back, Turn, idle, sent, file_run, Round, over, again, in_hand_or_next, round_with, round, last_round}
use Rattle.definition.specs.Desk.{opening, run}
use Rattle.definition.specs.Promises.{rounds, RoundsEnough, goes_again}
use Rattle.definition.proofs.Rounds.{no_third}
use Rattle.definition.proofs.Everywhere.{InHand, Sized, back_all, sized_opening, sized_run}
use Rattle.definition.proofs.Runs.{reads}

-- a round that is the last comes to the same, whatever would come after
ended : (r : Round) (k : List Object → Turn) → goes_again r ≡ false → ◌≡◌ {A = Turn} (elim r [ over t ↦ t | again q ↦ k q ]) (last_round r)
ended (over t) k e = refl
ended (again q) k e = absurd (true≢false e)

module _ (s : Setup) (p now : ℕ) (b : Bool) (w : 1 ≤ s.window) where
  -- with nothing in hand, a round is the last
  taken_ends : (q : List Object) → Each Sized q → goes_again (round s p now b q None) ≡ false
  unfolding round in_hand_or_next
  taken_ends q u = go (find (startable p now) q) refl
    where
      next : Option Object → Option Hand × List Object
      next x = elim x [ None ↦ (None, q) | Some o ↦ (Some (begin now o), drop_first (startable p now) q) ]

      go : (x : Option Object) → find (startable p now) q ≡ x → goes_again (elim (next x).0 [ None ↦ over (idle (next x).1 None) | Some h ↦ round_with s now b (next x).1 h ]) ≡ false
      go None e = refl
      go (Some o) e = let z = (each_find Sized (startable p now) q o e u).0 in no_third s now b (drop_first (startable p now) q) o w z.0 z.1

  -- the objects of a round that is not the last have E and B
  abbrev SizedAgain : Round → Type 0
  SizedAgain (over t) = Unit {0}
  SizedAgain (again q) = Each Sized q

  sized_again : (q : List Object) (h : Hand) → Each Sized q → Sized h.object → SizedAgain (round s p now b q (Some h))
  unfolding round in_hand_or_next round_with
  sized_again q h u v = go b (too_early now h.pace) (reads s h).0
    where
      go : (b early : Bool) (y : Option Symbol)
          → SizedAgain (when b then over (idle q (Some h)) else when early then over (idle q (Some h)) else elim y [ None ↦ again (put_back now h q) | Some y ↦ over (sent q h (reads s h).1 y) ])
      go true early y = tt
      go false true y = tt
      go false false None = back_all Sized (λ x o v. v) now h q u v
      go false false (Some y) = tt

  -- however many rounds are allowed, a run comes to the same
  pub rounds_enough : (n : ℕ) (q : List Object) (h : Option Hand) → Each Sized q → InHand Sized h → rounds (suc (suc n)) s p now b q h ≡ file_run s p now b q h
  unfolding rounds file_run
  rounds_enough n q None u v = ended (round s p now b q None) (λ q'. rounds (suc n) s p now b q' None) (taken_ends q u)
  rounds_enough n q (Some h) u v = go (round s p now b q (Some h)) (sized_again q h u v)
    where
      go : (r : Round) → SizedAgain r → ◌≡◌ {A = Turn} (elim r [ over t ↦ t | again q' ↦ rounds (suc n) s p now b q' None ]) (elim r [ over t ↦ t | again q' ↦ last_round (round s p now b q' None) ])
      go (over t) z = refl
      go (again q') z = ended (round s p now b q' None) (λ q''. rounds n s p now b q'' None) (taken_ends q' z)

-- so does every run of a file session, after any calls
pub desk_rounds_enough : RoundsEnough
desk_rounds_enough s h l i x n now blocked e =
    let u = sized_run s (opening s) l (sized_opening s) in
    rounds_enough s x.priority now blocked (told s h).window.0 n (run s (opening s) l).1.queue x.hand u.waiting
    (each_at (λ (x : Session). InHand Sized x.hand) (run s (opening s) l).1.sessions i x e u.serving)
