-- The desk as one priority sees it: the others' objects gone, each object number put through f.
use mathlib.Core.Path.{◌≡◌, refl, sym, ◌∙◌, ap}
use mathlib.Core.Bool.{Bool, true, false, not, ◌&&◌, true≢false}
use Rattle.std.specs.Prelude.{Option, None, Some}
use mathlib.Core.List.{List, [], ◌∷◌, ◌++◌, map}
use Prim.Native.Nat.{ℕ}
use lib.Dec.{eqb}
use Rattle.sizes.specs.Words.{when◌then◌else◌, find, drop_first}
use Rattle.sizes.specs.Words.{over as perhaps}
use Rattle.definition.specs.Encoder.{Symbol}
use Rattle.lifecycle.specs.Lifecycle.{too_early, expired, finished, may_start}
use Rattle.lifecycle.specs.Setup.{Setup}
use Rattle.definition.specs.Session.{Object, Hand, Session, living, startable, begin, put_back, forced, Turn, idle, sent, file_run, Round, over, again, in_hand_or_next, round_with, round, last_round}
use Rattle.definition.specs.Apart.{mine, packet_by}
use Rattle.sizes.specs.Words.{Each}
use Rattle.sizes.proofs.Tests.{and_left}
use Rattle.sizes.proofs.Lists.{found}
use Rattle.definition.proofs.Runs.{reads}

-- the object under another number
abbrev pub retag : (ℕ → ℕ) → Object → Object
retag f o = record { toi = f o.toi; priority = o.priority; part = o.part; sizes = o.sizes; plan = o.plan; life = o.life }

abbrev pub retag_held : (ℕ → ℕ) → Hand → Hand
retag_held f h = record { object = retag f h.object; listed = h.listed; encoder = h.encoder; pace = h.pace }

-- what a session sends has the priority
abbrev pub Sends : ℕ → Option Hand → Type 0
Sends p None = Unit {0}
Sends p (Some h) = mine p h.object ≡ true

module _ (p : ℕ) (f : ℕ → ℕ) where
  -- the priority's objects of a list
  abbrev pub seen : List Object → List Object
  seen [] = []
  seen (o ∷ q) = when mine p o then retag f o ∷ seen q else seen q

  -- a session: another priority's is empty
  abbrev pub see : Session → Session
  see x = record { priority = x.priority; hand = when eqb x.priority p then perhaps (retag_held f) x.hand else None }

  pub seen_append : (a b : List Object) → seen (a ++ b) ≡ seen a ++ seen b
  seen_append [] b = refl
  seen_append (o ∷ a) b = elim (mine p o) as (λ t. (when t then retag f o ∷ seen (a ++ b) else seen (a ++ b)) ≡ (when t then retag f o ∷ seen a else seen a) ++ seen b)
      [ true ↦ ap (λ l. retag f o ∷ l) (seen_append a b) | false ↦ seen_append a b ]

  pub seen_mine : (o : Object) → mine p o ≡ true → seen (o ∷ []) ≡ retag f o ∷ []
  seen_mine o e = rw e

  pub seen_other : (o : Object) → mine p o ≡ false → seen (o ∷ []) ≡ []
  seen_other o e = rw e

  -- a test that the view repeats, and that only the priority's objects pass
  abbrev pub Alike : (Object → Bool) → (Object → Bool) → Object → Type 0
  Alike ok ok' o = (mine p o ≡ true → ok' (retag f o) ≡ ok o) × (ok o ≡ true → mine p o ≡ true)

  pub seen_find : (ok ok' : Object → Bool) (q : List Object) → Each (Alike ok ok') q → find ok' (seen q) ≡ perhaps (retag f) (find ok q)
  seen_find ok ok' [] u = refl
  seen_find ok ok' (o ∷ q) u = (elim (mine p o) as (λ t. mine p o ≡ t → find ok' (when t then retag f o ∷ seen q else seen q) ≡ perhaps (retag f) (when ok o then Some o else find ok q)) [
    | true ↦ λ e. rw (u.0.0 e) (elim (ok o) as (λ b. (when b then Some (retag f o) else find ok' (seen q)) ≡ perhaps (retag f) (when b then Some o else find ok q))
        [ true ↦ refl | false ↦ seen_find ok ok' q u.1 ])
    | false ↦ λ e. (elim (ok o) as (λ b. ok o ≡ b → find ok' (seen q) ≡ perhaps (retag f) (when b then Some o else find ok q))
        [ true ↦ λ k. absurd (true≢false (sym (u.0.1 k) ∙ e)) | false ↦ λ k. seen_find ok ok' q u.1 ]) refl
  ]) refl

  pub seen_drop : (ok ok' : Object → Bool) (q : List Object) → Each (Alike ok ok') q → drop_first ok' (seen q) ≡ seen (drop_first ok q)
  seen_drop ok ok' [] u = refl
  seen_drop ok ok' (o ∷ q) u = (elim (mine p o) as (λ t. mine p o ≡ t → drop_first ok' (when t then retag f o ∷ seen q else seen q) ≡ seen (when ok o then q else o ∷ drop_first ok q)) [
    | true ↦ λ e. rw (u.0.0 e) ((elim (ok o) as (λ b. (when b then seen q else retag f o ∷ drop_first ok' (seen q)) ≡ seen (when b then q else o ∷ drop_first ok q))
        [ true ↦ refl | false ↦ rw e (ap (λ l. retag f o ∷ l) (seen_drop ok ok' q u.1)) ]))
    | false ↦ λ e. (elim (ok o) as (λ b. ok o ≡ b → drop_first ok' (seen q) ≡ seen (when b then q else o ∷ drop_first ok q))
        [ true ↦ λ k. absurd (true≢false (sym (u.0.1 k) ∙ e)) | false ↦ λ k. rw e (seen_drop ok ok' q u.1) ]) refl
  ]) refl

  -- a change that keeps numbers and priorities
  pub seen_map : (g g' : Object → Object) (q : List Object)
      → Each (λ o. (mine p (g o) ≡ mine p o) × (mine p o ≡ true → retag f (g o) ≡ g' (retag f o))) q → seen (map g q) ≡ map g' (seen q)
  seen_map g g' [] u = refl
  seen_map g g' (o ∷ q) u = rw u.0.0 ((elim (mine p o) as (λ t. mine p o ≡ t → (when t then retag f (g o) ∷ seen (map g q) else seen (map g q)) ≡ map g' (when t then retag f o ∷ seen q else seen q))
      [ true ↦ λ e. (λ i. u.0.1 e i ∷ seen_map g g' q u.1 i) | false ↦ λ e. seen_map g g' q u.1 ]) refl)

  -- a turn as it is seen
  abbrev pub see_turn : Turn → Turn
  see_turn r = record { packet = perhaps (packet_by f) r.packet; queue = seen r.queue; hand = perhaps (retag_held f) r.hand }

  startable_alike : (now : ℕ) (q : List Object) → Each (Alike (startable p now) (startable p now)) q
  unfolding startable
  startable_alike now [] = tt
  startable_alike now (o ∷ q) = ((λ e. refl, λ e. and_left (eqb o.priority p) (may_start o.plan now o.life) e), startable_alike now q)

  back_seen : (now : ℕ) (h : Hand) (q : List Object) → mine p h.object ≡ true → put_back now (retag_held f h) (seen q) ≡ seen (put_back now h q)
  unfolding put_back
  back_seen now h q e =
      let o = living (finished now h.object.life) h.object in
      elim (h.listed && not (expired o.plan o.life)) as (λ t. (when t then seen q ++ (retag f o ∷ []) else seen q) ≡ seen (when t then q ++ (o ∷ []) else q))
      [ true ↦ sym (seen_append q (o ∷ []) ∙ ap (λ l. seen q ++ l) (seen_mine o e)) | false ↦ refl ]

  abbrev see_round : Round → Round
  see_round (over t) = over (see_turn t)
  see_round (again q) = again (seen q)

  module _ (s : Setup) (now : ℕ) (b : Bool) where
    with_seen : (q : List Object) (h : Hand) → mine p h.object ≡ true → round_with s now b (seen q) (retag_held f h) ≡ see_round (round_with s now b q h)
    unfolding round_with sent forced
    with_seen q h e = go b (too_early now h.pace) (reads s h).0
      where
        go : (b early : Bool) (y : Option Symbol)
            → (when b then over (idle (seen q) (Some (retag_held f h))) else when early then over (idle (seen q) (Some (retag_held f h)))
            else elim y [ None ↦ again (put_back now (retag_held f h) (seen q)) | Some y ↦ over (sent (seen q) (retag_held f h) (reads s h).1 y) ])
            ≡ see_round (when b then over (idle q (Some h)) else when early then over (idle q (Some h)) else elim y [ None ↦ again (put_back now h q) | Some y ↦ over (sent q h (reads s h).1 y) ])
        go true early y = refl
        go false true y = refl
        go false false None = ap again (back_seen now h q e)
        go false false (Some y) = refl

    round_seen : (q : List Object) (h : Option Hand) → Sends p h → round s p now b (seen q) (perhaps (retag_held f) h) ≡ see_round (round s p now b q h)
    unfolding round in_hand_or_next begin startable
    round_seen q (Some h) u = with_seen q h u
    round_seen q None u =
        (λ i. goes (seen q) (seen_drop (startable p now) (startable p now) q (startable_alike now q) i) (seen_find (startable p now) (startable p now) q (startable_alike now q) i)) ∙ go (find (startable p now) q) refl
      where
        next : List Object → List Object → Option Object → Option Hand × List Object
        next q rest x = elim x [ None ↦ (None, q) | Some o ↦ (Some (begin now o), rest) ]

        goes : List Object → List Object → Option Object → Round
        goes q rest x = elim (next q rest x).0 [ None ↦ over (idle (next q rest x).1 None) | Some h ↦ round_with s now b (next q rest x).1 h ]

        rest : List Object
        rest = drop_first (startable p now) q

        go : (x : Option Object) → find (startable p now) q ≡ x → goes (seen q) (seen rest) (perhaps (retag f) x) ≡ see_round (goes q rest x)
        go None e = refl
        go (Some o) e = with_seen rest (begin now o) (and_left (eqb o.priority p) (may_start o.plan now o.life) (found (startable p now) q o e))

    last_seen : (r : Round) → last_round (see_round r) ≡ see_turn (last_round r)
    last_seen (over t) = refl
    last_seen (again q) = refl

  -- a file session's run, as its priority sees it
  pub file_run_seen : (s : Setup) (now : ℕ) (b : Bool) (q : List Object) (h : Option Hand) → Sends p h
      → file_run s p now b (seen q) (perhaps (retag_held f) h) ≡ see_turn (file_run s p now b q h)
  unfolding file_run
  file_run_seen s now b q None u = ap last_round (round_seen s now b q None u) ∙ last_seen s now b (round s p now b q None)
  file_run_seen s now b q (Some h) u = ap second (round_seen s now b q (Some h) u) ∙ go (round s p now b q (Some h))
    where
      second : Round → Turn
      second r = elim r [ over t ↦ t | again q' ↦ last_round (round s p now b q' None) ]

      go : (r : Round) → second (see_round r) ≡ see_turn (second r)
      go (over t) = refl
      go (again q') = ap last_round (round_seen s now b q' None tt) ∙ last_seen s now b (round s p now b q' None)
