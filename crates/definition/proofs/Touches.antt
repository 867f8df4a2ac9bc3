-- What a touch leaves: each touch has a row in three laws here, and every other proof is about all touches at once.
use mathlib.Core.Path.{◌≡◌, refl, ap}
use mathlib.Core.Bool.{Bool, true, false, not}
use Rattle.std.specs.Prelude.{Option, None, Some}
use mathlib.Core.List.{List, [], ◌∷◌, map}
use Prim.Native.Nat.{ℕ}
use Rattle.sizes.specs.Words.{when◌then◌else◌, maybe, over, keep, collect, Each}
use Rattle.lifecycle.specs.Lifecycle.{Life, triggered}
use Rattle.definition.specs.Session.{Object, Hand, Session, living}
use Rattle.definition.specs.Desk.{Touch, is, in_hand, waiting_after, hand_after, touched_waiting, touched_hand}
use Rattle.definition.proofs.Refused.{either}
use Rattle.definition.specs.Apart.{mine}
use Rattle.definition.proofs.View.{retag, retag_held, seen}

-- an object that waits is gone, or has another life
pub data Waiting (o : Object) : Option Object → Type 0 where
  gone : Waiting o None
  lives : (l : Life) → Waiting o (Some (living l o))

waiting_kept : (x : Touch) (o : Object) → Waiting o (waiting_after x o)
waiting_kept Touch.remove o = gone
waiting_kept (Touch.trigger f) o = lives (triggered f o.life)

pub touched_kept : (t : ℕ) (x : Touch) (o : Object) → Waiting o (touched_waiting t x o)
unfolding touched_waiting
touched_kept t x o = either (Waiting o) (is t o) (waiting_after x o) (Some o) (waiting_kept x o) (lives o.life)

-- what is in hand has another life at most, and the same encoder
pub record HandKept (h k : Hand) : Type 0 where
  pub life : Life
  pub object : k.object ≡ living life h.object
  pub encoder : k.encoder ≡ h.encoder

hand_kept : (x : Touch) (h : Hand) → HandKept h (hand_after x h)
hand_kept Touch.remove h = record { life = h.object.life; object = refl; encoder = refl }
hand_kept (Touch.trigger f) h = record { life = h.object.life; object = refl; encoder = refl }

pub touched_hand_kept : (t : ℕ) (x : Touch) (h : Hand) → HandKept h (touched_hand t x h)
unfolding touched_hand
touched_hand_kept t x h = either (HandKept h) (is t h.object) (hand_after x h) h (hand_kept x h) (record { life = h.object.life; object = refl; encoder = refl })

-- a touch does not look at the number
pub renumbered_after : (f : ℕ → ℕ) (x : Touch) → ((o : Object) → waiting_after x (retag f o) ≡ over (retag f) (waiting_after x o)) × ((h : Hand) → hand_after x (retag_held f h) ≡ retag_held f (hand_after x h))
renumbered_after f Touch.remove = (λ o. refl, λ h. refl)
renumbered_after f (Touch.trigger u) = (λ o. refl, λ h. refl)

-- ---- over a list

module _ {A : Type 0} (g : A → Option A) where
  -- where each stays, the list does
  pub collect_still : (l : List A) → Each (λ a. g a ≡ Some a) l → collect g l ≡ l
  collect_still [] u = refl
  collect_still (a ∷ l) u = rw u.0 (ap (λ r. a ∷ r) (collect_still l u.1))

module _ (g : Object → Option Object) (k : (o : Object) → Waiting o (g o)) where
  -- what a change of lives keeps, all that wait keep
  pub each_touched : (P : Object → Type 0) → ((l : Life) (o : Object) → P o → P (living l o)) → (q : List Object) → Each P q → Each P (collect g q)
  each_touched P stable [] u = tt
  each_touched P stable (o ∷ q) u = go (g o) (k o) (each_touched P stable q u.1)
    where
      go : (y : Option Object) → Waiting o y → Each P (collect g q) → Each P (maybe (collect g q) (λ b. b ∷ collect g q) y)
      go y gone r = r
      go y (lives l) r = (stable l o u.0, r)

  module _ (p : ℕ) (f : ℕ → ℕ) where
    -- what is touched, as the priority sees it
    pub seen_touched : (g' : Object → Option Object) (q : List Object) → Each (λ o. mine p o ≡ true → g' (retag f o) ≡ over (retag f) (g o)) q → seen p f (collect g q) ≡ collect g' (seen p f q)
    seen_touched g' [] u = refl
    seen_touched g' (o ∷ q) u = go (mine p o) refl (g o) (k o) u.0 (seen_touched g' q u.1)
      where
        go : (b : Bool) → mine p o ≡ b → (y : Option Object) → Waiting o y → (mine p o ≡ true → g' (retag f o) ≡ over (retag f) y) → seen p f (collect g q) ≡ collect g' (seen p f q)
            → seen p f (maybe (collect g q) (λ z. z ∷ collect g q) y) ≡ collect g' (when b then retag f o ∷ seen p f q else seen p f q)
        go true e y gone c r = rw (c e) r
        go true e y (lives l) c r = rw (c e) (rw e (ap (λ z. retag f (living l o) ∷ z) r))
        go false e y gone c r = r
        go false e y (lives l) c r = rw e r

    -- where none of the priority's is touched, nothing shows
    pub seen_still : (q : List Object) → Each (λ o. mine p o ≡ true → g o ≡ Some o) q → seen p f (collect g q) ≡ seen p f q
    seen_still [] u = refl
    seen_still (o ∷ q) u = go (mine p o) refl (g o) (k o) u.0 (seen_still q u.1)
      where
        go : (b : Bool) → mine p o ≡ b → (y : Option Object) → Waiting o y → (mine p o ≡ true → y ≡ Some o) → seen p f (collect g q) ≡ seen p f q
            → seen p f (maybe (collect g q) (λ z. z ∷ collect g q) y) ≡ (when b then retag f o ∷ seen p f q else seen p f q)
        go true e y w c r = rw (c e) (rw e (ap (λ z. retag f o ∷ z) r))
        go false e y gone c r = r
        go false e y (lives l) c r = rw e r

-- ---- each touch by itself, for the layer that keeps the list

-- removed: the others stay
pub removed_waiting : (t : ℕ) (q : List Object) → collect (touched_waiting t Touch.remove) q ≡ keep (λ o. not (is t o)) q
unfolding touched_waiting
removed_waiting t [] = refl
removed_waiting t (o ∷ q) = elim (is t o) as (λ b. maybe (collect (touched_waiting t Touch.remove) q) (λ z. z ∷ collect (touched_waiting t Touch.remove) q) (when b then None else Some o) ≡ (when not b then o ∷ keep (λ o. not (is t o)) q else keep (λ o. not (is t o)) q))
    [ true ↦ removed_waiting t q | false ↦ ap (λ r. o ∷ r) (removed_waiting t q) ]

-- triggered: one that waits, and none in transfer
unfoldable pub prompted : ℕ → Option ℕ → Object → Object
prompted t f o = when is t o then living (triggered f o.life) o else o

pub prompted_waiting : (t : ℕ) (f : Option ℕ) (q : List Object) → collect (touched_waiting t (Touch.trigger f)) q ≡ map (prompted t f) q
unfolding touched_waiting prompted
prompted_waiting t f [] = refl
prompted_waiting t f (o ∷ q) = elim (is t o) as (λ b. maybe (collect (touched_waiting t (Touch.trigger f)) q) (λ z. z ∷ collect (touched_waiting t (Touch.trigger f)) q) (when b then Some (living (triggered f o.life) o) else Some o) ≡ (when b then living (triggered f o.life) o else o) ∷ map (prompted t f) q)
    [ true ↦ ap (λ r. living (triggered f o.life) o ∷ r) (prompted_waiting t f q) | false ↦ ap (λ r. o ∷ r) (prompted_waiting t f q) ]

pub prompted_hands : (t : ℕ) (f : Option ℕ) (l : List Session) → map (in_hand (touched_hand t (Touch.trigger f))) l ≡ l
unfolding in_hand touched_hand
prompted_hands t f [] = refl
prompted_hands t f (x ∷ l) = λ i. record { priority = x.priority; hand = same x.hand i } ∷ prompted_hands t f l i
  where
    same : (h : Option Hand) → maybe None (λ h. Some (when is t h.object then h else h)) h ≡ h
    same None = refl
    same (Some h) = elim (is t h.object) as (λ b. Some (when b then h else h) ≡ Some h) [ true ↦ refl | false ↦ refl ]
