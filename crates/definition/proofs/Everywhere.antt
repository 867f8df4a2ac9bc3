-- What holds of each object as it is admitted, and does not read its life, holds of every object at every moment. Used for sound E and B, and so: a run's rounds are enough.
use mathlib.Core.Path.{◌≡◌, refl, subst, sym}
use mathlib.Core.Bool.{Bool, true, false, not, ◌&&◌}
use Rattle.std.specs.Prelude.{Option, None, Some}
use mathlib.Core.List.{List, [], ◌∷◌, ◌++◌, map}
use Prim.Native.Nat.{ℕ, ◌≤◌}
use lib.Dec.{eqb}
use lib.ListN.{length}
use Rattle.sizes.specs.Words.{when◌then◌else◌, maybe, given, keep, at}
use Rattle.sizes.specs.declared.refusal.Refusal.TheVariants as Because
use Rattle.sizes.specs.declared.refusal.Refusal.{Refusal}
use Rattle.lifecycle.proofs.SetupLaws.{blocks_told}
use Rattle.lifecycle.specs.Lifecycle.{Life, announced, expired, finished, started}
use Rattle.lifecycle.specs.Setup.{Setup}
use Rattle.definition.specs.FdtSession.{Fdt, FdtTurn, fdt_published, fdt_run}
use Rattle.definition.specs.Session.{Object, Hand, Session, living, startable, begin, put_back, Turn, sent, file_run}
use Rattle.definition.specs.Desk.{Desk, Request, Call, Answer, opening, in_hands, objects, moved, numbered, with_fdt, in_hand, marked, marked_hand, all_published, reserved, toi_for, own_sizes, made, admitted, reserve_refusal, release_refusal, add_refusal, publish_refusal, draft_refusal, draft_of, unless, ran, step, run, unloosed, fdt_queued, fdt_ran, Touch, touched_waiting, touched_hand, touched}
use Rattle.sizes.specs.Words.{Each}
use Rattle.sizes.proofs.Lists.{each_append, each_drop_first, each_map, each_set, each_find, each_at, each_left, each_right}
use Rattle.definition.proofs.Weights.{none_yet}
use Rattle.definition.proofs.Numbers.{blocks_fit}
use Rattle.definition.proofs.Touches.{touched_kept, touched_hand_kept, each_touched}
use Rattle.definition.proofs.Runs.{run_goes}

-- what a session holds
abbrev pub InHand : (Object → Type 0) → Option Hand → Type 0
InHand P None = Unit {0}
InHand P (Some h) = P h.object

pub record Everywhere (P : Object → Type 0) (d : Desk) : Type 0 where
  pub waiting : Each P d.queue
  pub serving : Each (λ (x : Session). InHand P x.hand) d.sessions

module _ (P : Object → Type 0) (stable : (x : Life) (o : Object) → P o → P (living x o)) where
  abbrev InTurn : Turn → Type 0
  InTurn r = Each P r.queue × InHand P r.hand

  pub back_all : (now : ℕ) (h : Hand) (q : List Object) → Each P q → P h.object → Each P (put_back now h q)
  unfolding put_back
  back_all now h q u v =
      let o = living (finished now h.object.life) h.object in
      elim (h.listed && not (expired o.plan o.life)) as (λ t. Each P (when t then q ++ (o ∷ []) else q))
      [ true ↦ each_append P q (o ∷ []) u (stable (finished now h.object.life) h.object v, tt) | false ↦ u ]

  file_run_all : (s : Setup) (r now : ℕ) (b : Bool) (q : List Object) (h : Option Hand) → Each P q → InHand P h → InTurn (file_run s r now b q h)
  unfolding sent begin
  file_run_all s r now b q h u v = run_goes s r now b (λ q h. Each P q × InHand P h) InTurn (record {
    rests = λ q h i. i;
    sends = λ q h y i. i;
    ends = λ q h i. (back_all now h q i.0 i.1, tt);
    takes = λ q o e i. (each_drop_first P (startable r now) q i.0, stable (started o.plan now o.life) o (each_find P (startable r now) q o e i.0).0);
  }) q h (u, v)

  in_hand_all : (g : Hand → Hand) → ((h : Hand) → P h.object → P (g h).object) → (x : Session) → InHand P x.hand → InHand P (in_hand g x).hand
  unfolding in_hand
  in_hand_all g k x u = go x.hand u
    where
      go : (h : Option Hand) → InHand P h → InHand P (maybe None (λ y. Some (g y)) h)
      go None v = tt
      go (Some h) v = k h v

  marked_all : (d : Desk) → Everywhere P d → Everywhere P (all_published d)
  unfolding all_published moved marked marked_hand
  marked_all d u = record {
    waiting = each_map P marked (λ o v. stable (announced o.life) o v) d.queue u.waiting;
    serving = each_map (λ (x : Session). InHand P x.hand) (in_hand marked_hand) (in_hand_all marked_hand one) d.sessions u.serving;
  }
    where
      one : (h : Hand) → P h.object → P (marked_hand h).object
      one h v = elim h.listed as (λ b. P (when b then record { object = marked h.object; listed = true; encoder = h.encoder; pace = h.pace } else h).object)
          [ true ↦ stable (announced h.object.life) h.object v | false ↦ v ]

  fdt_all : (d : Desk) (f : Fdt) → Everywhere P d → Everywhere P (with_fdt d f)
  unfolding with_fdt
  fdt_all d f u = record { waiting = u.waiting; serving = u.serving }

  reserved_all : (s : Setup) (d : Desk) → Everywhere P d → Everywhere P (reserved s d)
  unfolding reserved numbered
  reserved_all s d u = record { waiting = u.waiting; serving = u.serving }

  maybe_all : (s : Setup) (d : Desk) (named : Option ℕ) → Everywhere P d → Everywhere P (when given named then d else reserved s d)
  maybe_all s d None u = reserved_all s d u
  maybe_all s d (Some t) u = u

  admitted_all : (s : Setup) (t : ℕ) (q : Request) (d : Desk) → P (made s t q) → Everywhere P d → Everywhere P (admitted s t q d)
  unfolding admitted unloosed
  admitted_all s t q d v u = record { waiting = each_append P d.queue (made s t q ∷ []) u.waiting (v, tt); serving = u.serving }

  touched_all : (t : ℕ) (x : Touch) (h : Hand) → P h.object → P (touched_hand t x h).object
  touched_all t x h v = let k = touched_hand_kept t x h in subst P (sym k.object) (stable k.life h.object v)

  -- every call keeps it, if what an add admits has it
  pub everywhere_step : (s : Setup) (d : Desk) (c : Call)
      → ((named : Option ℕ) (q : Request) → c ≡ Call.add named q → add_refusal s d named q ≡ None → P (made s (toi_for d named) q))
      → Everywhere P d → Everywhere P (step s d c).1
  unfolding step numbered moved touched ran unloosed fdt_ran fdt_queued
  everywhere_step s d Call.reserve k u = go (reserve_refusal d)
    where
      go : (x : Option Refusal) → Everywhere P (unless x d (Answer.number d.next, reserved s d)).1
      go None = reserved_all s d u
      go (Some n) = u
  everywhere_step s d (Call.release t) k u = go (release_refusal d t)
    where
      go : (x : Option Refusal) → Everywhere P (unless x d (Answer.done, numbered d d.next (keep (λ v. not (eqb v t)) d.loose))).1
      go None = record { waiting = u.waiting; serving = u.serving }
      go (Some n) = u
  everywhere_step s d (Call.add named q) k u = go (add_refusal s d named q) refl
    where
      go : (x : Option Refusal) → add_refusal s d named q ≡ x → Everywhere P (unless x d (Answer.number (toi_for d named), admitted s (toi_for d named) q (when given named then d else reserved s d))).1
      go None e = admitted_all s (toi_for d named) q (when given named then d else reserved s d) (k named q refl e) (maybe_all s d named u)
      go (Some n) e = u
  everywhere_step s d (Call.touch t x) k u = record {
    waiting = each_touched (touched_waiting t x) (touched_kept t x) P stable d.queue u.waiting;
    serving = each_map (λ (x : Session). InHand P x.hand) (in_hand (touched_hand t x)) (in_hand_all (touched_hand t x) (touched_all t x)) d.sessions u.serving;
  }
  everywhere_step s d (Call.ask q) k u = u
  everywhere_step s d Call.complete k u = record { waiting = u.waiting; serving = u.serving }
  everywhere_step s d (Call.publish now c) k u = go (publish_refusal s d.fdt c)
    where
      go : (x : Option Refusal) → Everywhere P (unless x d (Answer.done, all_published (with_fdt d (fdt_published now c d.fdt)))).1
      go None = marked_all (with_fdt d (fdt_published now c d.fdt)) (fdt_all d (fdt_published now c d.fdt) u)
      go (Some n) = u
  everywhere_step s d (Call.run_fdt now draft) k u = go (draft_refusal s d.fdt draft) (fdt_run s now (draft_of draft) d.fdt)
    where
      go : (x : Option Refusal) (r : FdtTurn) → Everywhere P (unless x d (Answer.fdt_output r.taken r.packet, when r.taken then all_published (with_fdt d r.fdt) else with_fdt d r.fdt)).1
      go None r = elim r.taken as (λ t. Everywhere P (when t then all_published (with_fdt d r.fdt) else with_fdt d r.fdt))
          [ true ↦ marked_all (with_fdt d r.fdt) (fdt_all d r.fdt u) | false ↦ fdt_all d r.fdt u ]
      go (Some n) r = u
  everywhere_step s d (Call.run_file i now) k u = go (at d.sessions i) refl
    where
      go : (x : Option Session) → at d.sessions i ≡ x → Everywhere P (maybe (Answer.refused Because.NoSession, d) (ran s now i d) x).1
      go None e = u
      go (Some x) e =
          let z = file_run_all s x.priority now (not (eqb (length d.fdt.state.waiting) 0)) d.queue x.hand u.waiting (each_at (λ (x : Session). InHand P x.hand) d.sessions i x e u.serving) in
          record { waiting = z.0; serving = each_set (λ (x : Session). InHand P x.hand) d.sessions i _ u.serving z.1 }

-- the same over the list of all objects
module _ (P : Object → Type 0) where
  each_hands : (l : List Session) → Each (λ (x : Session). InHand P x.hand) l → Each P (in_hands l)
  unfolding in_hands
  each_hands [] u = tt
  each_hands (x ∷ l) u = one x.hand u.0 (each_hands l u.1)
    where
      one : (h : Option Hand) → InHand P h → Each P (in_hands l) → Each P (maybe (in_hands l) (λ b. b ∷ in_hands l) (maybe None (λ (h : Hand). Some h.object) h))
      one None v r = r
      one (Some h) v r = (v, r)

  hands_each : (l : List Session) → Each P (in_hands l) → Each (λ (x : Session). InHand P x.hand) l
  unfolding in_hands
  hands_each [] u = tt
  hands_each (x ∷ l) u = let r = one x.hand u in (r.0, hands_each l r.1)
    where
      one : (h : Option Hand) → Each P (maybe (in_hands l) (λ b. b ∷ in_hands l) (maybe None (λ (h : Hand). Some h.object) h)) → InHand P h × Each P (in_hands l)
      one None v = (tt, v)
      one (Some h) v = v

  pub each_everywhere : (d : Desk) → Each P (objects d) → Everywhere P d
  unfolding objects
  each_everywhere d u = record {
    waiting = each_left P d.queue (in_hands d.sessions) u;
    serving = hands_each d.sessions (each_right P d.queue (in_hands d.sessions) u);
  }

  pub everywhere_each : (d : Desk) → Everywhere P d → Each P (objects d)
  unfolding objects
  everywhere_each d u = each_append P d.queue (in_hands d.sessions) u.waiting (each_hands d.sessions u.serving)

  pub each_step : ((x : Life) (o : Object) → P o → P (living x o)) → (s : Setup) (d : Desk) (c : Call)
      → ((named : Option ℕ) (q : Request) → c ≡ Call.add named q → add_refusal s d named q ≡ None → P (made s (toi_for d named) q))
      → Each P (objects d) → Each P (objects (step s d c).1)
  each_step stable s d c k u = everywhere_each (step s d c).1 (everywhere_step P stable s d c k (each_everywhere d u))

  pub each_opening : (s : Setup) → Each P (objects (opening s))
  each_opening s = rw none_yet tt

-- an object whose E and B are at least 1
abbrev pub Sized : Object → Type 0
Sized o = (1 ≤ o.sizes.e) × (1 ≤ o.sizes.b)

-- what an add admits has sound E and B
added_sized : (s : Setup) (d : Desk) (named : Option ℕ) (q : Request) → add_refusal s d named q ≡ None → Sized (made s (toi_for d named) q)
unfolding made
added_sized s d named q h = let r = (blocks_told (own_sizes s q) q.part.size (blocks_fit s d named q h)).sizes in (r.symbol.0, r.block.0)

-- so every object has, at every moment
pub sized_step : (s : Setup) (d : Desk) (c : Call) → Everywhere Sized d → Everywhere Sized (step s d c).1
sized_step s d c u = everywhere_step Sized (λ x o v. v) s d c (λ named q e h. added_sized s d named q h) u

pub sized_run : (s : Setup) (d : Desk) (l : List Call) → Everywhere Sized d → Everywhere Sized (run s d l).1
unfolding run
sized_run s d [] u = u
sized_run s d (c ∷ l) u = sized_run s (step s d c).1 l (sized_step s d c u)

pub sized_opening : (s : Setup) → Everywhere Sized (opening s)
unfolding opening
sized_opening s = record { waiting = tt; serving = empty s.priorities }
  where
    empty : (l : List ℕ) → Each (λ (x : Session). InHand Sized x.hand) (map (λ p. record { priority = p; hand = None }) l)
    empty [] = tt
    empty (p ∷ l) = (tt, empty l)
