-- Laws of the object's record: what its fields say in the definition's words.
use mathlib.Core.Path.{◌≡◌, refl, sym, ◌∙◌, ap}
use Rattle.std.specs.Prelude.{Option, None, Some}
use native.Mathlib.Numerals.{add-one}
use mathlib.Core.Bool.{Bool, true, false, not, ◌&&◌}
use Prim.Native.Nat.{ℕ, suc, ◌+◌, ◌-◌, ◌≤◌, ◌<◌}
use native.Mathlib.Omega.{arith}
use lib.Dec.{eqb, ltb, leb}
use borrow.Author.Tests.{eq-eqb, ne_eqb, eqb-true, eqb-false, ltb-true, ltb-false, lt-leb, le-leb, lt-ltb, le-ltb}
use Rattle.sizes.proofs.Tests.{Tested, pass, fail, tested}
use Rattle.lifecycle.specs.Lifecycle.{repeats, is_last}
use Rattle.lifecycle.specs.Lifecycle as Def
use Rattle.lifecycle.specs.FileDesc.{time_of, target_of, plan_of, life_of, pace_said, carousel_named, target_named, started_life, done_life, published_life, reset_life, plan_named, with_carousel, with_target, no_pace, duration_of, pace_at, ticked_of}
use Rattle.sizes.specs.Words.{when◌then◌else◌, maybe, over, given}
use Rattle.sizes.specs.Limits.{wide}
use Rattle.lifecycle.specs.declared.filedesc.Pace.{Pace}
use Rattle.lifecycle.specs.declared.filedesc.Time.{Time}
use Rattle.lifecycle.specs.declared.filedesc.Carousel.{Carousel}
use Rattle.lifecycle.specs.declared.filedesc.Carousel.TheVariants.{Delay, Interval}
use Rattle.lifecycle.specs.declared.filedesc.Target.{Target}
use Rattle.lifecycle.specs.declared.filedesc.Target.TheVariants.{AtOnce, Within, By}
use Rattle.lifecycle.specs.declared.filedesc.Plan.{Plan}
use Rattle.lifecycle.specs.declared.filedesc.Life.{Life}

-- the flag says whether there is a carousel
repeats_flag : (r : Plan) → repeats (plan_of r) ≡ r.repeats
repeats_flag r = elim r.repeats as (λ b. given (when b then Some (when r.from_start then Def.Carousel.interval r.interval else Def.Carousel.delay r.interval) else None) ≡ b) [ true ↦ refl | false ↦ refl ]

pub repeats_said : (r : Plan) → not (repeats (plan_of r)) ≡ not r.repeats
repeats_said r = ap not (repeats_flag r)

module _ (r : Plan) (x : Life) (e : r.repeats ≡ false) where
  pub last_none : r.most ≡ 0 → false ≡ is_last (plan_of r) (life_of x)
  unfolding is_last
  last_none h = rw (e, ne_eqb r.most (suc x.count) (λ q. absurd (omega arith)))

  pub last_said : 1 ≤ r.most → eqb (r.most - 1) x.count ≡ is_last (plan_of r) (life_of x)
  unfolding is_last
  last_said h = rw e (go (tested (eqb (r.most - 1) x.count)))
    where
      go : Tested (eqb (r.most - 1) x.count) → eqb (r.most - 1) x.count ≡ eqb r.most (suc x.count)
      go (pass q) = q ∙ sym (eq-eqb r.most (suc x.count) (let z = eqb-true (r.most - 1) x.count q in omega arith))
      go (fail q) = q ∙ sym (ne_eqb r.most (suc x.count) (λ z. eqb-false (r.most - 1) x.count q (omega arith)))

-- at or after a named start: not before it
pub start_said : (t : Time) (now : ℕ) → maybe true (λ f. leb f now) (time_of t) ≡ not (maybe false (λ f. ltb now f) (time_of t))
start_said t now = go (tested t.known) (tested (ltb now t.at))
  where
    go : Tested t.known → Tested (ltb now t.at) → maybe true (λ f. leb f now) (time_of t) ≡ not (maybe false (λ f. ltb now f) (time_of t))
    go (fail e) q = rw e
    go (pass e) (pass q) = rw (e, q) (lt-leb t.at now (ltb-true now t.at q))
    go (pass e) (fail q) = rw (e, q) (le-leb t.at now (ltb-false now t.at q))

module _ (p : Pace) where
  pub ticked_none : p.paced ≡ false → p ≡ ticked_of p
  unfolding ticked_of
  ticked_none e = sym (ap (λ b. when b then record { paced = true; due = when ltb (p.due + p.tick) wide then p.due + p.tick else p.due; tick = p.tick } else p) e)

  module _ (e : p.paced ≡ true) where
    ticked_some : ticked_of p ≡ record { paced = true; due = when ltb (p.due + p.tick) wide then p.due + p.tick else p.due; tick = p.tick }
    unfolding ticked_of
    ticked_some = ap (λ b. when b then record { paced = true; due = when ltb (p.due + p.tick) wide then p.due + p.tick else p.due; tick = p.tick } else p) e

    pub ticked_past : wide ≤ p.due + p.tick → p ≡ ticked_of p
    ticked_past h = sym (ticked_some ∙ ap (λ b. record { paced = true; due = when b then p.due + p.tick else p.due; tick = p.tick }) (le-ltb (p.due + p.tick) wide h) ∙ sym (λ i. record { paced = e i; due = p.due; tick = p.tick }))

    pub ticked_on : p.due + p.tick < wide → record { paced = p.paced; due = p.due + p.tick; tick = p.tick } ≡ ticked_of p
    ticked_on h = sym (ticked_some ∙ ap (λ b. record { paced = true; due = when b then p.due + p.tick else p.due; tick = p.tick }) (lt-ltb (p.due + p.tick) wide h) ∙ sym (λ i. record { paced = e i; due = p.due + p.tick; tick = p.tick }))

-- ---- what each function is in the definition's words

and_comm : (a b : Bool) → (a && b) ≡ (b && a)
and_comm true true = refl
and_comm true false = refl
and_comm false true = refl
and_comm false false = refl

pub life_started : (r : Plan) (now : ℕ) (x : Life) → life_of (started_life r now x) ≡ Def.started (plan_of r) now (life_of x)
unfolding started_life Def.started
life_started r now x =
    ap (λ b. record { published = x.published; count = when b then 0 else x.count; total = x.total; last_start = Some now; last_end = time_of x.last_end; named_start = time_of x.named_start })
    (and_comm r.repeats (eqb x.count r.most) ∙ ap (λ b. eqb x.count r.most && b) (sym (repeats_flag r)))

pub life_done : (now : ℕ) (x : Life) → life_of (done_life now x) ≡ Def.finished now (life_of x)
unfolding done_life Def.finished
life_done now x = rw (add-one x.count, add-one x.total)

pub life_published : (x : Life) → life_of (published_life x) ≡ Def.announced (life_of x)
unfolding Def.announced
life_published x = refl

pub life_reset : (t : Time) (x : Life) → life_of (reset_life t x) ≡ Def.triggered (time_of t) (life_of x)
unfolding reset_life Def.triggered
life_reset t x = ap (λ f. record { published = x.published; count = x.count; total = x.total; last_start = None; last_end = None; named_start = f }) (start t.known)
  where
    start : (b : Bool) → time_of (when b then record { known = b; at = t.at } else x.named_start) ≡ maybe (time_of x.named_start) Some (when b then Some t.at else None)
    start true = refl
    start false = refl

-- what is asked is what the inputs name
pub plan_as_named : (most : ℕ) (c : Option Carousel) (t : Target) (stop : Bool)
    → plan_of (plan_named most c t stop) ≡ record { most = most; carousel = over carousel_named c; target = target_named t; stop_at_once = stop }
unfolding plan_named with_carousel with_target
plan_as_named most None AtOnce stop = refl
plan_as_named most None (Within d) stop = refl
plan_as_named most None (By d) stop = refl
plan_as_named most (Some (Delay i)) AtOnce stop = refl
plan_as_named most (Some (Delay i)) (Within d) stop = refl
plan_as_named most (Some (Delay i)) (By d) stop = refl
plan_as_named most (Some (Interval i)) AtOnce stop = refl
plan_as_named most (Some (Interval i)) (Within d) stop = refl
plan_as_named most (Some (Interval i)) (By d) stop = refl

-- the pace is the definition's
pub pace_view : (r : Plan) (now l e : ℕ) → pace_said (pace_at r now l e) ≡ Def.pace_of (target_of r) now l e
unfolding pace_at
pace_view r now l e = go (tested r.paced) (tested r.by_time)
  where
    go : Tested r.paced → Tested r.by_time
        → pace_said (when r.paced then record { paced = true; due = now; tick = Def.tick_of (duration_of r now) l e } else no_pace) ≡ Def.pace_of (target_of r) now l e
    go (fail p) b = rw p
    go (pass p) (pass b) = rw (p, b)
    go (pass p) (fail b) = rw (p, b)

pub ticked_view : (p : Pace) → pace_said (ticked_of p) ≡ maybe None (λ c. Some (Def.paced c)) (pace_said p)
unfolding ticked_of Def.paced
ticked_view p = go (tested p.paced)
  where
    go : Tested p.paced
        → pace_said (when p.paced then record { paced = true; due = when ltb (p.due + p.tick) wide then p.due + p.tick else p.due; tick = p.tick } else p) ≡ maybe None (λ c. Some (Def.paced c)) (pace_said p)
    go (fail e) = rw e
    go (pass e) = rw e
