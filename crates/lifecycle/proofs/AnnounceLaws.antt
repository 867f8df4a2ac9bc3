-- Laws of the FDT side: what each function makes of it in the definition's words, and that the FDT side stays valid.
use mathlib.Core.Path.{◌≡◌, refl, sym, ◌∙◌, ap, subst}
use mathlib.Core.Bool.{Bool, true, false, not, ◌&&◌, ◌||◌, true≢false}
use Rattle.std.specs.Prelude.{Option, None, Some}
use mathlib.Core.List.{List, [], ◌∷◌, ◌++◌, map}
use Prim.Native.Nat.{ℕ, zero, suc, ◌+◌, ◌-◌, ◌≤◌, ◌<◌}
use native.Mathlib.Nat.{mod-lt}
use native.Mathlib.Numerals.{add-one}
use native.Mathlib.Omega.{arith}
use lib.Dec.{eqb, ltb, leb}
use lib.ListN.{length, get_or, take, set, length-set, replicate, length-map}
use lib.Seq.{get_or-set_same, get_or-set_other, take-suc-set, length-take-le}
use borrow.Author.Tests.{lt-ltb, le-ltb, eqb-true, eqb-false}
use Rattle.sizes.specs.Words.{when◌then◌else◌, maybe, given, collect, any, cut, shut}
use Rattle.sizes.specs.Limits.{waiting_fdts, largest_fdt_id}
use Rattle.sizes.proofs.Tests.{Tested, pass, fail, tested, and_left}
use Rattle.sizes.proofs.Lists.{map_append}
use Rattle.sizes.proofs.Arrays.{getD_shut, take_shut, length_shut}
use Rattle.lifecycle.proofs.FileDescLaws.{life_started, life_done}
use Rattle.lifecycle.specs.Parts.{shares}
use Rattle.lifecycle.specs.Lifecycle.{Carousel, started, finished, may_start}
use Rattle.lifecycle.specs.Setup.{Setup}
use Rattle.lifecycle.specs.FileDesc.{time_of, plan_of, life_of, started_life, done_life}
use Rattle.lifecycle.specs.Fdt as Def
use Rattle.lifecycle.specs.Fdt.{FdtState, fdt_plan, fdt_parts, bad_fdt_part, queued, seconds, runs_out, needs_new, takes_draft, republished, front_taken, with_current, start_current, next_fdt, fdt_done}
use Rattle.lifecycle.specs.Announce.{NextInstance, instance_of, waiting_of, state_of, next_told, no_instance, ValidAnnouncer, fdt_plan_of, needs_new_of, first_instance, queued_of, front_of, started_instance, done_instance, holding, start_of, republished_of, transferring_of, next_of, current_done, waits_of, held_of, shares_fdt_of, bad_fdt_of, new_announcer}
use Rattle.lifecycle.specs.declared.parts.Part.{Part}
use Rattle.lifecycle.specs.declared.filedesc.Plan.{Plan}
use Rattle.lifecycle.specs.declared.announce.Instance.{Instance}
use Rattle.lifecycle.specs.declared.announce.Announcer.{Announcer}

-- ---- the plan and the validity

-- the plan of every FDT, as the code has it, is the definition's, with the carousel that the flags name
pub plan_said : (s : Setup) (start : Bool) (d : ℕ) → s.carousel ≡ (when start then Carousel.interval d else Carousel.delay d) → plan_of (fdt_plan_of start d) ≡ fdt_plan s
plan_said s start d e = rw e

-- a validity of at most 10 seconds, of at most 30, above 30
module _ (d e : ℕ) where
  pub runs_short : d ≤ seconds 10 → leb d e ≡ runs_out d e
  unfolding runs_out
  runs_short h = rw (le-ltb (seconds 30) d (omega arith), le-ltb (seconds 10) d h)

  pub runs_middle : seconds 10 < d → d ≤ seconds 30 → ltb (d - seconds 1) e ≡ runs_out d e
  unfolding runs_out
  runs_middle h g = rw (le-ltb (seconds 30) d g, lt-ltb (seconds 10) d h)

  pub runs_long : seconds 30 < d → ltb (d - seconds 5) e ≡ runs_out d e
  unfolding runs_out
  runs_long h = rw (lt-ltb (seconds 30) d h)

-- where a new FDT is needed, none waits
pub needed_empty : (validity now : ℕ) (a : Announcer) → needs_new_of validity now a ≡ true → a.waiting ≡ 0
unfolding needs_new_of
needed_empty validity now a e =
    eqb-true a.waiting 0
    (and_left (eqb a.waiting 0) (not a.has_current || maybe true (λ t. runs_out validity (now - t)) (time_of a.last_publish)) e)

-- ---- words

given_if : {A : Type 0} (b : Bool) (x : A) → given (when b then Some x else None) ≡ b
given_if true x = refl
given_if false x = refl

or_assoc : (x y z : Bool) → (x || (y || z)) ≡ ((x || y) || z)
or_assoc true y z = refl
or_assoc false y z = refl

or_false : (x : Bool) → (x || false) ≡ x
or_false true = refl
or_false false = refl

-- ---- the FDT side stays valid

pub valid_opening : (id : ℕ) → id ≤ largest_fdt_id → ValidAnnouncer (new_announcer id)
valid_opening id h =
    record {
      sized = refl;
      room = omega arith;
      clear = λ i g. zeros waiting_fdts i;
      blank = λ e. refl;
      ranged = h;
      idle = λ i g. absurd (omega arith);
    }
  where
    zeros : (k i : ℕ) → get_or (replicate k no_instance) i no_instance ≡ no_instance
    zeros zero i = refl
    zeros (suc k) zero = refl
    zeros (suc k) (suc i) = zeros k i

module _ (a : Announcer) (v : ValidAnnouncer a) where
  long : a.waiting ≤ length a.queue
  long = let g = v.sized in let r = v.room in omega arith

  pub valid_queued : (now : ℕ) (c : Part) → a.waiting < waiting_fdts → ValidAnnouncer (queued_of now c a)
  unfolding queued_of
  valid_queued now c h =
      let g = v.sized in
      record {
        sized = length-set a.queue a.waiting _ ∙ v.sized;
        room = omega arith;
        clear = λ i g. get_or-set_other a.queue a.waiting i _ no_instance (λ q. absurd (omega arith)) ∙ v.clear i (omega arith);
        blank = v.blank;
        ranged = (let k = mod-lt (a.fdtid + 1) {m = largest_fdt_id + 1} (omega arith) in omega arith);
        idle = λ i k. at i k (tested (eqb i a.waiting));
      }
    where
      at : (i : ℕ) → i < a.waiting + 1 → Tested (eqb i a.waiting) → (get_or (set a.queue a.waiting (first_instance a.fdtid c)) i no_instance).life.transferring ≡ false
      at i k (pass e) =
          subst (λ j. (get_or (set a.queue a.waiting (first_instance a.fdtid c)) j no_instance).life.transferring ≡ false) (sym (eqb-true i a.waiting e))
          (ap (λ (x : Instance). x.life.transferring) (get_or-set_same a.queue a.waiting _ no_instance (let g = v.sized in omega arith)))
      at i k (fail e) =
          let n = eqb-false i a.waiting e in
          ap (λ (x : Instance). x.life.transferring) (get_or-set_other a.queue a.waiting i _ no_instance n)
          ∙ v.idle i (omega (arith, n))

  pub valid_front : ValidAnnouncer (front_of a)
  unfolding front_of
  valid_front = go (tested (eqb a.waiting 0))
    where
      go : Tested (eqb a.waiting 0) → ValidAnnouncer (front_of a)
      go (pass e) = rw e v
      go (fail e) =
          let n = eqb-false a.waiting 0 e in
          rw e (record {
            sized = length_shut no_instance a.queue 0 (let g = v.sized in omega arith) ∙ v.sized;
            room = (let g = v.room in omega arith);
            clear = λ i g. getD_shut no_instance a.queue 0 i (omega arith) ∙ v.clear (suc i) (omega arith);
            blank = λ q. absurd (true≢false q);
            ranged = v.ranged;
            idle = λ i g. ap (λ (x : Instance). x.life.transferring) (getD_shut no_instance a.queue 0 i (omega arith)) ∙ v.idle (suc i) (omega arith);
          })

  valid_holding : (i : Instance) → a.has_current ≡ true → ValidAnnouncer (holding a i)
  valid_holding i e = record {
    sized = v.sized;
    room = v.room;
    clear = v.clear;
    blank = λ q. absurd (true≢false (sym e ∙ q));
    ranged = v.ranged;
    idle = v.idle;
  }

  pub valid_start : (r : Plan) (now : ℕ) (taken : Bool) → ValidAnnouncer (start_of r now taken a).announcer
  unfolding start_of
  valid_start r now taken = go (tested (a.has_current && may_start (plan_of r) now (life_of a.current.life)))
    where
      go : Tested (a.has_current && may_start (plan_of r) now (life_of a.current.life)) → ValidAnnouncer (start_of r now taken a).announcer
      go (pass e) = rw e (valid_holding (started_instance r now a.current) (and_left a.has_current (may_start (plan_of r) now (life_of a.current.life)) e))
      go (fail e) = rw e v

  pub valid_republished : (validity now : ℕ) (draft : Option Part) → ValidAnnouncer (republished_of validity now draft a)
  unfolding republished_of
  valid_republished validity now draft = go draft (tested (needs_new_of validity now a))
    where
      go : (d : Option Part) → Tested (needs_new_of validity now a) → ValidAnnouncer (republished_of validity now d a)
      go (Some c) (pass e) = rw e (valid_queued now c (let z = needed_empty validity now a e in omega arith))
      go None (pass e) = rw e v
      go d (fail e) = rw e v

  pub valid_done : (now : ℕ) → ValidAnnouncer (current_done now a)
  unfolding current_done
  valid_done now = go (tested a.has_current)
    where
      go : Tested a.has_current → ValidAnnouncer (current_done now a)
      go (pass e) = subst (λ b. ValidAnnouncer (when b then holding a (done_instance now a.current) else a)) (sym e) (valid_holding (done_instance now a.current) e)
      go (fail e) = subst (λ b. ValidAnnouncer (when b then holding a (done_instance now a.current) else a)) (sym e) v

pub valid_next : (a : Announcer) → ValidAnnouncer a → (r : Plan) (validity now : ℕ) (draft : Option Part) → ValidAnnouncer (next_of r validity now draft a).announcer
unfolding next_of
valid_next a v r validity now draft = go (tested (transferring_of a))
  where
    go : Tested (transferring_of a) → ValidAnnouncer (next_of r validity now draft a).announcer
    go (pass e) = rw e v
    go (fail e) = rw e (valid_start (front_of (republished_of validity now draft a)) (valid_front (republished_of validity now draft a) (valid_republished a v validity now draft)) r now (needs_new_of validity now a && given draft))

-- ---- in the definition's words

-- an FDT as it starts, and as it ends
abbrev begun : Setup → ℕ → Def.Instance → Def.Instance
begun s now i = record { id = i.id; part = i.part; life = started (fdt_plan s) now i.life; transferring = true }

abbrev ended : ℕ → Def.Instance → Def.Instance
ended now i = record { id = i.id; part = i.part; life = finished now i.life; transferring = false }

-- what the definition does, case by case
module _ (f : FdtState) where
  front_none : f.waiting ≡ [] → front_taken f ≡ f
  unfolding front_taken
  front_none e = ap (λ w. elim w [ [] ↦ f | i ∷ rest ↦ record { next_id = f.next_id; last = f.last; waiting = rest; current = Some i } ]) e

  front_some : (i : Def.Instance) (rest : List Def.Instance) → f.waiting ≡ i ∷ rest
      → front_taken f ≡ record { next_id = f.next_id; last = f.last; waiting = rest; current = Some i }
  unfolding front_taken
  front_some i rest e = ap (λ w. elim w [ [] ↦ f | i ∷ rest ↦ record { next_id = f.next_id; last = f.last; waiting = rest; current = Some i } ]) e

  done_none : (now : ℕ) → f.current ≡ None → fdt_done now f ≡ f
  unfolding fdt_done
  done_none now e = rw e

  done_some : (now : ℕ) (i : Def.Instance) → f.current ≡ Some i → fdt_done now f ≡ with_current f (ended now i)
  unfolding fdt_done
  done_some now i e = rw e

  module _ (s : Setup) (now : ℕ) (taken : Bool) where
    start_none : f.current ≡ None → start_current s now taken f ≡ record { taken = taken; state = f; starts = None }
    unfolding start_current
    start_none e = rw e

    start_idle : (i : Def.Instance) → f.current ≡ Some i → may_start (fdt_plan s) now i.life ≡ false → start_current s now taken f ≡ record { taken = taken; state = f; starts = None }
    unfolding start_current
    start_idle i e q = rw (e, q)

    start_on : (i : Def.Instance) → f.current ≡ Some i → may_start (fdt_plan s) now i.life ≡ true
        → start_current s now taken f ≡ record { taken = taken; state = with_current f (begun s now i); starts = Some (begun s now i) }
    unfolding start_current
    start_on i e q = rw (e, q)

-- the state of the code, case by case
module _ (a : Announcer) where
  current_none : a.has_current ≡ false → (state_of a).current ≡ None
  unfolding state_of
  current_none e = rw e

  current_some : a.has_current ≡ true → (state_of a).current ≡ Some (instance_of a.current)
  unfolding state_of
  current_some e = rw e

  state_holding : (i : Instance) → a.has_current ≡ true → state_of (holding a i) ≡ with_current (state_of a) (instance_of i)
  unfolding state_of with_current
  state_holding i e = rw e

  busy_said : transferring_of a ≡ maybe false (λ (i : Def.Instance). i.transferring) (state_of a).current
  unfolding transferring_of state_of
  busy_said = go (tested a.has_current)
    where
      go : Tested a.has_current → transferring_of a ≡ maybe false (λ (i : Def.Instance). i.transferring) (state_of a).current
      go (pass e) = rw e
      go (fail e) = rw e

-- one FDT that starts, and one that ends
instance_started : (s : Setup) (r : Plan) (now : ℕ) (i : Instance) → plan_of r ≡ fdt_plan s → instance_of (started_instance r now i) ≡ begun s now (instance_of i)
unfolding started_life
instance_started s r now i e =
    ap (λ x. record { id = i.id; part = i.part; life = x; transferring = true }) (life_started r now i.life ∙ ap (λ p. started p now (life_of i.life)) e)

instance_done : (now : ℕ) (i : Instance) → instance_of (done_instance now i) ≡ ended now (instance_of i)
unfolding done_life
instance_done now i = ap (λ x. record { id = i.id; part = i.part; life = x; transferring = false }) (life_done now i.life)

-- done
pub state_done : (now : ℕ) (a : Announcer) → state_of (current_done now a) ≡ fdt_done now (state_of a)
unfolding current_done
state_done now a = go (tested a.has_current)
  where
    step : (b : Bool) → a.has_current ≡ b → state_of (current_done now a) ≡ state_of (when b then holding a (done_instance now a.current) else a)
    step b e = ap (λ b. state_of (when b then holding a (done_instance now a.current) else a)) e

    go : Tested a.has_current → state_of (current_done now a) ≡ fdt_done now (state_of a)
    go (fail e) = step false e ∙ sym (done_none (state_of a) now (current_none a e))
    go (pass e) =
        step true e ∙ state_holding a (done_instance now a.current) e ∙ ap (with_current (state_of a)) (instance_done now a.current)
        ∙ sym (done_some (state_of a) now (instance_of a.current) (current_some a e))

-- may the current one start
pub starts_said : (s : Setup) (r : Plan) (now : ℕ) (taken : Bool) (a : Announcer) → plan_of r ≡ fdt_plan s
    → next_told (start_of r now taken a) ≡ start_current s now taken (state_of a)
unfolding start_of next_told
starts_said s r now taken a p = go (tested a.has_current) (tested (may_start (plan_of r) now (life_of a.current.life)))
  where
    may : Bool
    may = may_start (plan_of r) now (life_of a.current.life)

    pick : Bool → NextInstance
    pick b = when b then record { taken = taken; starts = true; announcer = holding a (started_instance r now a.current) } else record { taken = taken; starts = false; announcer = a }

    stays : next_told (pick false) ≡ record { taken = taken; state = state_of a; starts = None }
    stays = refl

    starts : a.has_current ≡ true → next_told (pick true) ≡ record { taken = taken; state = with_current (state_of a) (begun s now (instance_of a.current)); starts = Some (begun s now (instance_of a.current)) }
    starts e =
        ap (λ x. record { taken = taken; state = x; starts = Some (instance_of (started_instance r now a.current)) }) (state_holding a (started_instance r now a.current) e)
        ∙ ap (λ i. record { taken = taken; state = with_current (state_of a) i; starts = Some i }) (instance_started s r now a.current p)

    both : (x y : Bool) → a.has_current ≡ x → may ≡ y → next_told (start_of r now taken a) ≡ next_told (pick (x && y))
    both x y e q = ap (λ b. next_told (pick (b && may))) e ∙ ap (λ b. next_told (pick (x && b))) q

    plan : (y : Bool) → may ≡ y → may_start (fdt_plan s) now (life_of a.current.life) ≡ y
    plan y q = sym (ap (λ p. may_start p now (life_of a.current.life)) p) ∙ q

    go : Tested a.has_current → Tested may → next_told (start_of r now taken a) ≡ start_current s now taken (state_of a)
    go (fail e) (pass q) = both false true e q ∙ stays ∙ sym (start_none (state_of a) s now taken (current_none a e))
    go (fail e) (fail q) = both false false e q ∙ stays ∙ sym (start_none (state_of a) s now taken (current_none a e))
    go (pass e) (fail q) = both true false e q ∙ stays ∙ sym (start_idle (state_of a) s now taken (instance_of a.current) (current_some a e) (plan false q))
    go (pass e) (pass q) = both true true e q ∙ starts e ∙ sym (start_on (state_of a) s now taken (instance_of a.current) (current_some a e) (plan true q))

module _ (a : Announcer) (v : ValidAnnouncer a) where
  -- as many wait as the code says
  pub waiting_length : length (state_of a).waiting ≡ a.waiting
  unfolding state_of
  waiting_length = length-map (waiting_of a) instance_of ∙ length-take-le a.waiting a.queue (long a v)

  pub waits_said : waits_of a ≡ not (eqb (length (state_of a).waiting) 0)
  waits_said = rw waiting_length

  pub needs_said : (s : Setup) (validity now : ℕ) → s.validity ≡ validity → needs_new_of validity now a ≡ needs_new s now (state_of a)
  unfolding needs_new_of needs_new state_of
  needs_said s validity now e = rw (waiting_length, e, given_if a.has_current (instance_of a.current))

  -- publish
  pub state_queued : (now : ℕ) (c : Part) → a.waiting < waiting_fdts → state_of (queued_of now c a) ≡ queued now c (state_of a)
  unfolding state_of queued_of queued
  state_queued now c h =
      let g = v.sized in
      let t : take (a.waiting + 1) (set a.queue a.waiting (first_instance a.fdtid c)) ≡ waiting_of a ++ (first_instance a.fdtid c ∷ []) = rw (add-one a.waiting) (take-suc-set a.queue a.waiting _ (omega arith)) in
      rw (t, map_append instance_of (waiting_of a) (first_instance a.fdtid c ∷ []))

  -- the front and the rest, where one waits
  split_front : 0 < a.waiting → waiting_of a ≡ get_or a.queue 0 no_instance ∷ take (a.waiting - 1) (shut no_instance a.queue 0)
  split_front h = first a.waiting a.queue h (long a v) ∙ ap (λ l. get_or a.queue 0 no_instance ∷ l) (sym (take_shut no_instance a.queue 0 a.waiting h (long a v)))
    where
      first : (n : ℕ) (l : List Instance) → 0 < n → n ≤ length l → take n l ≡ get_or l 0 no_instance ∷ cut (take n l) 0
      first zero l h g = absurd (omega arith)
      first (suc n) [] h g = absurd (omega arith)
      first (suc n) (i ∷ l) h g = refl

  -- the front of the queue, if any, becomes current
  pub state_front : state_of (front_of a) ≡ front_taken (state_of a)
  unfolding front_of state_of
  state_front = go (tested (eqb a.waiting 0))
    where
      go : Tested (eqb a.waiting 0) → state_of (front_of a) ≡ front_taken (state_of a)
      go (pass e) =
          let z = eqb-true a.waiting 0 e in
          rw e (sym (front_none (state_of a) (ap (λ n. map instance_of (take n a.queue)) z)))
      go (fail e) =
          let n = eqb-false a.waiting 0 e in
          rw e (sym (front_some (state_of a) _ _ (ap (map instance_of) (split_front (omega (arith, n))))))

  -- republish
  pub state_republished : (s : Setup) (validity now : ℕ) (draft : Option Part) → s.validity ≡ validity
      → state_of (republished_of validity now draft a) ≡ republished s now draft (state_of a)
  unfolding republished_of republished
  state_republished s validity now draft p = go draft (tested (needs_new_of validity now a))
    where
      go : (d : Option Part) → Tested (needs_new_of validity now a) → state_of (republished_of validity now d a) ≡ republished s now d (state_of a)
      go (Some c) (pass e) = rw (← needs_said s validity now p, e) (state_queued now c (let z = needed_empty validity now a e in omega arith))
      go None (pass e) = rw (← needs_said s validity now p, e)
      go d (fail e) = rw (← needs_said s validity now p, e)

  pub takes_said : (s : Setup) (validity now : ℕ) (draft : Option Part) → s.validity ≡ validity
      → (needs_new_of validity now a && given draft) ≡ takes_draft s now draft (state_of a)
  unfolding takes_draft
  takes_said s validity now draft p = rw (needs_said s validity now p)

said_still : (a : Announcer) → next_told (record { taken = false; starts = false; announcer = a }) ≡ record { taken = false; state = state_of a; starts = None }
unfolding next_told
said_still a = refl

-- the next FDT: taken, state and what starts are the definition's
pub next_said : (a : Announcer) → ValidAnnouncer a → (s : Setup) (r : Plan) (validity now : ℕ) (draft : Option Part) → s.validity ≡ validity → plan_of r ≡ fdt_plan s
    → next_told (next_of r validity now draft a) ≡ next_fdt s now draft (state_of a)
unfolding next_of next_fdt
next_said a v s r validity now draft e p = go (tested (transferring_of a))
  where
    b : Announcer
    b = republished_of validity now draft a

    go : Tested (transferring_of a) → next_told (next_of r validity now draft a) ≡ next_fdt s now draft (state_of a)
    go (pass q) = rw (← busy_said a, q) (said_still a)
    go (fail q) =
        rw (← busy_said a, q)
        (starts_said s r now (needs_new_of validity now a && given draft) (front_of b) p
        ∙ ap (λ f. start_current s now (needs_new_of validity now a && given draft) f) (state_front b (valid_republished a v validity now draft) ∙ ap front_taken (state_republished a v s validity now draft e))
        ∙ ap (λ t. start_current s now t (front_taken (republished s now draft (state_of a)))) (takes_said a v s validity now draft e))

-- the same, part by part
module _ (a : Announcer) (v : ValidAnnouncer a) (s : Setup) (r : Plan) (validity now : ℕ) (draft : Option Part) (e : s.validity ≡ validity) (p : plan_of r ≡ fdt_plan s) where
  pub next_taken : (next_of r validity now draft a).taken ≡ (next_fdt s now draft (state_of a)).taken
  unfolding next_told
  next_taken = ap (λ (x : Def.Next). x.taken) (next_said a v s r validity now draft e p)

  pub next_state : state_of (next_of r validity now draft a).announcer ≡ (next_fdt s now draft (state_of a)).state
  unfolding next_told
  next_state = ap (λ (x : Def.Next). x.state) (next_said a v s r validity now draft e p)

  -- what starts is given exactly where the code says so, and is the new current one
  pub next_starts : (when (next_of r validity now draft a).starts then Some (instance_of (next_of r validity now draft a).announcer.current) else None)
      ≡ (next_fdt s now draft (state_of a)).starts
  unfolding next_told
  next_starts = ap (λ (x : Def.Next). x.starts) (next_said a v s r validity now draft e p)

-- ---- parts that are held

module _ (c : Part) where
  parts_shared : (l : List Instance) (m : List Part) → any (shares c) (collect (λ (i : Def.Instance). Some i.part) (map instance_of l) ++ m) ≡ (any (held_of c) l || any (shares c) m)
  parts_shared [] m = refl
  parts_shared (i ∷ l) m = ap (λ b. shares c i.part || b) (parts_shared l m) ∙ or_assoc (shares c i.part) (any (held_of c) l) (any (shares c) m)

  last_shared : (b : Bool) (i : Instance) → any (shares c) (maybe [] (λ (i : Def.Instance). i.part ∷ []) (when b then Some (instance_of i) else None)) ≡ (b && held_of c i)
  last_shared false i = refl
  last_shared true i = or_false (shares c i.part)

  pub shares_said : (a : Announcer) → shares_fdt_of c a ≡ any (shares c) (fdt_parts (state_of a))
  unfolding shares_fdt_of fdt_parts state_of
  shares_said a = sym (parts_shared (waiting_of a) _ ∙ ap (λ b. any (held_of c) (waiting_of a) || b) (last_shared a.has_current a.current))

  -- refusal 5 of an FDT's part
  pub bad_said : (s : Setup) (store : ℕ) (a : Announcer) → s.fdt_store ≡ store → bad_fdt_of store c a ≡ bad_fdt_part s (state_of a) c
  unfolding bad_fdt_of bad_fdt_part
  bad_said s store a e = rw (e, shares_said a)
