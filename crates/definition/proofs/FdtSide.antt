-- The FDT side: what waits and what is current keep apart and inside the store, and what is in hand is the current one.
use mathlib.Core.Path.{◌≡◌, refl, sym, ◌∙◌, ap, subst}
use mathlib.Core.Bool.{Bool, true, false, ◌&&◌, ◌||◌}
use Rattle.std.specs.Prelude.{Option, None, Some}
use mathlib.Core.List.{List, [], ◌∷◌}
use Prim.Native.Nat.{ℕ, suc, ◌+◌, ◌≤◌}
use native.Mathlib.Omega.{arith}
use lib.Dec.{eqb, ltb, leb}
use borrow.Author.Tests.{leb-false, ltb-false, le-ltb, eqb-false, ne_eqb}
use lib.ListN.{length, length-append}
use Rattle.sizes.specs.Words.{when◌then◌else◌, maybe, given, collect, any, at, first_of, one_if, Each}
use Rattle.sizes.specs.declared.refusal.Refusal.TheVariants as Because
use Rattle.sizes.specs.Limits.{waiting_fdts}
use Rattle.sizes.proofs.Tests.{or_left, or_right, Tested, pass, fail, tested}
use Rattle.sizes.proofs.Lists.{each_append, first_none}
use Rattle.lifecycle.specs.Parts.{part_end, shares, past_store}
use Rattle.lifecycle.specs.declared.parts.Part.{Part}
use Rattle.lifecycle.specs.Lifecycle.{started, finished, may_start, unborn}
use Rattle.lifecycle.specs.Setup.{Setup, bad_blocks}
use Rattle.lifecycle.specs.Fdt.{Instance, FdtState, Next, fdt_plan, fdt_parts, bad_fdt_part, queued, needs_new, takes_draft, republished, front_taken, with_current, start_current, next_fdt, fdt_done}
use Rattle.definition.specs.FdtSession.{Fdt, FdtHand, FdtTurn, fdt_published, fdt_run, fdt_sent, fdt_begun}
use Rattle.definition.specs.Session.{Session}
use Rattle.definition.specs.Desk.{Desk, Call, Answer, opening, moved, numbered, with_fdt, all_published, reserved, admitted, reserve_refusal, release_refusal, add_refusal, publish_refusal, draft_refusal, draft_of, ran, fdt_ran, step, touched}
use Rattle.definition.specs.TotalPromises.{IfGiven, FdtPart, Matched, nothing, resting, sending, FdtReachable}
use Rattle.definition.proofs.Refused.{either, kept}
use Rattle.definition.proofs.Weights.{total, total_append}
use Rattle.definition.proofs.PartLaws.{cover, apart_cover, cover_apart, one_cover}
use Rattle.definition.proofs.Hands.{read_window}
use Rattle.definition.proofs.Runs.{fdt_run_goes}

abbrev Idle : Instance → Type 0
Idle i = i.transferring ≡ false

-- ---- a sum over the parts

module _ (w : Part → ℕ) where
  abbrev waiting_total : List Instance → ℕ
  waiting_total = total (λ (i : Instance). w i.part)

  abbrev current_weight : Option Instance → ℕ
  current_weight = maybe 0 (λ (i : Instance). w i.part)

  parts_total : (f : FdtState) → total w (fdt_parts f) ≡ waiting_total f.waiting + current_weight f.current
  unfolding fdt_parts
  parts_total f =
      let a = total_append w (collect (λ (i : Instance). Some i.part) f.waiting) (maybe [] (λ (i : Instance). i.part ∷ []) f.current) in
      let b = all f.waiting in
      let c = one f.current in omega arith
    where
      all : (l : List Instance) → total w (collect (λ (i : Instance). Some i.part) l) ≡ waiting_total l
      all [] = refl
      all (i ∷ l) = ap (λ n. w i.part + n) (all l)

      one : (x : Option Instance) → total w (maybe [] (λ (i : Instance). i.part ∷ []) x) ≡ current_weight x
      one None = refl
      one (Some i) = omega arith

  queued_total : (now : ℕ) (c : Part) (f : FdtState) → total w (fdt_parts (queued now c f)) ≡ total w (fdt_parts f) + w c
  unfolding queued
  queued_total now c f =
      let a = parts_total (queued now c f) in
      let b = parts_total f in
      let i : Instance = record { id = f.next_id; part = c; life = unborn true None; transferring = false } in
      let d = total_append (λ (i : Instance). w i.part) f.waiting (i ∷ []) in omega arith

-- ---- the steps of a run

queued_length : (now : ℕ) (c : Part) (f : FdtState) → length (queued now c f).waiting ≡ suc (length f.waiting)
unfolding queued
queued_length now c f = simp length-append (omega arith)

queued_idle : (now : ℕ) (c : Part) (f : FdtState) → Each Idle f.waiting → Each Idle (queued now c f).waiting
unfolding queued
queued_idle now c f u = each_append Idle f.waiting _ u (refl, tt)

queued_current : (now : ℕ) (c : Part) (f : FdtState) → (queued now c f).current ≡ f.current
unfolding queued
queued_current now c f = refl

-- what taking the front comes to
data Front (f : FdtState) : FdtState → Type 0 where
  no_front : f.waiting ≡ [] → Front f f
  a_front : (i : Instance) (rest : List Instance) → f.waiting ≡ i ∷ rest → Front f (record { next_id = f.next_id; last = f.last; waiting = rest; current = Some i })

front_cases : (f : FdtState) → Front f (front_taken f)
unfolding front_taken
front_cases f = go f.waiting refl
  where
    go : (x : List Instance) → f.waiting ≡ x → Front f (elim x [ [] ↦ f | i ∷ rest ↦ record { next_id = f.next_id; last = f.last; waiting = rest; current = Some i } ])
    go [] e = no_front e
    go (i ∷ rest) e = a_front i rest e

-- nothing in hand, and nothing transferring
idle_current : (x : Option Instance) → Matched x None → maybe false (λ (i : Instance). i.transferring) x ≡ false
idle_current None nothing = refl
idle_current (Some i) (resting e) = e

rehand : (x : Option Instance) (h k : FdtHand) → k.id ≡ h.id → k.part ≡ h.part → Matched x (Some h) → Matched x (Some k)
rehand None h k a b m = elim m [ ]
rehand (Some i) h k a b (sending t d e) = sending t (a ∙ d) (b ∙ e)

-- the sum stays within b with what the draft may still bring
module _ (s : Setup) (now : ℕ) (w : Part → ℕ) (b : ℕ) where
  abbrev due : Option Part → Bool → ℕ
  due draft t = when t then 0 else maybe 0 w draft

  record Going (draft : Option Part) (t : Bool) (f : Fdt) : Type 0 where
    few : length f.state.waiting ≤ waiting_fdts
    idle : Each Idle f.state.waiting
    matched : Matched f.state.current f.hand
    window : IfGiven (λ (h : FdtHand). length h.encoder.window ≤ s.window) f.hand
    weight : total w (fdt_parts f.state) + due draft t ≤ b

  -- republish
  record Asked (draft : Option Part) (t t' : Bool) (f g : FdtState) : Type 0 where
    longer : length g.waiting ≤ suc (length f.waiting)
    idle : Each Idle f.waiting → Each Idle g.waiting
    same : g.current ≡ f.current
    weight : total w (fdt_parts g) + due draft t' ≤ total w (fdt_parts f) + due draft t

  asked : (draft : Option Part) (t n : Bool) (f : FdtState)
      → Asked draft t (t || (n && given (when t then None else draft))) f (when n then maybe f (λ c. queued now c f) (when t then None else draft) else f)
  asked draft true true f = record { longer = omega arith; idle = λ u. u; same = refl; weight = omega arith }
  asked draft true false f = record { longer = omega arith; idle = λ u. u; same = refl; weight = omega arith }
  asked draft false false f = record { longer = omega arith; idle = λ u. u; same = refl; weight = omega arith }
  asked None false true f = record { longer = omega arith; idle = λ u. u; same = refl; weight = omega arith }
  asked (Some c) false true f = record {
    longer = (let h = queued_length now c f in omega arith);
    idle = queued_idle now c f;
    same = queued_current now c f;
    weight = (let h = queued_total w now c f in omega arith);
  }

  -- then the front
  record Resting (draft : Option Part) (t : Bool) (f : FdtState) : Type 0 where
    few : length f.waiting ≤ waiting_fdts
    idle : Each Idle f.waiting
    matched : Matched f.current None
    weight : total w (fdt_parts f) + due draft t ≤ b

  fronted : (draft : Option Part) (t t' : Bool) (f g h : FdtState) → Asked draft t t' f g → Front g h → Resting draft t f → Resting draft t' h
  fronted draft t t' f g h a (no_front e) r = record {
    few = (let z = ap length e in omega arith);
    idle = a.idle r.idle;
    matched = subst (λ x. Matched x None) (sym a.same) r.matched;
    weight = (let x = a.weight in let y = r.weight in omega arith);
  }
  fronted draft t t' f g h a (a_front i rest e) r =
      let u = subst (Each Idle) e (a.idle r.idle) in
      record {
        few = (let z = ap length e in let x = a.longer in let y = r.few in omega arith);
        idle = u.1;
        matched = resting u.0;
        weight =
            (let x = a.weight in
            let y = r.weight in
            let p = parts_total w g in
            let q = parts_total w (record { next_id = g.next_id; last = g.last; waiting = rest; current = Some i }) in
            let z = ap (waiting_total w) e in omega arith);
      }

  -- then the start
  abbrev transfer : Instance → Instance
  transfer i = record { id = i.id; part = i.part; life = started (fdt_plan s) now i.life; transferring = true }

  begun : (draft : Option Part) (t x : Bool) (f : FdtState) → Resting draft t f → Going draft t (record { state = (start_current s now x f).state; hand = fdt_begun (start_current s now x f).starts })
  unfolding start_current with_current
  begun draft t x f r = go f.current refl
    where
      Held : Next → Type 0
      Held n = Going draft t (record { state = n.state; hand = fdt_begun n.starts })

      stays : Held (record { taken = x; state = f; starts = None })
      stays = record { few = r.few; idle = r.idle; matched = r.matched; window = tt; weight = r.weight }

      starts : (i : Instance) → f.current ≡ Some i → Held (record { taken = x; state = with_current f (transfer i); starts = Some (transfer i) })
      starts i e = record {
        few = r.few;
        idle = r.idle;
        matched = sending refl refl refl;
        window = omega arith;
        weight =
            (let a = parts_total w f in
            let c = parts_total w (with_current f (transfer i)) in
            let d = ap (current_weight w) e in
            let k = r.weight in omega arith);
      }

      go : (y : Option Instance) → f.current ≡ y
          → Held (maybe (record { taken = x; state = f; starts = None }) (λ (i : Instance). when may_start (fdt_plan s) now i.life then record { taken = x; state = with_current f (transfer i); starts = Some (transfer i) } else record { taken = x; state = f; starts = None }) y)
      go None e = stays
      go (Some i) e = either Held (may_start (fdt_plan s) now i.life) _ _ (starts i e) stays

  -- asking for the next FDT
  abbrev offered : Option Part → Bool → Option Part
  offered draft t = when t then None else draft

  start_taken : (x : Bool) (f : FdtState) → (start_current s now x f).taken ≡ x
  unfolding start_current
  start_taken x f = go f.current
    where
      go : (y : Option Instance)
          → (maybe {B = Next} (record { taken = x; state = f; starts = None }) (λ (i : Instance). when may_start (fdt_plan s) now i.life then record { taken = x; state = with_current f (transfer i); starts = Some (transfer i) } else record { taken = x; state = f; starts = None }) y).taken ≡ x
      go None = refl
      go (Some i) = either (λ (n : Next). n.taken ≡ x) (may_start (fdt_plan s) now i.life) _ _ refl refl

  next_going : (draft : Option Part) (t : Bool) (f : FdtState) → Resting draft t f
      → (let n = next_fdt s now (offered draft t) f in Going draft (t || n.taken) (record { state = n.state; hand = fdt_begun n.starts }))
  unfolding next_fdt republished takes_draft
  next_going draft t f r = rw (idle_current f.current r.matched, start_taken) (
      begun draft (t || (needs_new s now f && given (offered draft t))) (needs_new s now f && given (offered draft t)) (front_taken (republished s now (offered draft t) f))
      (fronted draft t (t || (needs_new s now f && given (offered draft t))) f (republished s now (offered draft t) f) (front_taken (republished s now (offered draft t) f))
      (asked draft t (needs_new s now f) f) (front_cases (republished s now (offered draft t) f)) r))

  -- the end of a transfer
  done_resting : (draft : Option Part) (t : Bool) (f : Fdt) → Going draft t f → Resting draft t (fdt_done now f.state)
  unfolding fdt_done with_current
  done_resting draft t f g = go f.state.current refl
    where
      go : (y : Option Instance) → f.state.current ≡ y
          → Resting draft t (maybe f.state (λ (i : Instance). with_current f.state (record { id = i.id; part = i.part; life = finished now i.life; transferring = false })) y)
      go None e = record { few = g.few; idle = g.idle; matched = subst (λ x. Matched x None) (sym e) nothing; weight = g.weight }
      go (Some i) e = record {
        few = g.few;
        idle = g.idle;
        matched = resting refl;
        weight =
            (let a = parts_total w f.state in
            let c = parts_total w (with_current f.state (record { id = i.id; part = i.part; life = finished now i.life; transferring = false })) in
            let d = ap (current_weight w) e in
            let k = g.weight in omega arith);
      }

  -- with nothing in hand
  at_rest : (draft : Option Part) (t : Bool) (f : Fdt) → f.hand ≡ None → Going draft t f → Resting draft t f.state
  at_rest draft t f e g = record { few = g.few; idle = g.idle; matched = subst (Matched f.state.current) e g.matched; weight = g.weight }

  from_rest : (draft : Option Part) (t : Bool) (f : FdtState) → Resting draft t f → Going draft t (record { state = f; hand = None })
  from_rest draft t f r = record { few = r.few; idle = r.idle; matched = r.matched; window = tt; weight = r.weight }

  run_going : (draft : Option Part) (f : Fdt) → Going draft false f → (let r = fdt_run s now draft f in Going draft r.taken r.fdt)
  unfolding fdt_sent
  run_going draft f g = fdt_run_goes s now draft (Going draft) (λ (r : FdtTurn). Going draft r.taken r.fdt) (record {
    rests = λ t f g. g;
    sends = λ t f h y g. record {
      few = g.few;
      idle = g.idle;
      matched = rehand f.current h _ refl refl g.matched;
      window = read_window s.window h.part s.sizes false h.encoder g.window;
      weight = g.weight;
    };
    ends = λ t f h g. from_rest draft t (fdt_done now f) (done_resting draft t _ g);
    asks = λ t f e g. next_going draft t f.state (at_rest draft t f e g);
  }) f g

-- ---- every call keeps the FDT side

-- what refusals 4 and 5 ask of a part
unfit : Setup → Part → Bool
unfit s c = bad_blocks s.sizes c.size || past_store s.fdt_store c || eqb c.size 0

fit_part : (s : Setup) (c : Part) → unfit s c ≡ false → FdtPart s c
unfolding unfit past_store
fit_part s c e =
    let a = or_left (bad_blocks s.sizes c.size || ltb s.fdt_store (part_end c)) (eqb c.size 0) e in
    let n = eqb-false c.size 0 (or_right (bad_blocks s.sizes c.size || ltb s.fdt_store (part_end c)) (eqb c.size 0) e) in
    record {
      blocks = or_left (bad_blocks s.sizes c.size) (ltb s.fdt_store (part_end c)) a;
      inside = ltb-false s.fdt_store (part_end c) (or_right (bad_blocks s.sizes c.size) (ltb s.fdt_store (part_end c)) a);
      nonempty = omega (arith, n);
    }

part_fit : (s : Setup) (c : Part) → FdtPart s c → unfit s c ≡ false
unfolding unfit past_store
part_fit s c u = let n = u.nonempty in rw (u.blocks, le-ltb s.fdt_store (part_end c) u.inside, ne_eqb c.size 0 (λ e. omega arith))

abbrev unfits : Setup → Part → ℕ
unfits s c = one_if (unfit s c)

fit_none : (s : Setup) (l : List Part) → Each (FdtPart s) l → total (unfits s) l ≤ 0
fit_none s [] u = omega arith
fit_none s (c ∷ l) u = let a = ap one_if (part_fit s c u.0) in let b = fit_none s l u.1 in omega arith

none_fit : (s : Setup) (l : List Part) → total (unfits s) l ≤ 0 → Each (FdtPart s) l
none_fit s [] h = tt
none_fit s (c ∷ l) h = (fit_part s c (go (tested (unfit s c))), none_fit s l (omega arith))
  where
    go : Tested (unfit s c) → unfit s c ≡ false
    go (fail e) = e
    go (pass e) = absurd (let a = ap one_if e in omega arith)

-- a part that may wait
record Fits (s : Setup) (f : Fdt) (c : Part) : Type 0 where
  fit : unfit s c ≡ false
  between : any (shares c) (fdt_parts f.state) ≡ false

fits_told : (s : Setup) (f : Fdt) (c : Part) → bad_blocks s.sizes c.size ≡ false → bad_fdt_part s f.state c ≡ false → eqb c.size 0 ≡ false → Fits s f c
unfolding bad_fdt_part unfit
fits_told s f c a b e = record {
  fit = rw (a, or_left (past_store s.fdt_store c) (any (shares c) (fdt_parts f.state)) b) e;
  between = or_right (past_store s.fdt_store c) (any (shares c) (fdt_parts f.state)) b;
}

published_kept : (s : Setup) (now : ℕ) (c : Part) (f : Fdt) → publish_refusal s f c ≡ None → FdtReachable s f → FdtReachable s (fdt_published now c f)
unfolding publish_refusal fdt_published
published_kept s now c f e u =
    let five = bad_fdt_part s f.state c in
    let seven = leb waiting_fdts (length f.state.waiting) in
    let r4 = first_none Because.Sizes (bad_blocks s.sizes c.size) ((Because.Part, five || eqb c.size 0) ∷ (Because.Full, seven) ∷ []) e in
    let r5 = first_none Because.Part (five || eqb c.size 0) ((Because.Full, seven) ∷ []) r4.1 in
    let r7 = leb-false waiting_fdts (length f.state.waiting) (first_none Because.Full seven [] r5.1).0 in
    let k = fits_told s f c r4.0 (or_left five (eqb c.size 0) r5.0) (or_right five (eqb c.size 0) r5.0) in
    record {
      few = (let h = queued_length now c f.state in omega arith);
      apart = cover_apart (fdt_parts (queued now c f.state)) (λ n. let h = queued_total (cover n) now c f.state in let a = one_cover c (fdt_parts f.state) k.between u.apart n in omega arith);
      admitted = none_fit s (fdt_parts (queued now c f.state)) (let h = queued_total (unfits s) now c f.state in let a = fit_none s (fdt_parts f.state) u.admitted in let b = ap one_if k.fit in omega arith);
      idle = queued_idle now c f.state u.idle;
      matched = subst (λ x. Matched x f.hand) (sym (queued_current now c f.state)) u.matched;
      window = u.window;
    }

draft_fits : (s : Setup) (f : Fdt) (draft : Option Part) → draft_refusal s f draft ≡ None → IfGiven (Fits s f) (draft_of draft)
unfolding draft_refusal draft_of
draft_fits s f None e = tt
draft_fits s f (Some c) e = (elim (eqb c.size 0)
    as (λ t. eqb c.size 0 ≡ t → maybe None (λ c. first_of ((Because.Sizes, bad_blocks s.sizes c.size) ∷ (Because.Part, bad_fdt_part s f.state c) ∷ [])) (when t then None else Some c) ≡ None → IfGiven (Fits s f) (when t then None else Some c)) [
      | true ↦ λ z e. tt
      | false ↦ λ z e. (let r = first_none Because.Sizes (bad_blocks s.sizes c.size) ((Because.Part, bad_fdt_part s f.state c) ∷ []) e in
          fits_told s f c r.0 (first_none Because.Part (bad_fdt_part s f.state c) [] r.1).0 z)
    ]) refl e

ran_kept : (s : Setup) (now : ℕ) (draft : Option Part) (f : Fdt) → IfGiven (Fits s f) draft → FdtReachable s f → FdtReachable s (fdt_run s now draft f).fdt
ran_kept s now draft f k u = record {
  few = fit.few;
  apart = cover_apart (fdt_parts (fdt_run s now draft f).fdt.state) (λ n. let h = (apart n).weight in omega arith);
  admitted = none_fit s (fdt_parts (fdt_run s now draft f).fdt.state) (let h = fit.weight in omega arith);
  idle = fit.idle;
  matched = fit.matched;
  window = fit.window;
}
  where
    going : (w : Part → ℕ) (b : ℕ) → total w (fdt_parts f.state) + maybe 0 w draft ≤ b → (let r = fdt_run s now draft f in Going s now w b draft r.taken r.fdt)
    going w b h = run_going s now w b draft f (record { few = u.few; idle = u.idle; matched = u.matched; window = u.window; weight = h })

    fits : (x : Option Part) → IfGiven (Fits s f) x → total (unfits s) (fdt_parts f.state) + maybe 0 (unfits s) x ≤ 0
    fits None v = let a = fit_none s (fdt_parts f.state) u.admitted in omega arith
    fits (Some c) v = let a = fit_none s (fdt_parts f.state) u.admitted in let b = ap one_if v.fit in omega arith

    covers : (n : ℕ) (x : Option Part) → IfGiven (Fits s f) x → total (cover n) (fdt_parts f.state) + maybe 0 (cover n) x ≤ 1
    covers n None v = let a = apart_cover (fdt_parts f.state) u.apart n in omega arith
    covers n (Some c) v = one_cover c (fdt_parts f.state) v.between u.apart n

    fit : (let r = fdt_run s now draft f in Going s now (unfits s) 0 draft r.taken r.fdt)
    fit = going (unfits s) 0 (fits draft k)

    apart : (n : ℕ) → (let r = fdt_run s now draft f in Going s now (cover n) 1 draft r.taken r.fdt)
    apart n = going (cover n) 1 (covers n draft k)

pub fdt_step : (s : Setup) (d : Desk) (c : Call) → FdtReachable s d.fdt → FdtReachable s (step s d c).1.fdt
unfolding step reserved numbered moved touched admitted all_published with_fdt ran fdt_ran
fdt_step s d Call.reserve u = kept (λ e. FdtReachable s e.fdt) (reserve_refusal d) d _ u (λ e. u)
fdt_step s d (Call.release t) u = kept (λ e. FdtReachable s e.fdt) (release_refusal d t) d _ u (λ e. u)
fdt_step s d (Call.add named q) u = kept (λ e. FdtReachable s e.fdt) (add_refusal s d named q) d _ u
    (λ e. either (λ (x : Desk). FdtReachable s x.fdt) (given named) d (reserved s d) u u)
fdt_step s d (Call.touch t x) u = u
fdt_step s d (Call.ask q) u = u
fdt_step s d Call.complete u = u
fdt_step s d (Call.publish now c) u = kept (λ e. FdtReachable s e.fdt) (publish_refusal s d.fdt c) d _ u (λ e. published_kept s now c d.fdt e u)
fdt_step s d (Call.run_fdt now draft) u = kept (λ e. FdtReachable s e.fdt) (draft_refusal s d.fdt draft) d _ u (λ e.
    let r = fdt_run s now (draft_of draft) d.fdt in
    let v = ran_kept s now (draft_of draft) d.fdt (draft_fits s d.fdt draft e) u in
    either (λ (x : Desk). FdtReachable s x.fdt) r.taken (all_published (with_fdt d r.fdt)) (with_fdt d r.fdt) v v)
fdt_step s d (Call.run_file i now) u = go (at d.sessions i)
  where
    go : (x : Option Session) → FdtReachable s (maybe (Answer.refused Because.NoSession, d) (ran s now i d) x).1.fdt
    go None = u
    go (Some x) = u

pub fdt_opening : (s : Setup) → FdtReachable s (opening s).fdt
unfolding opening fdt_parts
fdt_opening s = record { few = omega arith; apart = tt; admitted = tt; idle = tt; matched = nothing; window = tt }
