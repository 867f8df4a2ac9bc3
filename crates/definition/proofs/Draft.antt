-- The draft of an FDT run: one that is taken comes with a packet, and the flag says whether it was taken.
use mathlib.Core.Path.{◌≡◌, refl, sym, ◌∙◌, ap, subst}
use mathlib.Core.Bool.{Bool, true, false, ◌&&◌, ◌||◌, not, and-false, false≢true}
use Rattle.std.specs.Prelude.{Option, None, Some}
use mathlib.Core.List.{List, [], ◌∷◌}
use Prim.Native.Nat.{ℕ, ◌-◌, ◌≤◌}
use native.Mathlib.Omega.{arith}
use borrow.Author.Tests.{eqb-true}
use lib.Dec.{eqb}
use lib.ListN.{length}
use Rattle.sizes.specs.Words.{when◌then◌else◌, maybe, over, given}
use Rattle.sizes.proofs.Tests.{and_left, none≢some}
use Rattle.lifecycle.specs.declared.parts.Part.{Part}
use Rattle.lifecycle.specs.Lifecycle.{may_start, started, finished}
use Rattle.lifecycle.specs.Setup.{Setup}
use Rattle.lifecycle.specs.Fdt.{FdtState, Instance, Next, fdt_plan, id_after, queued, runs_out, needs_new, takes_draft, republished, front_taken, with_current, start_current, next_fdt, fdt_done}
use Rattle.definition.specs.Encoder.{Symbol, fresh, read}
use Rattle.definition.specs.FdtSession.{Fdt, FdtTurn, FdtHand, Packet, fdt_run, FdtRound, fdt_sent, fdt_begun, fdt_in_hand_or_next, fdt_round_with, fdt_round, last_fdt_round}
use Rattle.definition.specs.Promises.{packet_id, DraftTold}
use Rattle.definition.proofs.Rounds.{first_read}

-- ---- asking for the next FDT

-- what it says of the draft, from next id n
record Asked (draft : Option Part) (n : ℕ) (r : Next) : Type 0 where
  starts : r.taken ≡ true → over (λ (i : Instance). i.id) r.starts ≡ Some n
  moves : r.state.next_id ≡ (when r.taken then id_after n else n)
  no_draft : given draft ≡ false → r.taken ≡ false

module _ (s : Setup) (now : ℕ) where
  -- a start hands the flag on, and leaves the next id
  start_keeps : (t : Bool) (f : FdtState) → ((start_current s now t f).taken ≡ t) × ((start_current s now t f).state.next_id ≡ f.next_id)
  unfolding start_current with_current
  start_keeps t f = go f.current
    where
      stays : Next
      stays = record { taken = t; state = f; starts = None }

      goes : Instance → Next
      goes i = let i' : Instance = record { id = i.id; part = i.part; life = started (fdt_plan s) now i.life; transferring = true } in record { taken = t; state = with_current f i'; starts = Some i' }

      Keeps : Next → Type 0
      Keeps r = (r.taken ≡ t) × (r.state.next_id ≡ f.next_id)

      go : (x : Option Instance) → Keeps (maybe stays (λ (i : Instance). when may_start (fdt_plan s) now i.life then goes i else stays) x)
      go None = (refl, refl)
      go (Some i) = elim (may_start (fdt_plan s) now i.life) as (λ b. Keeps (when b then goes i else stays)) [ true ↦ (refl, refl) | false ↦ (refl, refl) ]

  front_keeps : (f : FdtState) → (front_taken f).next_id ≡ f.next_id
  unfolding front_taken
  front_keeps f = go f.waiting
    where
      go : (w : List Instance) → (elim w as (λ (w : List Instance). FdtState) [ [] ↦ f | i ∷ rest ↦ record { next_id = f.next_id; last = f.last; waiting = rest; current = Some i } ]).next_id ≡ f.next_id
      go [] = refl
      go (i ∷ rest) = refl

  -- a draft that is queued alone starts
  alone_starts : (c : Part) (f : FdtState) (t : Bool) → f.waiting ≡ [] → over (λ (i : Instance). i.id) (start_current s now t (front_taken (queued now c f))).starts ≡ Some f.next_id
  unfolding start_current front_taken queued may_start
  alone_starts c f t e = rw e

  module _ (draft : Option Part) (f : FdtState) where
    republish_moves : (republished s now draft f).next_id ≡ (when takes_draft s now draft f then id_after f.next_id else f.next_id)
    unfolding republished takes_draft queued
    republish_moves = go (needs_new s now f) draft
      where
        go : (b : Bool) (c : Option Part) → (when b then maybe f (λ c. queued now c f) c else f).next_id ≡ (when b && given c then id_after f.next_id else f.next_id)
        go true None = refl
        go true (Some c) = refl
        go false c = refl

    none_waits : needs_new s now f ≡ true → f.waiting ≡ []
    unfolding needs_new
    none_waits h = go f.waiting (eqb-true (length f.waiting) 0 (and_left (eqb (length f.waiting) 0) (not (given f.current) || maybe true (λ t. runs_out s.validity (now - t)) f.last) h))
      where
        go : (w : List Instance) → length w ≡ 0 → w ≡ []
        go [] e = refl
        go (i ∷ w) e = absurd (omega arith)

    taken_starts : takes_draft s now draft f ≡ true → over (λ (i : Instance). i.id) (start_current s now (takes_draft s now draft f) (front_taken (republished s now draft f))).starts ≡ Some f.next_id
    unfolding takes_draft republished
    taken_starts h = go draft h
      where
        go : (c : Option Part) → (needs_new s now f && given c) ≡ true
            → over (λ (i : Instance). i.id) (start_current s now (needs_new s now f && given c) (front_taken (when needs_new s now f then maybe f (λ c. queued now c f) c else f))).starts ≡ Some f.next_id
        go None e = absurd (false≢true (sym (and-false (needs_new s now f)) ∙ e))
        go (Some c) e = let n = and_left (needs_new s now f) true e in rw n (alone_starts c f true (none_waits n))

    not_taken : given draft ≡ false → takes_draft s now draft f ≡ false
    unfolding takes_draft
    not_taken e = rw e (and-false (needs_new s now f))

    asked : Asked draft f.next_id (next_fdt s now draft f)
    unfolding next_fdt
    asked = elim (maybe false (λ (i : Instance). i.transferring) f.current) as (λ b. Asked draft f.next_id (when b then record { taken = false; state = f; starts = None } else next)) [
      | true ↦ record { starts = λ e. absurd (false≢true e); moves = refl; no_draft = λ e. refl }
      | false ↦ record {
        starts = λ e. taken_starts (sym kept.0 ∙ e);
        moves = kept.1 ∙ front_keeps (republished s now draft f) ∙ republish_moves ∙ ap (λ b. when b then id_after f.next_id else f.next_id) (sym kept.0);
        no_draft = λ e. kept.0 ∙ not_taken e;
      }
    ]
      where
        next : Next
        next = start_current s now (takes_draft s now draft f) (front_taken (republished s now draft f))

        kept : (next.taken ≡ takes_draft s now draft f) × (next.state.next_id ≡ (front_taken (republished s now draft f)).next_id)
        kept = start_keeps (takes_draft s now draft f) (front_taken (republished s now draft f))

-- ---- a run

-- what a turn says of the draft, from next id n
record Told (draft : Option Part) (n : ℕ) (r : FdtTurn) : Type 0 where
  sent : r.taken ≡ true → packet_id r.packet ≡ Some n
  moves : r.fdt.state.next_id ≡ (when r.taken then id_after n else n)
  no_draft : given draft ≡ false → r.taken ≡ false

module _ (s : Setup) (now : ℕ) (w : 1 ≤ s.window) (k : 1 ≤ s.sizes.e) (g : 1 ≤ s.sizes.b) (draft : Option Part) where
  abbrev RoundTold : ℕ → FdtRound → Type 0
  RoundTold m (FdtRound.over t) = Told draft m t
  RoundTold m (FdtRound.again taken f) = ⊥

  -- with nothing in hand a round is the last
  anew : (f : Fdt) → f.hand ≡ None → RoundTold f.state.next_id (fdt_round s now draft false f)
  unfolding fdt_round fdt_in_hand_or_next fdt_round_with fdt_sent
  anew f e = rw e (go n.starts refl)
    where
      n : Next
      n = next_fdt s now draft f.state

      a : Asked draft f.state.next_id n
      a = asked s now draft f.state

      go : (x : Option Instance) → n.starts ≡ x → RoundTold f.state.next_id (fdt_round_with s now n.taken n.state (fdt_begun x))
      go None h = record { sent = λ t. absurd (none≢some (sym (ap (over (λ (i : Instance). i.id)) h) ∙ a.starts t)); moves = a.moves; no_draft = a.no_draft }
      go (Some i) b = one (read s.window i.part s.sizes false (fresh false)).0 (first_read s.window i.part s.sizes false w k g)
        where
          begun : FdtHand
          begun = record { id = i.id; part = i.part; encoder = fresh false }

          one : (y : Option Symbol) → given y ≡ true
              → RoundTold f.state.next_id (elim y [ None ↦ FdtRound.again n.taken (record { state = fdt_done now n.state; hand = None }) | Some y ↦ FdtRound.over (fdt_sent n.taken n.state begun (read s.window i.part s.sizes false (fresh false)).1 y) ])
          one None h = absurd (false≢true h)
          one (Some y) h = record { sent = λ t. sym (ap (over (λ (i : Instance). i.id)) b) ∙ a.starts t; moves = a.moves; no_draft = a.no_draft }

  done_keeps : (f : FdtState) → (fdt_done now f).next_id ≡ f.next_id
  unfolding fdt_done with_current
  done_keeps f = go f.current
    where
      go : (x : Option Instance) → (maybe f (λ (i : Instance). with_current f (record { id = i.id; part = i.part; life = finished now i.life; transferring = false })) x).next_id ≡ f.next_id
      go None = refl
      go (Some i) = refl

  last_told : (m : ℕ) (r : FdtRound) → RoundTold m r → Told draft m (last_fdt_round r)
  last_told m (FdtRound.over t) u = u
  last_told m (FdtRound.again taken f) u = absurd u

  told : (f : Fdt) → Told draft f.state.next_id (fdt_run s now draft f)
  unfolding fdt_run fdt_round fdt_in_hand_or_next fdt_round_with fdt_sent
  told f = go f.hand refl
    where
      second : FdtRound → FdtTurn
      second r = elim r [ FdtRound.over t ↦ t | FdtRound.again taken f' ↦ last_fdt_round (fdt_round s now draft taken f') ]

      done : Fdt
      done = record { state = fdt_done now f.state; hand = None }

      first : (m : ℕ) (r : FdtRound) → RoundTold m r → Told draft m (second r)
      first m (FdtRound.over t) u = u
      first m (FdtRound.again taken f) u = absurd u

      go : (x : Option FdtHand) → f.hand ≡ x → Told draft f.state.next_id (second (fdt_round s now draft false f))
      go None e = first f.state.next_id (fdt_round s now draft false f) (anew f e)
      go (Some x) e = rw e (one (read s.window x.part s.sizes false x.encoder).0)
        where
          one : (y : Option Symbol) → Told draft f.state.next_id (second (elim y [ None ↦ FdtRound.again false done | Some y ↦ FdtRound.over (fdt_sent false f.state x (read s.window x.part s.sizes false x.encoder).1 y) ]))
          one None = subst (λ m. Told draft m (last_fdt_round (fdt_round s now draft false done))) (done_keeps f.state) (last_told done.state.next_id (fdt_round s now draft false done) (anew done refl))
          one (Some y) = record { sent = λ t. absurd (false≢true t); moves = refl; no_draft = λ e. refl }

-- what is promised of the draft
pub drafted : DraftTold
drafted s now f w k g = record {
  sent_at_once = λ draft t. comes draft ((told s now w k g draft f).sent t);
  under_its_id = λ draft. (told s now w k g draft f).sent;
  id_moves = λ draft. (told s now w k g draft f).moves;
  no_draft = (told s now w k g None f).no_draft refl;
}
  where
    comes : (draft : Option Part) → packet_id (fdt_run s now draft f).packet ≡ Some f.state.next_id → given (fdt_run s now draft f).packet ≡ true
    comes draft h = go (fdt_run s now draft f).packet h
      where
        go : (x : Option Packet) → packet_id x ≡ Some f.state.next_id → given x ≡ true
        go None e = absurd (none≢some e)
        go (Some x) e = refl
