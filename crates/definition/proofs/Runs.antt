-- What holds of a queue and a hand holds after a session's run, if each step of a round keeps it. Every law of runs is by this.
use mathlib.Core.Path.{◌≡◌, refl}
use mathlib.Core.Bool.{Bool, true, false, ◌||◌}
use Rattle.std.specs.Prelude.{Option, None, Some}
use mathlib.Core.List.{List}
use Prim.Native.Nat.{ℕ}
use Rattle.sizes.specs.Words.{when◌then◌else◌, given, find, drop_first}
use Rattle.lifecycle.specs.Lifecycle.{too_early}
use Rattle.lifecycle.specs.Setup.{Setup}
use Rattle.definition.specs.Encoder.{Encoder, Symbol, read}
use Rattle.lifecycle.specs.declared.parts.Part.{Part}
use Rattle.lifecycle.specs.Fdt.{FdtState, Next, next_fdt, fdt_done}
use Rattle.definition.specs.FdtSession.{Fdt, FdtHand, FdtTurn, FdtRound, fdt_idle, fdt_sent, fdt_begun, fdt_in_hand_or_next, fdt_round_with, fdt_round, last_fdt_round, fdt_run}
use Rattle.definition.specs.Session.{Object, Hand, Turn, startable, begin, put_back, forced, idle, sent, Round, over, again, in_hand_or_next, round_with, round, last_round, file_run}

-- what an object in hand reads next
abbrev pub reads : Setup → Hand → Option Symbol × Encoder
reads s h = read s.window h.object.part h.object.sizes (forced h) h.encoder

-- I is what the queue and the hand have, T what is to be shown of the turn
pub record Steps (s : Setup) (p now : ℕ) (I : List Object → Option Hand → Type 0) (T : Turn → Type 0) : Type 0 where
  pub rests : (q : List Object) (h : Option Hand) → I q h → T (idle q h)
  pub sends : (q : List Object) (h : Hand) (y : Symbol) → I q (Some h) → T (sent q h (reads s h).1 y)
  pub ends : (q : List Object) (h : Hand) → I q (Some h) → I (put_back now h q) None
  pub takes : (q : List Object) (o : Object) → find (startable p now) q ≡ Some o → I q None → I (drop_first (startable p now) q) (Some (begin now o))

module _ (s : Setup) (p now : ℕ) (b : Bool) (I : List Object → Option Hand → Type 0) (T : Turn → Type 0) (k : Steps s p now I T) where
  abbrev Goes : Round → Type 0
  Goes (over t) = T t
  Goes (again q) = I q None

  with_goes : (q : List Object) (h : Hand) → I q (Some h) → Goes (round_with s now b q h)
  unfolding round_with
  with_goes q h u = go b (too_early now h.pace) (reads s h).0
    where
      go : (b early : Bool) (y : Option Symbol)
          → Goes (when b then over (idle q (Some h)) else when early then over (idle q (Some h)) else elim y [ None ↦ again (put_back now h q) | Some y ↦ over (sent q h (reads s h).1 y) ])
      go true early y = k.rests q (Some h) u
      go false true y = k.rests q (Some h) u
      go false false None = k.ends q h u
      go false false (Some y) = k.sends q h y u

  round_goes : (q : List Object) (h : Option Hand) → I q h → Goes (round s p now b q h)
  unfolding round in_hand_or_next
  round_goes q (Some h) u = with_goes q h u
  round_goes q None u = go (find (startable p now) q) refl
    where
      next : Option Object → Option Hand × List Object
      next x = elim x [ None ↦ (None, q) | Some o ↦ (Some (begin now o), drop_first (startable p now) q) ]

      go : (x : Option Object) → find (startable p now) q ≡ x → Goes (elim (next x).0 [ None ↦ over (idle (next x).1 None) | Some h ↦ round_with s now b (next x).1 h ])
      go None e = k.rests q None u
      go (Some o) e = with_goes (drop_first (startable p now) q) (begin now o) (k.takes q o e u)

  last_goes : (r : Round) → Goes r → T (last_round r)
  last_goes (over t) u = u
  last_goes (again q) u = k.rests q None u

  pub run_goes : (q : List Object) (h : Option Hand) → I q h → T (file_run s p now b q h)
  unfolding file_run
  run_goes q None u = last_goes (round s p now b q None) (round_goes q None u)
  run_goes q (Some h) u = go (round s p now b q (Some h)) (round_goes q (Some h) u)
    where
      go : (r : Round) → Goes r → T (elim r [ over t ↦ t | again q' ↦ last_round (round s p now b q' None) ])
      go (over t) v = v
      go (again q') v = last_goes (round s p now b q' None) (round_goes q' None v)

-- ---- the same of the FDT session

abbrev pub fdt_reads : Setup → FdtHand → Option Symbol × Encoder
fdt_reads s h = read s.window h.part s.sizes false h.encoder

-- I is what the flag and the FDT side have, T what is to be shown of the turn
pub record FdtSteps (s : Setup) (now : ℕ) (draft : Option Part) (I : Bool → Fdt → Type 0) (T : FdtTurn → Type 0) : Type 0 where
  pub rests : (taken : Bool) (f : Fdt) → I taken f → T (fdt_idle taken f)
  pub sends : (taken : Bool) (f : FdtState) (h : FdtHand) (y : Symbol) → I taken (record { state = f; hand = Some h }) → T (fdt_sent taken f h (fdt_reads s h).1 y)
  pub ends : (taken : Bool) (f : FdtState) (h : FdtHand) → I taken (record { state = f; hand = Some h }) → I taken (record { state = fdt_done now f; hand = None })
  pub asks : (taken : Bool) (f : Fdt) → f.hand ≡ None → I taken f
      → (let n = next_fdt s now (when taken then None else draft) f.state in I (taken || n.taken) (record { state = n.state; hand = fdt_begun n.starts }))

module _ (s : Setup) (now : ℕ) (draft : Option Part) (I : Bool → Fdt → Type 0) (T : FdtTurn → Type 0) (k : FdtSteps s now draft I T) where
  abbrev FdtGoes : FdtRound → Type 0
  FdtGoes (FdtRound.over t) = T t
  FdtGoes (FdtRound.again taken f) = I taken f

  fdt_with_goes : (taken : Bool) (f : FdtState) (h : Option FdtHand) → I taken (record { state = f; hand = h }) → FdtGoes (fdt_round_with s now taken f h)
  unfolding fdt_round_with
  fdt_with_goes taken f None u = k.rests taken (record { state = f; hand = None }) u
  fdt_with_goes taken f (Some h) u = go (fdt_reads s h).0
    where
      go : (y : Option Symbol) → FdtGoes (elim y [ None ↦ FdtRound.again taken (record { state = fdt_done now f; hand = None }) | Some y ↦ FdtRound.over (fdt_sent taken f h (fdt_reads s h).1 y) ])
      go None = k.ends taken f h u
      go (Some y) = k.sends taken f h y u

  fdt_round_goes : (taken : Bool) (f : Fdt) → I taken f → FdtGoes (fdt_round s now draft taken f)
  unfolding fdt_round fdt_in_hand_or_next
  fdt_round_goes taken f u = go f.hand refl
    where
      n : Next
      n = next_fdt s now (when taken then None else draft) f.state

      t : Bool → Bool × Fdt
      t b = when b then (taken, f) else (taken || n.taken, record { state = n.state; hand = fdt_begun n.starts })

      go : (h : Option FdtHand) → f.hand ≡ h → FdtGoes (fdt_round_with s now (t (given h)).0 (t (given h)).1.state (t (given h)).1.hand)
      go None e = fdt_with_goes (taken || n.taken) n.state (fdt_begun n.starts) (k.asks taken f e u)
      go (Some h) e = fdt_with_goes taken f.state f.hand u

  fdt_last_goes : (r : FdtRound) → FdtGoes r → T (last_fdt_round r)
  fdt_last_goes (FdtRound.over t) u = u
  fdt_last_goes (FdtRound.again taken f) u = k.rests taken f u

  pub fdt_run_goes : (f : Fdt) → I false f → T (fdt_run s now draft f)
  unfolding fdt_run
  fdt_run_goes f u = go (fdt_round s now draft false f) (fdt_round_goes false f u)
    where
      go : (r : FdtRound) → FdtGoes r → T (elim r [ FdtRound.over t ↦ t | FdtRound.again taken f' ↦ last_fdt_round (fdt_round s now draft taken f') ])
      go (FdtRound.over t) v = v
      go (FdtRound.again taken f') v = fdt_last_goes (fdt_round s now draft taken f') (fdt_round_goes taken f' v)
