-- What is promised of the runs of a desk: statements only, proved in proofs/Refused, Rounds, FileRounds and Draft.
use Rattle.std.specs.Prelude.{◌≡◌, Bool, true, false, List, ℕ, zero, suc, ◌+◌, ◌≤◌, length}
use Rattle.std.specs.Prelude.{Option, None, Some}
use Rattle.sizes.specs.Words.{when◌then◌else◌, maybe, given, at}
use Rattle.lifecycle.specs.Fdt.{id_after}
use Rattle.sizes.specs.declared.partition.Sizes.{Sizes}
use Rattle.lifecycle.specs.declared.parts.Part.{Part}
use Rattle.lifecycle.specs.Setup.{Setup, sound}
use Rattle.definition.specs.Encoder.{Encoder, Symbol, fresh, visit, stopping, read}
use Rattle.definition.specs.FdtSession.{Packet, Fdt, FdtTurn, FdtRound, fdt_idle, fdt_round, fdt_run}
use Rattle.definition.specs.Session.{Object, Hand, Session, Turn, begin, idle, Round, over, again, round_with, round, file_run}
use Rattle.definition.specs.Desk.{Desk, Call, opening, step, run}
use Rattle.definition.specs.Apart.{refusal_in}

-- ---- refusals

-- a refused call leaves the desk as it was, whatever the call and the desk
abbrev pub RefusedStays : Type 0
RefusedStays = (s : Setup) (d : Desk) (c : Call) → given (refusal_in (step s d c).0) ≡ true → (step s d c).1 ≡ d

-- ---- a read

-- read, with n more visits allowed
unfoldable pub read_longer : ℕ → ℕ → Part → Sizes → Bool → Encoder → Option Symbol × Encoder
read_longer n w c z force x = when x.stopped then (None, x) else visit (suc (length x.window + n)) w c z force (stopping force x)

-- a read's visits are enough: with more it comes to the same, for every content, an empty one too, and every encoder
abbrev pub VisitsEnough : Type 0
VisitsEnough = (n w : ℕ) (c : Part) (z : Sizes) (force : Bool) (x : Encoder) → 1 ≤ z.e → 1 ≤ z.b → read_longer n w c z force x ≡ read w c z force x

-- the first read of a transfer gives a symbol
abbrev pub FirstRead : Type 0
FirstRead = (w : ℕ) (c : Part) (z : Sizes) (closable : Bool) → 1 ≤ w → 1 ≤ z.e → 1 ≤ z.b → given (read w c z false (fresh closable)).0 ≡ true

-- ---- rounds

-- does the session go round again
abbrev pub goes_again : Round → Bool
goes_again (over t) = false
goes_again (again q) = true

-- not with an object that has just been taken: there is no third round
abbrev pub NoThird : Type 0
NoThird = (s : Setup) (now : ℕ) (fdt_queued : Bool) (q : List Object) (o : Object) → 1 ≤ s.window → 1 ≤ o.sizes.e → 1 ≤ o.sizes.b
    → goes_again (round_with s now fdt_queued q (begin now o)) ≡ false

abbrev pub fdt_goes_again : FdtRound → Bool
fdt_goes_again (FdtRound.over t) = false
fdt_goes_again (FdtRound.again taken f) = true

-- nor with an FDT that has just been asked for
abbrev pub FdtNoThird : Type 0
FdtNoThird = (s : Setup) (now : ℕ) (draft : Option Part) (taken : Bool) (f : Fdt) → 1 ≤ s.window → 1 ≤ s.sizes.e → 1 ≤ s.sizes.b → f.hand ≡ None
    → fdt_goes_again (fdt_round s now draft taken f) ≡ false

-- a file session's loop, cut after n rounds
unfoldable pub rounds : ℕ → Setup → ℕ → ℕ → Bool → List Object → Option Hand → Turn
rounds zero s p now fdt_queued q hand = idle q hand
rounds (suc n) s p now fdt_queued q hand = elim (round s p now fdt_queued q hand) [ over t ↦ t | again q' ↦ rounds n s p now fdt_queued q' None ]

-- from an accepted set-up, after any calls, a file session's run comes to the same with more rounds
abbrev pub RoundsEnough : Type 0
RoundsEnough = (s : Setup) → sound s ≡ true → (l : List Call) (i : ℕ) (x : Session) (n now : ℕ) (blocked : Bool) → at (run s (opening s) l).1.sessions i ≡ Some x
    → rounds (suc (suc n)) s x.priority now blocked (run s (opening s) l).1.queue x.hand ≡ file_run s x.priority now blocked (run s (opening s) l).1.queue x.hand

-- the FDT session's loop, cut after n rounds
unfoldable pub fdt_rounds : ℕ → Setup → ℕ → Option Part → Bool → Fdt → FdtTurn
fdt_rounds zero s now draft taken f = fdt_idle taken f
fdt_rounds (suc n) s now draft taken f = elim (fdt_round s now draft taken f) [ FdtRound.over t ↦ t | FdtRound.again taken' f' ↦ fdt_rounds n s now draft taken' f' ]

-- the FDT session's run comes to the same with more rounds
abbrev pub FdtRoundsEnough : Type 0
FdtRoundsEnough = (n : ℕ) (s : Setup) (now : ℕ) (draft : Option Part) (f : Fdt) → 1 ≤ s.window → 1 ≤ s.sizes.e → 1 ≤ s.sizes.b → fdt_rounds (suc (suc n)) s now draft false f ≡ fdt_run s now draft f

-- ---- the draft of an FDT run

-- the FDT id that a packet has, if there is one
abbrev pub packet_id : Option Packet → Option ℕ
packet_id = maybe None (λ (k : Packet). k.id)

-- what the run of an FDT session in state f says of its draft
pub record Drafted (s : Setup) (now : ℕ) (f : Fdt) : Type 0 where
  -- a draft that is taken comes with a packet
  pub sent_at_once : (draft : Option Part) → (fdt_run s now draft f).taken ≡ true → given (fdt_run s now draft f).packet ≡ true
  -- and that packet is its own: it has the id that was next
  pub under_its_id : (draft : Option Part) → (fdt_run s now draft f).taken ≡ true → packet_id (fdt_run s now draft f).packet ≡ Some f.state.next_id
  -- it is taken at most once, and the flag says whether: the next id is the one after, or the same
  pub id_moves : (draft : Option Part) → (fdt_run s now draft f).fdt.state.next_id ≡ (when (fdt_run s now draft f).taken then id_after f.state.next_id else f.state.next_id)
  -- no draft, no flag
  pub no_draft : (fdt_run s now None f).taken ≡ false

-- the draft of every FDT run is told of so, whatever the FDT session's state
abbrev pub DraftTold : Type 0
DraftTold = (s : Setup) (now : ℕ) (f : Fdt) → 1 ≤ s.window → 1 ≤ s.sizes.e → 1 ≤ s.sizes.b → Drafted s now f
