-- Laws of the FDT session: every call keeps FdtHolds, and what a round of the session comes to in each of its cases.
use mathlib.Core.Path.{◌≡◌, refl, sym, ◌∙◌, ap, subst}
use Rattle.std.specs.Prelude.{Option, None, Some}
use mathlib.Core.List.{[], ◌∷◌}
use mathlib.Core.Bool.{Bool, true, false, ◌||◌, false≢true}
use Prim.Native.Nat.{ℕ, ◌+◌, ◌≤◌, ◌<◌}
use native.Mathlib.Omega.{arith}
use Rattle.sizes.specs.Words.{when◌then◌else◌, first_of}
use Rattle.sizes.specs.Limits.{wide, longest_store, largest_window}
use Rattle.sizes.specs.declared.refusal.Refusal.{Refusal}
use Rattle.sizes.specs.declared.refusal.Refusal.TheVariants as Because
use Rattle.sizes.specs.declared.partition.Sizes.{Sizes}
use Rattle.sizes.proofs.Tests.{none≢some, if_on}
use Rattle.lifecycle.specs.Setup.{bad_blocks}
use Rattle.lifecycle.specs.Announce.{bad_fdt_of}
use Rattle.lifecycle.specs.FdtCalls.{publish_of, draft_test_of, next_fdt_of, fdt_done_of, NextFdt, Published}
use Rattle.lifecycle.specs.FdtCalls.{ValidFdt}
use Rattle.lifecycle.specs.declared.parts.Part.{Part}
use Rattle.lifecycle.specs.declared.announce.Announcer.{Announcer}
use Rattle.lifecycle.specs.declared.fdt.Fdt.{Fdt}
use Rattle.lifecycle.specs.declared.fdt.Settings.{Settings}
use Rattle.lifecycle.proofs.PublishLaws.{valid_publish, valid_next_fdt, valid_fdt_done}
use Rattle.lifecycle.proofs.FdtKeeps.{publish_refusal_of, publishable, published_by, publish_as, draft_test_as}
use Rattle.lifecycle.proofs.AnnounceKeep.{EachFdt, queued_each, next_fdt_objects, next_fdt_each, next_fdt_current, fdt_done_objects, fdt_done_each, fdt_lies_in}
use Rattle.sender.specs.EncoderCalls.{new_of, read_of}
use Rattle.sender.specs.EncoderCalls.{ValidEncoder}
use Rattle.sender.specs.FdtSessionCalls.{GoodPart, FdtHolds, GoodDraft, FdtTries, left_of, fdt_begun_of, fdt_sent_by, fdt_sent_of, fdt_attempted_of, FdtTurn}
use Rattle.sender.specs.declared.blockencoder.BlockEncoder.{BlockEncoder}
use Rattle.sender.specs.declared.blockencoder.Symbol.{Symbol}
use Rattle.sender.specs.declared.fdtsession.FdtSession.{FdtSession}
use Rattle.sender.proofs.EncoderReads.{read_means}
use Rattle.sender.proofs.EncoderPromises.{new_sound}

-- ---- every call keeps FdtHolds

-- every FDT of the list has a good part
abbrev Parts : Fdt → Type 0
Parts f = EachFdt (GoodPart f.settings.sizes) f.announcer

holds_parts : (f : Fdt) → FdtHolds f → Parts f
holds_parts f h = record { waiting = h.waiting; current = h.current }

parts_hold : (f : Fdt) → ValidFdt f → Parts f → FdtHolds f
parts_hold f v p = record { valid = v; waiting = p.waiting; current = p.current }

-- a call that leaves the settings
parts_set : (f r : Fdt) → ValidFdt r → r.settings ≡ f.settings → EachFdt (GoodPart f.settings.sizes) r.announcer → FdtHolds r
parts_set f r v s p = parts_hold r v (subst (λ (z : Settings). EachFdt (GoodPart z.sizes) r.announcer) (sym s) p)

-- and the FDT side
pub fdt_holds_over : (f r : Fdt) → FdtHolds f → ValidFdt r → r.settings ≡ f.settings → r.announcer ≡ f.announcer → FdtHolds r
fdt_holds_over f r h v s a = parts_set f r v s (subst (EachFdt (GoodPart f.settings.sizes)) (sym a) (holds_parts f h))

draft_good : (z : Sizes) (draft : Option Part) → GoodDraft z draft → (c : Part) → draft ≡ Some c → GoodPart z c
draft_good z None g c e = absurd (none≢some e)
draft_good z (Some d) g c e = subst (GoodPart z) (some_one e) g
  where
    some_one : {A : Type 0} {a b : A} → Some a ≡ Some b → a ≡ b
    some_one e = cc

pub fdt_holds_next : (now : ℕ) (draft : Option Part) (f : Fdt) → FdtHolds f → GoodDraft f.settings.sizes draft → FdtHolds (next_fdt_of now draft f).fdt
fdt_holds_next now draft f h g = parts_set f (next_fdt_of now draft f).fdt (valid_next_fdt now draft f h.valid) (next_fdt_objects now draft f).settings
    (next_fdt_each (GoodPart f.settings.sizes) now f (holds_parts f h) draft h.valid.fdts (draft_good f.settings.sizes draft g))

pub fdt_holds_done : (now : ℕ) (f : Fdt) → FdtHolds f → FdtHolds (fdt_done_of now f)
fdt_holds_done now f h = parts_set f (fdt_done_of now f) (valid_fdt_done now f h.valid) (fdt_done_objects now f).settings (fdt_done_each (GoodPart f.settings.sizes) now f (holds_parts f h))

-- ---- a part that was looked at

-- it lies in the FDT store
stored : (store : ℕ) (c : Part) (a : Announcer) → store ≤ longest_store → bad_fdt_of store c a ≡ false → c.start + c.size < wide
stored store c a n e = let h = fdt_lies_in store c a e in omega arith

-- a draft that passes the test is good
pub draft_looked : (draft : Option Part) (f : Fdt) → f.settings.fdt_store ≤ longest_store → draft_test_of draft f ≡ None → GoodDraft f.settings.sizes draft
draft_looked None f n e = tt
draft_looked (Some c) f n e = passed (bad_blocks f.settings.sizes c.size) (bad_fdt_of f.settings.fdt_store c f.announcer) refl refl (sym (draft_test_as (Some c) f) ∙ e)
  where
    passed : (a b : Bool) → bad_blocks f.settings.sizes c.size ≡ a → bad_fdt_of f.settings.fdt_store c f.announcer ≡ b → first_of ((Because.Sizes, a) ∷ (Because.Part, b) ∷ []) ≡ None → GoodPart f.settings.sizes c
    passed true b p q e = absurd (none≢some (sym e))
    passed false true p q e = absurd (none≢some (sym e))
    passed false false p q e = record { sizes = p; fits = stored f.settings.fdt_store c f.announcer n q }

-- a part that is published was looked at
pub fdt_holds_published : (now : ℕ) (c : Part) (f : Fdt) → f.settings.fdt_store ≤ longest_store → FdtHolds f → FdtHolds (publish_of now c f).fdt
fdt_holds_published now c f n h = parts_hold (publish_of now c f).fdt (valid_publish now c f h.valid) (subst (λ (r : Published). Parts r.fdt) (sym (publish_as c f now)) (by (publish_refusal_of c f) refl))
  where
    by : (o : Option Refusal) → publish_refusal_of c f ≡ o → Parts (published_by c f now o).fdt
    by (Some why) e = holds_parts f h
    by None e =
        let k = publishable c f e in
        queued_each (GoodPart f.settings.sizes) f.announcer (holds_parts f h) now c h.valid.fdts k.room (record { sizes = k.sizes; fits = stored f.settings.fdt_store c f.announcer n k.part })

-- ---- a round

-- the current FDT's encoder is one of it
pub fdt_begun_valid : (w id : ℕ) (c : Part) (z : Sizes) → w ≤ largest_window → GoodPart z c → ValidEncoder (fdt_begun_of w id c z).encoder
unfolding fdt_begun_of new_of
fdt_begun_valid w id c z n g = new_sound c z w false (record { cut = refl; sizes = g.sizes; fits = g.fits }) n

pub good_left : (z : Sizes) (draft : Option Part) → GoodDraft z draft → (taken : Bool) → GoodDraft z (left_of draft taken)
good_left z draft g true = tt
good_left z draft g false = g

-- the session may be run again after it has sent
pub sent_tries : (now : ℕ) (taken : Bool) (f : Fdt) (x : FdtSession) (w : ℕ) (draft : Option Part) → FdtTries f w draft x → FdtTries (fdt_sent_of now taken f x).fdt w draft (fdt_sent_of now taken f x).session
unfolding fdt_sent_of
sent_tries now taken f x w draft t = if_on Tries x.busy (λ e. by (read_of false x.encoder).encoder (read_of false x.encoder).answer (read_means false x.encoder (t.busy e)).valid) (λ e. t)
  where
    Tries : FdtTurn → Type 0
    Tries r = FdtTries r.fdt w draft r.session

    by : (y : BlockEncoder) (a : Option Symbol) → ValidEncoder y → Tries (fdt_sent_by now taken f x y a)
    by y None v = record { holds = fdt_holds_done now f t.holds; narrow = t.narrow; looked = subst (λ (s : Settings). GoodDraft s.sizes draft) (sym (fdt_done_objects now f).settings) t.looked; busy = λ e. absurd (false≢true e) }
    by y (Some s) v = record { holds = t.holds; narrow = t.narrow; looked = t.looked; busy = λ e. v }

module _ (w now : ℕ) (draft : Option Part) (taken : Bool) (f : Fdt) (x : FdtSession) where
  abbrev pub asked : NextFdt
  asked = next_fdt_of now (left_of draft taken) f

  -- the session with the FDT that starts, or as it was
  abbrev begins : NextFdt → Sizes → FdtSession
  begins n z = let i = n.fdt.announcer.current in when n.starts then fdt_begun_of w i.id i.part z else x

  abbrev pub next_session : NextFdt → FdtSession
  next_session n = begins n n.fdt.settings.sizes

  -- the settings are as they were
  next_settings : asked.fdt.settings ≡ f.settings
  next_settings = (next_fdt_objects now (left_of draft taken) f).settings

  next_same : begins asked f.settings.sizes ≡ next_session asked
  next_same = ap (λ (s : Settings). begins asked s.sizes) (sym next_settings)

  -- what a round comes to, by whether an FDT is in hand
  abbrev attempted : Bool → FdtTurn
  attempted b = when b then fdt_sent_of now taken f x else fdt_sent_of now (taken || asked.taken) asked.fdt (begins asked f.settings.sizes)

  pub attempted_busy : x.busy ≡ true → fdt_attempted_of w now draft taken f x ≡ fdt_sent_of now taken f x
  unfolding fdt_attempted_of
  attempted_busy e = ap attempted e

  -- with nothing in hand, what is sent is of the next FDT
  pub attempted_next : x.busy ≡ false → (n : NextFdt) → asked ≡ n → (y : FdtSession) → y ≡ next_session n → fdt_attempted_of w now draft taken f x ≡ fdt_sent_of now (taken || n.taken) n.fdt y
  unfolding fdt_attempted_of
  attempted_next e n q y p =
      ap attempted e
      ∙ ap (fdt_sent_of now (taken || asked.taken) asked.fdt) next_same
      ∙ ap (λ (n : NextFdt). fdt_sent_of now (taken || n.taken) n.fdt (next_session n)) q
      ∙ ap (fdt_sent_of now (taken || n.taken) n.fdt) (sym p)

  module _ (t : FdtTries f w draft x) where
    -- the session may be run after the question for the next FDT
    asked_tries : FdtTries asked.fdt w draft (next_session asked)
    asked_tries =
        let h = fdt_holds_next now (left_of draft taken) f t.holds (good_left f.settings.sizes draft t.looked taken) in
        let i = asked.fdt.announcer.current in
        record {
          holds = h;
          narrow = t.narrow;
          looked = subst (λ (s : Settings). GoodDraft s.sizes draft) (sym next_settings) t.looked;
          busy = if_on (λ (y : FdtSession). y.busy ≡ true → ValidEncoder y.encoder) asked.starts
              (λ s e. fdt_begun_valid w i.id i.part asked.fdt.settings.sizes t.narrow (h.current (next_fdt_current now (left_of draft taken) f s)))
              (λ s e. t.busy e);
        }

    pub next_tries : (n : NextFdt) → asked ≡ n → (y : FdtSession) → y ≡ next_session n → FdtTries n.fdt w draft y
    next_tries n q y p = subst (FdtTries n.fdt w draft) (sym p) (subst (λ (n : NextFdt). FdtTries n.fdt w draft (next_session n)) q asked_tries)

    -- after a round
    round_tries : FdtTries (fdt_attempted_of w now draft taken f x).fdt w draft (fdt_attempted_of w now draft taken f x).session
    unfolding fdt_attempted_of
    round_tries = if_on (λ (r : FdtTurn). FdtTries r.fdt w draft r.session) x.busy
        (λ e. sent_tries now taken f x w draft t)
        (λ e. sent_tries now (taken || asked.taken) asked.fdt (begins asked f.settings.sizes) w draft (subst (FdtTries asked.fdt w draft) (sym next_same) asked_tries))

    pub attempted_tries : (a : FdtTurn) → fdt_attempted_of w now draft taken f x ≡ a → FdtTries a.fdt w draft a.session
    attempted_tries a q = subst (λ (r : FdtTurn). FdtTries r.fdt w draft r.session) q round_tries
