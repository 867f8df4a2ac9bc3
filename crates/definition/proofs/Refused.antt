-- A refused call leaves the desk as it was.
use mathlib.Core.Path.{◌≡◌, refl, sym, ◌∙◌}
use mathlib.Core.Bool.{Bool, true, false, false≢true}
use Rattle.std.specs.Prelude.{Option, None, Some}
use Rattle.sizes.specs.Words.{when◌then◌else◌, maybe, given, at}
use Rattle.sizes.specs.declared.refusal.Refusal.TheVariants as Because
use Rattle.sizes.specs.declared.refusal.Refusal.{Refusal}
use Rattle.definition.specs.Session.{Session}
use Rattle.definition.specs.Desk.{Desk, Question, Call, Answer, reserve_refusal, release_refusal, add_refusal, publish_refusal, draft_refusal, Result, unless, answer_to, ran, step, unloosed, fdt_queued, fdt_ran}
use Rattle.definition.specs.Apart.{number_in, refusal_in}
use Rattle.definition.specs.Promises.{RefusedStays}

-- what both cases have, a choice has
pub either : {A : Type 0} (P : A → Type 0) (t : Bool) (a b : A) → P a → P b → P (when t then a else b)
either P true a b u v = u
either P false a b u v = v

-- what the desk has, and the desk after a call that is not refused, the desk after the call has
pub kept : (P : Desk → Type 0) (x : Option Refusal) (d : Desk) (r : Result) → P d → (x ≡ None → P r.1) → P (unless x d r).1
kept P None d r u h = h refl
kept P (Some n) d r u h = u

-- the same of the result
pub settled : (P : Result → Type 0) (x : Option Refusal) (d : Desk) (r : Result) → ((why : Refusal) → P (Answer.refused why, d)) → (x ≡ None → P r) → P (unless x d r)
settled P None d r u h = h refl
settled P (Some n) d r u h = u n

stays_unless : (x : Option Refusal) (d : Desk) (r : Result) → given (refusal_in r.0) ≡ false → given (refusal_in (unless x d r).0) ≡ true → (unless x d r).1 ≡ d
stays_unless None d r h e = absurd (false≢true (sym h ∙ e))
stays_unless (Some n) d r h e = refl

-- a question's answer is no number and no refusal
pub plain : (d : Desk) (q : Question) → (number_in (answer_to d q) ≡ None) × (refusal_in (answer_to d q) ≡ None)
plain d (Question.listed t) = (refl, refl)
plain d (Question.transfers t) = (refl, refl)

pub refused_stays : RefusedStays
unfolding step ran unloosed fdt_ran fdt_queued
refused_stays s d Call.reserve e = stays_unless (reserve_refusal d) d _ refl e
refused_stays s d (Call.release t) e = stays_unless (release_refusal d t) d _ refl e
refused_stays s d (Call.add named q) e = stays_unless (add_refusal s d named q) d _ refl e
refused_stays s d (Call.touch t x) e = absurd (false≢true e)
refused_stays s d (Call.ask q) e = refl
refused_stays s d Call.complete e = absurd (false≢true e)
refused_stays s d (Call.publish now c) e = stays_unless (publish_refusal s d.fdt c) d _ refl e
refused_stays s d (Call.run_fdt now draft) e = stays_unless (draft_refusal s d.fdt draft) d _ refl e
refused_stays s d (Call.run_file i now) e = go (at d.sessions i) e
  where
    go : (x : Option Session) → given (refusal_in (maybe (Answer.refused Because.NoSession, d) (ran s now i d) x).0) ≡ true → (maybe (Answer.refused Because.NoSession, d) (ran s now i d) x).1 ≡ d
    go None e = refl
    go (Some x) e = absurd (false≢true e)
