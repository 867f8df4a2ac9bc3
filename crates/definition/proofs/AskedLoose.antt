-- A call by number that asks after a loose reservation answers no or none, and changes nothing.
use mathlib.Core.Path.{◌≡◌, refl, ap, subst}
use mathlib.Core.Bool.{Bool, true, false, not}
use Rattle.std.specs.Prelude.{Option, None, Some}
use mathlib.Core.List.{List, [], ◌∷◌, ◌++◌, map}
use Prim.Native.Nat.{ℕ}
use Rattle.sizes.specs.Words.{maybe, given, find, has, Each}
use Rattle.sizes.proofs.Tests.{none≢some}
use Rattle.sizes.proofs.Lists.{each_append, each_imp, each_left, each_right}
use Rattle.lifecycle.specs.Setup.{Setup}
use Rattle.definition.specs.Session.{Object, Hand, Session}
use Rattle.definition.specs.Desk.{not_loose, toi_for, Desk, Call, Answer, in_hands, objects, is, listed_in_hands, listed_as, moved, in_hand, step, Touch, Question, touched_waiting, touched_hand, touched, answer_to}
use Rattle.definition.specs.Apart.{asked, asked_after}
use Rattle.definition.proofs.Numbers.{Unique}
use Rattle.definition.proofs.ApartLaws.{HeldHas, fresh_toi, none_has, listed_of, each_sent}
use Rattle.definition.proofs.Touches.{collect_still}

find_none : {A : Type 0} (ok : A → Bool) (l : List A) → Each (λ a. ok a ≡ false) l → find ok l ≡ None
find_none ok [] u = refl
find_none ok (a ∷ l) u = rw u.0 (find_none ok l u.1)

map_same : {A : Type 0} (f : A → A) (l : List A) → Each (λ a. f a ≡ a) l → map f l ≡ l
map_same f [] u = refl
map_same f (a ∷ l) u = λ i. u.0 i ∷ map_same f l u.1 i

-- does the answer say no, or none
abbrev nothing_in : Answer → Bool
nothing_in (Answer.truth b) = not b
nothing_in (Answer.transferred n) = not (given n)
nothing_in (Answer.refused n) = false
nothing_in (Answer.number t) = false
nothing_in Answer.done = false
nothing_in (Answer.fdt_output b k) = false
nothing_in (Answer.output k) = false

module _ (d : Desk) (t : ℕ) (free : Each (λ o. is t o ≡ false) (objects d)) where
  waits_free : Each (λ o. is t o ≡ false) d.queue
  unfolding objects
  waits_free = each_left (λ o. is t o ≡ false) d.queue (in_hands d.sessions) free

  hands_free : Each (λ o. is t o ≡ false) (in_hands d.sessions)
  unfolding objects
  hands_free = each_right (λ o. is t o ≡ false) d.queue (in_hands d.sessions) free

  unlisted_free : listed_as d t ≡ None
  unfolding listed_as
  unlisted_free = find_none (is t) (d.queue ++ listed_in_hands d.sessions)
      (each_append (λ o. is t o ≡ false) d.queue (listed_in_hands d.sessions) waits_free (listed_of (λ o. is t o ≡ false) d.sessions hands_free))

  touched_free : (x : Touch) → touched t x d ≡ d
  unfolding touched moved touched_waiting touched_hand in_hand
  touched_free x = λ i. record {
    complete = d.complete;
    next = d.next;
    loose = d.loose;
    fdt = d.fdt;
    queue = collect_still (touched_waiting t x) d.queue (each_imp (λ o. is t o ≡ false) (λ o. touched_waiting t x o ≡ Some o) (λ o e. rw e) d.queue waits_free) i;
    sessions = map_same (in_hand (touched_hand t x)) d.sessions
        (each_imp (λ (y : Session). HeldHas (λ o. is t o ≡ false) y.hand) (λ y. in_hand (touched_hand t x) y ≡ y)
        (λ y u i. record { priority = y.priority; hand = same y.hand u i }) d.sessions (each_sent (λ o. is t o ≡ false) d.sessions hands_free)) i;
  }
    where
      same : (h : Option Hand) → HeldHas (λ o. is t o ≡ false) h → maybe None (λ h. Some (touched_hand t x h)) h ≡ h
      same None u = refl
      same (Some h) u = rw u

-- a loose number is no object's
loose_free : (s : Setup) (d : Desk) (t : ℕ) → Unique s d → has t d.loose ≡ true → Each (λ o. is t o ≡ false) (objects d)
unfolding not_loose toi_for
loose_free s d t u h = none_has t (objects d) (fresh_toi s d (Some t) u (ap not h))

-- a question after a number that no object has is answered no or none
said_nothing : (d : Desk) (q : Question) (t : ℕ) → asked_after q ≡ Some t → Each (λ o. is t o ≡ false) (objects d) → nothing_in (answer_to d q) ≡ true
said_nothing d (Question.listed v) t e free = let z : v ≡ t = cc in rw z (ap (λ (x : Option Object). not (given x)) (unlisted_free d t free))
said_nothing d (Question.transfers v) t e free = let z : v ≡ t = cc in rw z (ap (λ x. not (given (maybe None (λ (o : Object). Some o.life.total) x))) (unlisted_free d t free))

pub asked_loose : (s : Setup) (d : Desk) (c : Call) (t : ℕ) → Unique s d → asked c ≡ Some t → has t d.loose ≡ true → (nothing_in (step s d c).0 ≡ true) × ((step s d c).1 ≡ d)
unfolding step
asked_loose s d (Call.touch v x) t u e h = let free = loose_free s d v u (let z : t ≡ v = cc in subst (λ n. has n d.loose ≡ true) z h) in
    (ap (λ (x : Option Object). not (given x)) (unlisted_free d v free), touched_free d v free x)
asked_loose s d (Call.ask q) t u e h = (said_nothing d q t e (loose_free s d t u h), refl)
asked_loose s d Call.reserve t u e h = absurd (none≢some e)
asked_loose s d (Call.release v) t u e h = absurd (none≢some e)
asked_loose s d (Call.add named q) t u e h = absurd (none≢some e)
asked_loose s d Call.complete t u e h = absurd (none≢some e)
asked_loose s d (Call.publish now c) t u e h = absurd (none≢some e)
asked_loose s d (Call.run_fdt now draft) t u e h = absurd (none≢some e)
asked_loose s d (Call.run_file i now) t u e h = absurd (none≢some e)
