-- Demand 3, whole: the run where only these calls are made has them, meets no refusal 5, 6 or 7 and is answered alike.
use mathlib.Core.Path.{◌≡◌, refl, sym, ◌∙◌, ap, subst}
use mathlib.Core.Bool.{Bool, true, false, not, ◌&&◌, ◌||◌, true≢false, false≢true}
use Rattle.std.specs.Prelude.{Option, None, Some}
use mathlib.Core.List.{List, [], ◌∷◌, ◌++◌, map, append-nil}
use Prim.Native.Nat.{ℕ, suc, ◌+◌, ◌≤◌}
use native.Mathlib.Omega.{arith}
use lib.Dec.{eqb, leb}
use borrow.Author.Tests.{eqb-true, eqb-false, eq-eqb, ne_eqb, not-true, leb-false, lt-leb}
use lib.ListN.{length, length-append}
use Rattle.sizes.specs.Words.{when◌then◌else◌, maybe, keep, at, has, Each, times, one_if}
use Rattle.sizes.specs.declared.refusal.Refusal.TheVariants as Because
use Rattle.sizes.specs.declared.refusal.Refusal.{Refusal}
use Rattle.lifecycle.specs.Setup.{Setup, sound}
use Rattle.sizes.specs.Limits.{toi_entries, object_slots}
use Rattle.definition.specs.FdtSession.{FdtTurn, fdt_published, fdt_run}
use Rattle.definition.specs.Session.{Session}
use Rattle.definition.specs.Desk.{Desk, Request, Call, Answer, opening, objects, numbers, moved, numbered, with_fdt, all_published, reserved, toi_for, admitted, not_loose, full, no_room, reserve_refusal, release_refusal, add_refusal, publish_refusal, draft_refusal, draft_of, Result, unless, ran, step, unloosed, fdt_ran, Question, touched, answer_to}
use Rattle.definition.specs.Apart.{owns, about, got_after, key, call_by, answer_by, turned_away, calls, smooth, accepted, ends, adds, look, through, tie, claims, reserves, asks_loose, only, Alike, lone, Only, Demand3, about_question, question_by, number_in}
use Rattle.lifecycle.proofs.SetupLaws.{told}
use Rattle.definition.proofs.Numbers.{Unique, unique_step, tois, times_without, admissible, loose_true}
use Rattle.definition.proofs.Known.{Known, known_step, known_opening}
use Rattle.definition.proofs.ApartLaws.{got, add_result, alike, hidden, owns_noted, key_below, any_times, own_numbers}
use Rattle.definition.proofs.Alone.{Rel, carried, session_there, fewer_there, slots_there, length_tois, add_there, noted_hidden, rel_hidden, both, rel_shown, rel_opening}
use Rattle.sizes.proofs.Tests.{Tested, pass, fail, tested, and_left, and_right, or_left, or_right, none≢some}
use Rattle.sizes.proofs.Lists.{map_append, times_append, has_times, times_has}
use Rattle.definition.proofs.Refused.{plain}

-- lists of numbers
eqb_sym : (a b : ℕ) → eqb a b ≡ eqb b a
eqb_sym a b = go (tested (eqb b a))
  where
    go : Tested (eqb b a) → eqb a b ≡ eqb b a
    go (pass e) = eq-eqb a b (sym (eqb-true b a e)) ∙ sym e
    go (fail e) = ne_eqb a b (λ z. eqb-false b a e (sym z)) ∙ sym e

abbrev less : ℕ → List ℕ → List ℕ
less t l = keep (λ u. not (eqb u t)) l

keep_cong : (f g : ℕ → Bool) (l : List ℕ) → ((t : ℕ) → f t ≡ g t) → keep f l ≡ keep g l
keep_cong f g [] h = refl
keep_cong f g (a ∷ l) h = rw (h a) (elim (g a) as (λ b. (when b then a ∷ keep f l else keep f l) ≡ (when b then a ∷ keep g l else keep g l))
    [ true ↦ ap (λ r. a ∷ r) (keep_cong f g l h) | false ↦ keep_cong f g l h ])

less_none : (t : ℕ) (l : List ℕ) → has t l ≡ false → less t l ≡ l
less_none t [] h = refl
less_none t (a ∷ l) h = (elim (eqb a t) as (λ b. (b || has t l) ≡ false → (when not b then a ∷ less t l else less t l) ≡ a ∷ l)
    [ true ↦ λ h. absurd (true≢false h) | false ↦ λ h. ap (λ r. a ∷ r) (less_none t l h) ]) h

-- a number that is left out, before or after another choice
keep_ended : (f : ℕ → Bool) (u : ℕ) (l : List ℕ) → keep f (less u l) ≡ keep (λ t. when eqb u t then false else f t) l
keep_ended f u [] = refl
keep_ended f u (a ∷ l) = rw (eqb_sym u a) (elim (eqb a u)
    as (λ b. keep f (when not b then a ∷ less u l else less u l) ≡ (when (when b then false else f a) then a ∷ keep (λ t. when eqb u t then false else f t) l else keep (λ t. when eqb u t then false else f t) l)) [
      | true ↦ keep_ended f u l
      | false ↦ elim (f a) as (λ c. (when c then a ∷ keep f (less u l) else keep f (less u l)) ≡ (when c then a ∷ keep (λ t. when eqb u t then false else f t) l else keep (λ t. when eqb u t then false else f t) l))
          [ true ↦ ap (λ r. a ∷ r) (keep_ended f u l) | false ↦ keep_ended f u l ]
    ])

keep_claimed : (f : ℕ → Bool) (u : ℕ) (l : List ℕ) → keep f (less u l) ≡ less u (keep (λ t. when eqb u t then true else f t) l)
keep_claimed f u [] = refl
keep_claimed f u (a ∷ l) = rw (eqb_sym u a) ((elim (eqb a u)
    as (λ b. eqb a u ≡ b → keep f (when not b then a ∷ less u l else less u l) ≡ less u (when (when b then true else f a) then a ∷ keep (λ t. when eqb u t then true else f t) l else keep (λ t. when eqb u t then true else f t) l)) [
      | true ↦ λ e. rw e (keep_claimed f u l)
      | false ↦ λ e. elim (f a) as (λ c. (when c then a ∷ keep f (less u l) else keep f (less u l)) ≡ less u (when c then a ∷ keep (λ t. when eqb u t then true else f t) l else keep (λ t. when eqb u t then true else f t) l))
          [ true ↦ rw e (ap (λ r. a ∷ r) (keep_claimed f u l)) | false ↦ keep_claimed f u l ]
    ]) refl)

-- one more at the end
keep_append : (f : ℕ → Bool) (a b : List ℕ) → keep f (a ++ b) ≡ keep f a ++ keep f b
keep_append f [] b = refl
keep_append f (x ∷ a) b = elim (f x) as (λ c. (when c then x ∷ keep f (a ++ b) else keep f (a ++ b)) ≡ (when c then x ∷ keep f a else keep f a) ++ keep f b)
    [ true ↦ ap (λ r. x ∷ r) (keep_append f a b) | false ↦ keep_append f a b ]

keep_last : (f : ℕ → Bool) (l : List ℕ) (a : ℕ) → f a ≡ true → keep f (l ++ (a ∷ [])) ≡ keep f l ++ (a ∷ [])
keep_last f l a h = keep_append f l (a ∷ []) ∙ rw h

keep_not_last : (f : ℕ → Bool) (l : List ℕ) (a : ℕ) → f a ≡ false → keep f (l ++ (a ∷ [])) ≡ keep f l
keep_not_last f l a h = keep_append f l (a ∷ []) ∙ rw h (append-nil (keep f l))

has_not_last : (t : ℕ) (l : List ℕ) (a : ℕ) → has t (l ++ (a ∷ [])) ≡ false → (has t l ≡ false) × (eqb a t ≡ false)
has_not_last t [] a h = (refl, or_left (eqb a t) false h)
has_not_last t (x ∷ l) a h = (elim (eqb x t) as (λ b. (b || has t (l ++ (a ∷ []))) ≡ false → ((b || has t l) ≡ false) × (eqb a t ≡ false))
    [ true ↦ λ h. absurd (true≢false h) | false ↦ λ h. has_not_last t l a h ]) h

keep_length : (f : ℕ → Bool) (l : List ℕ) → length (keep f l) ≤ length l
keep_length f [] = omega arith
keep_length f (a ∷ l) = elim (f a) as (λ b. length (when b then a ∷ keep f l else keep f l) ≤ suc (length l))
    [ true ↦ (let h = keep_length f l in omega arith) | false ↦ (let h = keep_length f l in omega arith) ]

map_length : (f : ℕ → ℕ) (l : List ℕ) → length (map f l) ≡ length l
map_length f [] = refl
map_length f (a ∷ l) = ap suc (map_length f l)

has_map : (f : ℕ → ℕ) (t : ℕ) (l : List ℕ) → has t l ≡ true → has (f t) (map f l) ≡ true
has_map f t [] h = h
has_map f t (a ∷ l) h = (elim (eqb a t) as (λ b. eqb a t ≡ b → (b || has t l) ≡ true → (eqb (f a) (f t) || has (f t) (map f l)) ≡ true) [
  | true ↦ λ e h. rw (eq-eqb (f a) (f t) (ap f (eqb-true a t e)))
  | false ↦ λ e h. rw (has_map f t l h) (elim (eqb (f a) (f t)) as (λ c. (c || true) ≡ true) [ true ↦ refl | false ↦ refl ])
]) refl h

has_keep : (f : ℕ → Bool) (t : ℕ) (l : List ℕ) → f t ≡ true → has t l ≡ true → has t (keep f l) ≡ true
has_keep f t [] k h = h
has_keep f t (a ∷ l) k h = (elim (eqb a t) as (λ b. eqb a t ≡ b → (b || has t l) ≡ true → has t (when f a then a ∷ keep f l else keep f l) ≡ true) [
  | true ↦ λ e h. rw (ap f (eqb-true a t e) ∙ k) (rw e)
  | false ↦ λ e h. elim (f a) as (λ c. has t (when c then a ∷ keep f l else keep f l) ≡ true) [ true ↦ rw e (has_keep f t l k h) | false ↦ has_keep f t l k h ]
]) refl h

-- what is kept was there
kept_has : (f : ℕ → Bool) (t : ℕ) (l : List ℕ) → has t l ≡ false → has t (keep f l) ≡ false
kept_has f t [] h = refl
kept_has f t (a ∷ l) h = elim (f a) as (λ b. has t (when b then a ∷ keep f l else keep f l) ≡ false)
    [ true ↦ rw (or_left (eqb a t) (has t l) h) (kept_has f t l (or_right (eqb a t) (has t l) h)) | false ↦ kept_has f t l (or_right (eqb a t) (has t l) h) ]

less_has : (t u : ℕ) (l : List ℕ) → (eqb t u ≡ false) → has u (less t l) ≡ false → has u l ≡ false
less_has t u [] e h = h
less_has t u (a ∷ l) e h = (elim (eqb a t) as (λ b. eqb a t ≡ b → has u (when not b then a ∷ less t l else less t l) ≡ false → (eqb a u || has u l) ≡ false) [
  | true ↦ λ k h. rw (ap (λ n. eqb n u) (eqb-true a t k) ∙ e) (less_has t u l e h)
  | false ↦ λ k h. rw (or_left (eqb a u) (has u (less t l)) h) (less_has t u l e (or_right (eqb a u) (has u (less t l)) h))
]) refl h

-- a map that gives t's image once tells t apart
apart_zero : (f : ℕ → ℕ) (t : ℕ) (l : List ℕ) → times (f t) (map f l) ≡ 0 → Each (λ v. eqb (f v) (f t) ≡ eqb v t) l
apart_zero f t [] h = tt
apart_zero f t (v ∷ l) h = (elim (eqb (f v) (f t)) as (λ b. eqb (f v) (f t) ≡ b → one_if b + times (f t) (map f l) ≡ 0 → (b ≡ eqb v t) × Each (λ v. eqb (f v) (f t) ≡ eqb v t) l) [
  | true ↦ λ e h. absurd (omega arith)
  | false ↦ λ e h. (sym (ne_eqb v t (λ z. eqb-false (f v) (f t) e (ap f z))), apart_zero f t l (omega arith))
]) refl h

apart_once : (f : ℕ → ℕ) (t : ℕ) (l : List ℕ) → has t l ≡ true → times (f t) (map f l) ≤ 1 → Each (λ v. eqb (f v) (f t) ≡ eqb v t) l
apart_once f t [] k h = tt
apart_once f t (v ∷ l) k h = (elim (eqb v t) as (λ b. eqb v t ≡ b → (b || has t l) ≡ true → (eqb (f v) (f t) ≡ b) × Each (λ v. eqb (f v) (f t) ≡ eqb v t) l) [
  | true ↦ λ e k. (let z = eq-eqb (f v) (f t) (ap f (eqb-true v t e)) in (z, apart_zero f t l (let y = ap one_if z in omega arith)))
  | false ↦ λ e k. (let y = has_times (f t) (map f l) (has_map f t l k) in
      (elim (eqb (f v) (f t)) as (λ b. one_if b + times (f t) (map f l) ≤ 1 → (b ≡ false) × Each (λ v. eqb (f v) (f t) ≡ eqb v t) l)
      [ true ↦ λ h. absurd (omega arith) | false ↦ λ h. (refl, apart_once f t l k (omega arith)) ]) h)
]) refl k

less_map : (f : ℕ → ℕ) (t : ℕ) (l : List ℕ) → Each (λ v. eqb (f v) (f t) ≡ eqb v t) l → less (f t) (map f l) ≡ map f (less t l)
less_map f t [] u = refl
less_map f t (v ∷ l) u = rw u.0 (elim (eqb v t) as (λ b. (when not b then f v ∷ less (f t) (map f l) else less (f t) (map f l)) ≡ map f (when not b then v ∷ less t l else less t l))
    [ true ↦ less_map f t l u.1 | false ↦ ap (λ r. f v ∷ r) (less_map f t l u.1) ])

-- one more tie does not show at the others
map_tie : (t u : ℕ) (m : List (ℕ × ℕ)) (l : List ℕ) → has t l ≡ false → map (look ((t, u) ∷ m)) l ≡ map (look m) l
map_tie t u m [] h = refl
map_tie t u m (a ∷ l) h = λ i. one i ∷ map_tie t u m l (or_right (eqb a t) (has t l) h) i
  where
    one : look ((t, u) ∷ m) a ≡ look m a
    one = rw (eqb_sym t a ∙ or_left (eqb a t) (has t l) h)

-- the priority's loose reservations
abbrev claimed : Setup → ℕ → Desk → List Call → List ℕ
claimed s p d l = keep (λ t. claims s p t d l) d.loose

-- calls that touch no reservation
abbrev quiet : Call → Bool
quiet Call.reserve = false
quiet (Call.release t) = false
quiet (Call.add named q) = false
quiet (Call.touch t x) = true
quiet (Call.ask q) = true
quiet Call.complete = true
quiet (Call.publish now c) = true
quiet (Call.run_fdt now draft) = true
quiet (Call.run_file i now) = true

-- what such a call leaves
record Quiet (s : Setup) (p : ℕ) (d : Desk) (c : Call) : Type 0 where
  same_loose : (step s d c).1.loose ≡ d.loose
  no_end : (t : ℕ) → ends t c (step s d c).0 ≡ false
  no_tie : (a : Answer) (m : List (ℕ × ℕ)) → tie (step s d c).0 a m ≡ m
  no_note : (j : List ℕ) → got_after p c (step s d c).0 j ≡ j

-- an answer without a number ties nothing
untied : (a b : Answer) (m : List (ℕ × ℕ)) → number_in a ≡ None → tie a b m ≡ m
untied a b m h = ap (λ x. maybe m (λ t. maybe m (λ u. (t, u) ∷ m) (number_in b)) x) h

quieted : (s : Setup) (p : ℕ) (d : Desk) (c : Call) → quiet c ≡ true → Quiet s p d c
unfolding step touched moved with_fdt all_published ran fdt_ran
quieted s p d Call.reserve e = absurd (false≢true e)
quieted s p d (Call.release t) e = absurd (false≢true e)
quieted s p d (Call.add named q) e = absurd (false≢true e)
quieted s p d (Call.touch t x) e = record { same_loose = refl; no_end = λ t. refl; no_tie = λ a m. refl; no_note = λ j. refl }
quieted s p d (Call.ask q) e = record { same_loose = refl; no_end = λ t. refl; no_tie = λ a m. untied (answer_to d q) a m (plain d q).0; no_note = λ j. refl }
quieted s p d Call.complete e = record { same_loose = refl; no_end = λ t. refl; no_tie = λ a m. refl; no_note = λ j. refl }
quieted s p d (Call.publish now c) e = record { same_loose = go (publish_refusal s d.fdt c); no_end = λ t. refl; no_tie = to (publish_refusal s d.fdt c); no_note = λ j. refl }
  where
    r : Result
    r = (Answer.done, all_published (with_fdt d (fdt_published now c d.fdt)))

    go : (x : Option Refusal) → (unless x d r).1.loose ≡ d.loose
    go None = refl
    go (Some n) = refl

    to : (x : Option Refusal) (a : Answer) (m : List (ℕ × ℕ)) → tie (unless x d r).0 a m ≡ m
    to None a m = refl
    to (Some n) a m = refl
quieted s p d (Call.run_fdt now draft) e = record {
  same_loose = go (draft_refusal s d.fdt draft) (fdt_run s now (draft_of draft) d.fdt);
  no_end = λ t. refl;
  no_tie = to (draft_refusal s d.fdt draft) (fdt_run s now (draft_of draft) d.fdt);
  no_note = λ j. refl;
}
  where
    result : FdtTurn → Result
    result r = (Answer.fdt_output r.taken r.packet, when r.taken then all_published (with_fdt d r.fdt) else with_fdt d r.fdt)

    go : (x : Option Refusal) (r : FdtTurn) → (unless x d (result r)).1.loose ≡ d.loose
    go None r = elim r.taken as (λ b. (when b then all_published (with_fdt d r.fdt) else with_fdt d r.fdt).loose ≡ d.loose) [ true ↦ refl | false ↦ refl ]
    go (Some n) r = refl

    to : (x : Option Refusal) (r : FdtTurn) (a : Answer) (m : List (ℕ × ℕ)) → tie (unless x d (result r)).0 a m ≡ m
    to None r a m = refl
    to (Some n) r a m = refl
quieted s p d (Call.run_file i now) e = record { same_loose = go (at d.sessions i); no_end = λ t. refl; no_tie = to (at d.sessions i); no_note = λ j. refl }
  where
    go : (x : Option Session) → (maybe (Answer.refused Because.NoSession, d) (ran s now i d) x).1.loose ≡ d.loose
    go None = refl
    go (Some x) = refl

    to : (x : Option Session) (a : Answer) (m : List (ℕ × ℕ)) → tie (maybe (Answer.refused Because.NoSession, d) (ran s now i d) x).0 a m ≡ m
    to None a m = refl
    to (Some x) a m = refl

quiet_through : (m : List (ℕ × ℕ)) (c : Call) → quiet c ≡ true → quiet (through m c) ≡ true
quiet_through m Call.reserve e = e
quiet_through m (Call.release t) e = e
quiet_through m (Call.add named q) e = e
quiet_through m (Call.touch t x) e = e
quiet_through m (Call.ask q) e = e
quiet_through m Call.complete e = e
quiet_through m (Call.publish now c) e = e
quiet_through m (Call.run_fdt now draft) e = e
quiet_through m (Call.run_file i now) e = e

claimed_quiet : (s : Setup) (p : ℕ) (d : Desk) (c : Call) (l : List Call) → Quiet s p d c → claimed s p (step s d c).1 l ≡ claimed s p d (c ∷ l)
unfolding claims
claimed_quiet s p d c l k =
    ap (keep (λ t. claims s p t (step s d c).1 l)) k.same_loose
    ∙ keep_cong (λ t. claims s p t (step s d c).1 l) (λ t. when ends t c (step s d c).0 then adds p c else claims s p t (step s d c).1 l) d.loose (λ t. rw (k.no_end t))

-- a result's claimed reservations, and those that were claimed before the call
abbrev Then : Setup → ℕ → List Call → Result → List ℕ
Then s p l r = keep (λ t. claims s p t r.1 l) r.1.loose

abbrev Before : Setup → ℕ → Desk → Call → List Call → Result → List ℕ
Before s p d c l r = keep (λ t. when ends t c r.0 then adds p c else claims s p t r.1 l) d.loose

next_not_loose : (s : Setup) (d : Desk) → Unique s d → has d.next d.loose ≡ false
unfolding numbers
next_not_loose s d u = times_has d.next d.loose (let a = times_append d.next d.loose (tois (objects d)) in let b = u.free in omega arith)

-- an admitted add that names nothing leaves the reservations
admitted_loose : (s : Setup) (d : Desk) (q : Request) → Unique s d → (admitted s d.next q (reserved s d)).loose ≡ d.loose
unfolding admitted reserved numbered unloosed
admitted_loose s d q u = keep_not_last (λ t. not (eqb t d.next)) d.loose d.next (ap not (eq-eqb d.next d.next refl)) ∙ less_none d.next d.loose (next_not_loose s d u)

named_loose : (s : Setup) (d : Desk) (t : ℕ) (q : Request) → (admitted s t q d).loose ≡ less t d.loose
unfolding admitted unloosed
named_loose s d t q = refl

reserved_loose : (s : Setup) (d : Desk) → (reserved s d).loose ≡ d.loose ++ (d.next ∷ [])
unfolding reserved numbered
reserved_loose s d = refl

step_add : (s : Setup) (d : Desk) (named : Option ℕ) (q : Request) (x : Option Refusal) → add_refusal s d named q ≡ x → step s d (Call.add named q) ≡ unless x d (add_result s d named q)
unfolding step
step_add s d named q x e = ap (λ y. unless y d (add_result s d named q)) e

-- calls that are not the priority's leave its reservations
claimed_other : (s : Setup) (p : ℕ) (d : Desk) (c : Call) (l : List Call) → Unique s d → about p d c ≡ false → reserves s p d c l ≡ false
    → claimed s p (step s d c).1 l ≡ claimed s p d (c ∷ l)
unfolding step about reserves claims numbered toi_for unloosed
claimed_other s p d Call.reserve l u a h = go (reserve_refusal d) h
  where
    go : (x : Option Refusal) → (accepted (unless x d (Answer.number d.next, reserved s d)).0 && claims s p d.next (unless x d (Answer.number d.next, reserved s d)).1 l) ≡ false
        → Then s p l (unless x d (Answer.number d.next, reserved s d)) ≡ Before s p d Call.reserve l (unless x d (Answer.number d.next, reserved s d))
    go None h = ap (keep (λ t. claims s p t (reserved s d) l)) (reserved_loose s d) ∙ keep_not_last (λ t. claims s p t (reserved s d) l) d.loose d.next h
    go (Some n) h = refl
claimed_other s p d (Call.release v) l u a h = go (release_refusal d v)
  where
    r : Result
    r = (Answer.done, numbered d d.next (less v d.loose))

    go : (x : Option Refusal) → Then s p l (unless x d r) ≡ Before s p d (Call.release v) l (unless x d r)
    go None = keep_ended (λ t. claims s p t r.1 l) v d.loose
    go (Some n) = refl
claimed_other s p d (Call.add None q) l u a h = go (add_refusal s d None q)
  where
    go : (x : Option Refusal) → Then s p l (unless x d (add_result s d None q)) ≡ Before s p d (Call.add None q) l (unless x d (add_result s d None q))
    go None = ap (keep (λ t. claims s p t (admitted s d.next q (reserved s d)) l)) (admitted_loose s d q u)
    go (Some n) = refl
claimed_other s p d (Call.add (Some v) q) l u a h = go (add_refusal s d (Some v) q)
  where
    go : (x : Option Refusal) → Then s p l (unless x d (add_result s d (Some v) q)) ≡ Before s p d (Call.add (Some v) q) l (unless x d (add_result s d (Some v) q))
    go None = rw a (ap (keep (λ t. claims s p t (admitted s v q d) l)) (named_loose s d v q) ∙ keep_ended (λ t. claims s p t (admitted s v q d) l) v d.loose)
    go (Some n) = refl
claimed_other s p d (Call.touch t x) l u a h = claimed_quiet s p d (Call.touch t x) l (quieted s p d (Call.touch t x) refl)
claimed_other s p d (Call.ask q) l u a h = claimed_quiet s p d (Call.ask q) l (quieted s p d (Call.ask q) refl)
claimed_other s p d Call.complete l u a h = claimed_quiet s p d Call.complete l (quieted s p d Call.complete refl)
claimed_other s p d (Call.publish now c) l u a h = claimed_quiet s p d (Call.publish now c) l (quieted s p d (Call.publish now c) refl)
claimed_other s p d (Call.run_fdt now draft) l u a h = claimed_quiet s p d (Call.run_fdt now draft) l (quieted s p d (Call.run_fdt now draft) refl)
claimed_other s p d (Call.run_file i now) l u a h = claimed_quiet s p d (Call.run_file i now) l (quieted s p d (Call.run_file i now) refl)

-- the full desk, and the desk on which only these calls were made, with the ties between their numbers
record RelO (s : Setup) (p : ℕ) (j : List ℕ) (d : Desk) (i : List ℕ) (e : Desk) (m : List (ℕ × ℕ)) (C : List ℕ) : Type 0 where
  rel : Rel s p j d i e
  linked : (t : ℕ) → has t j ≡ true → has t C ≡ false → look m t ≡ got i (key j t)
  alike_loose : e.loose ≡ map (look m) C

-- where nothing but the desks changes
relO_move : (s : Setup) (p : ℕ) (j j' : List ℕ) (d d' : Desk) (i i' : List ℕ) (e e' : Desk) (m m' : List (ℕ × ℕ)) (C C' : List ℕ)
    → j' ≡ j → i' ≡ i → m' ≡ m → C' ≡ C → e'.loose ≡ e.loose → Rel s p j' d' i' e' → RelO s p j d i e m C → RelO s p j' d' i' e' m' C'
relO_move s p j j' d d' i i' e e' m m' C C' pj pi pm pc pe r o = record {
  rel = r;
  linked = λ t h k. ap (λ n. look n t) pm ∙ o.linked t (subst (λ n. has t n ≡ true) pj h) (subst (λ n. has t n ≡ false) pc k) ∙ ap (λ n. got n (key j t)) (sym pi) ∙ ap (λ n. got i' (key n t)) (sym pj);
  alike_loose = pe ∙ o.alike_loose ∙ ap (λ n. map (look n) C) (sym pm) ∙ ap (map (look m')) (sym pc);
}

one_length : (s : Setup) (p : ℕ) (j : List ℕ) (d : Desk) (i : List ℕ) (e : Desk) → Rel s p j d i e → length i ≡ length j
one_length s p j d i e r = let a = ap (λ (v : Desk). v.next) r.same in omega arith

-- one more admission on both sides
linked_more : (t t' : ℕ) (m : List (ℕ × ℕ)) (i j C C' : List ℕ) → length i ≡ length j
    → ((u : ℕ) → has u j ≡ true → has u C ≡ false → look m u ≡ got i (key j u))
    → ((u : ℕ) → eqb t u ≡ false → has u C' ≡ false → has u C ≡ false)
    → (u : ℕ) → has u (t ∷ j) ≡ true → has u C' ≡ false → look ((t, t') ∷ m) u ≡ got (t' ∷ i) (key (t ∷ j) u)
unfolding got
linked_more t t' m i j C C' n f g u h k = (elim (eqb t u) as (λ b. eqb t u ≡ b → (b || has u j) ≡ true
    → (when b then t' else look m u) ≡ (when eqb (suc (length i)) (when b then suc (length j) else key j u) then t' else got i (when b then suc (length j) else key j u))) [
      | true ↦ λ e h. rw (eq-eqb (suc (length i)) (suc (length j)) (ap suc n))
      | false ↦ λ e h. (let z = key_below j u h in rw (ne_eqb (suc (length i)) (key j u) (λ y. absurd (omega arith))) (f u h (g u e k)))
    ]) refl h

loose_once : (s : Setup) (d : Desk) → Unique s d → (t : ℕ) → times t d.loose ≤ 1
unfolding numbers
loose_once s d u t = let a = times_append t d.loose (tois (objects d)) in let b = u.once t in omega arith

-- an admitted add of the priority, on both sides
module _ (s : Setup) (p : ℕ) (j : List ℕ) (d : Desk) (i : List ℕ) (e : Desk) (m : List (ℕ × ℕ)) (l : List Call) (q : Request) (a : eqb q.priority p ≡ true) where
  add_none : RelO s p j d i e m (Before s p d (Call.add None q) l (add_result s d None q))
      → Rel s p (got_after p (Call.add None q) (Answer.number d.next) j) (add_result s d None q).1 (got_after p (Call.add None q) (Answer.number e.next) i) (add_result s e None q).1
      → RelO s p (got_after p (Call.add None q) (Answer.number d.next) j) (add_result s d None q).1 (got_after p (Call.add None q) (Answer.number e.next) i) (add_result s e None q).1
      ((d.next, e.next) ∷ m) (Then s p l (add_result s d None q))
  unfolding toi_for
  add_none o r = record {
    rel = r;
    linked = rw a (linked_more d.next e.next m i j (Before s p d (Call.add None q) l (add_result s d None q)) (Then s p l (add_result s d None q))
        (one_length s p j d i e o.rel) o.linked (λ u y k. subst (λ n. has u n ≡ false) same k));
    alike_loose = admitted_loose s e q o.rel.unique' ∙ o.alike_loose
        ∙ sym (map_tie d.next e.next m (Before s p d (Call.add None q) l (add_result s d None q)) (kept_has (λ t. claims s p t (add_result s d None q).1 l) d.next d.loose (next_not_loose s d o.rel.unique)))
        ∙ ap (map (look ((d.next, e.next) ∷ m))) (sym same);
  }
    where
      same : Then s p l (add_result s d None q) ≡ Before s p d (Call.add None q) l (add_result s d None q)
      same = ap (keep (λ t. claims s p t (admitted s d.next q (reserved s d)) l)) (admitted_loose s d q o.rel.unique)

  add_some : (t : ℕ) → has t d.loose ≡ true → RelO s p j d i e m (Before s p d (Call.add (Some t) q) l (add_result s d (Some t) q))
      → Rel s p (got_after p (Call.add (Some t) q) (Answer.number t) j) (add_result s d (Some t) q).1 (got_after p (Call.add (Some (look m t)) q) (Answer.number (look m t)) i) (add_result s e (Some (look m t)) q).1
      → RelO s p (got_after p (Call.add (Some t) q) (Answer.number t) j) (add_result s d (Some t) q).1 (got_after p (Call.add (Some (look m t)) q) (Answer.number (look m t)) i) (add_result s e (Some (look m t)) q).1
      ((t, look m t) ∷ m) (Then s p l (add_result s d (Some t) q))
  unfolding toi_for
  add_some t z o r = record {
    rel = r;
    linked = rw a (linked_more t (look m t) m i j old (Then s p l (add_result s d (Some t) q)) (one_length s p j d i e o.rel) o.linked
        (λ u y k. less_has t u old y (subst (λ n. has u n ≡ false) same k)));
    alike_loose = named_loose s e (look m t) q ∙ ap (less (look m t)) o.alike_loose
        ∙ less_map (look m) t old (apart_once (look m) t old in_old once)
        ∙ sym (map_tie t (look m t) m (less t old) (times_has t (less t old) (times_without t old)))
        ∙ ap (map (look ((t, look m t) ∷ m))) (sym same);
  }
    where
      old : List ℕ
      old = Before s p d (Call.add (Some t) q) l (add_result s d (Some t) q)

      same : Then s p l (add_result s d (Some t) q) ≡ less t old
      same = ap (keep (λ v. claims s p v (admitted s t q d) l)) (named_loose s d t q) ∙ keep_claimed (λ v. claims s p v (admitted s t q d) l) t d.loose
          ∙ ap (less t) (keep_cong (λ v. when eqb t v then true else claims s p v (admitted s t q d) l) (λ v. when eqb t v then eqb q.priority p else claims s p v (admitted s t q d) l) d.loose (λ v. rw a))

      in_old : has t old ≡ true
      in_old = has_keep (λ v. when eqb t v then eqb q.priority p else claims s p v (admitted s t q d) l) t d.loose (rw (eq-eqb t t refl) a) z

      once : times (look m t) (map (look m) old) ≤ 1
      once = subst (λ n. times (look m t) n ≤ 1) o.alike_loose (loose_once s e o.rel.unique' (look m t))

-- an owned number is no loose one
owned_not_loose : (s : Setup) (p : ℕ) (d : Desk) (t : ℕ) → Unique s d → owns p d t ≡ true → has t d.loose ≡ false
unfolding owns numbers
owned_not_loose s p d t u h = times_has t d.loose (
    let a = any_times p t (objects d) h in
    let b = times_append t d.loose (tois (objects d)) in
    let c = u.once t in omega arith)

-- so its tie is its key's
owned_tied : (s : Setup) (p : ℕ) (j : List ℕ) (d : Desk) (i : List ℕ) (e : Desk) (m : List (ℕ × ℕ)) (f : ℕ → Bool) (t : ℕ)
    → RelO s p j d i e m (keep f d.loose) → owns p d t ≡ true → look m t ≡ got i (key j t)
owned_tied s p j d i e m f t o h = o.linked t (owns_noted p j d t o.rel.known h) (kept_has f t d.loose (owned_not_loose s p d t o.rel.unique h))

-- a reservation of the priority is loose there, and so no object has its number
loose_there : (s : Setup) (p : ℕ) (j : List ℕ) (d : Desk) (i : List ℕ) (e : Desk) (m : List (ℕ × ℕ)) (f : ℕ → Bool) (t : ℕ)
    → RelO s p j d i e m (keep f d.loose) → (has t d.loose && f t) ≡ true → has (look m t) e.loose ≡ true
loose_there s p j d i e m f t o h = subst (λ n. has (look m t) n ≡ true) (sym o.alike_loose)
    (has_map (look m) t (keep f d.loose) (has_keep f t d.loose (and_right (has t d.loose) (f t) h) (and_left (has t d.loose) (f t) h)))

unowned_there : (s : Setup) (p : ℕ) (j : List ℕ) (d : Desk) (i : List ℕ) (e : Desk) (m : List (ℕ × ℕ)) (f : ℕ → Bool) (t : ℕ)
    → RelO s p j d i e m (keep f d.loose) → (has t d.loose && f t) ≡ true → owns p e (look m t) ≡ false
unowned_there s p j d i e m f t o h = go (tested (owns p e (look m t)))
  where
    go : Tested (owns p e (look m t)) → owns p e (look m t) ≡ false
    go (pass z) = absurd (true≢false (sym (loose_there s p j d i e m f t o h) ∙ owned_not_loose s p e (look m t) o.rel.unique' z))
    go (fail z) = z

-- and it has its like there
same_there : (s : Setup) (p : ℕ) (j : List ℕ) (d : Desk) (i : List ℕ) (e : Desk) (m : List (ℕ × ℕ)) (f : ℕ → Bool) (t : ℕ)
    → RelO s p j d i e m (keep f d.loose) → owns p d t ≡ true → (owns p e (look m t) ≡ true) × (key i (look m t) ≡ key j t)
same_there s p j d i e m f t o a = let z = owned_tied s p j d i e m f t o a in let y = carried s p j d i e t o.rel a in
    (subst (λ n. owns p e n ≡ true) (sym z) y.0, ap (key i) z ∙ y.1)

question_there : (s : Setup) (p : ℕ) (j : List ℕ) (d : Desk) (i : List ℕ) (e : Desk) (m : List (ℕ × ℕ)) (f : ℕ → Bool) (q : Question)
    → RelO s p j d i e m (keep f d.loose) → about_question p d q ≡ true
    → (about_question p e (question_by (look m) q) ≡ true) × (Call.ask (question_by (key i) (question_by (look m) q)) ≡ Call.ask (question_by (key j) q))
question_there s p j d i e m f (Question.listed t) o a = let z = same_there s p j d i e m f t o a in (z.0, ap (λ n. Call.ask (Question.listed n)) z.1)
question_there s p j d i e m f (Question.transfers t) o a = let z = same_there s p j d i e m f t o a in (z.0, ap (λ n. Call.ask (Question.transfers n)) z.1)

-- a call of the priority and its like there
like_there : (s : Setup) (p : ℕ) (j : List ℕ) (d : Desk) (i : List ℕ) (e : Desk) (m : List (ℕ × ℕ)) (f : ℕ → Bool) (c : Call)
    → RelO s p j d i e m (keep f d.loose) → about p d c ≡ true → (about p e (through m c) ≡ true) × (call_by (key i) (through m c) ≡ call_by (key j) c)
unfolding about
like_there s p j d i e m f Call.reserve o a = absurd (false≢true a)
like_there s p j d i e m f (Call.release t) o a = absurd (false≢true a)
like_there s p j d i e m f (Call.add named q) o a = (a, refl)
like_there s p j d i e m f (Call.touch t x) o a = let z = same_there s p j d i e m f t o a in (z.0, ap (λ n. Call.touch n x) z.1)
like_there s p j d i e m f (Call.ask q) o a = question_there s p j d i e m f q o a
like_there s p j d i e m f Call.complete o a = (refl, refl)
like_there s p j d i e m f (Call.publish now c) o a = (refl, refl)
like_there s p j d i e m f (Call.run_fdt now draft) o a = (refl, refl)
like_there s p j d i e m f (Call.run_file n now) o a = (session_there s p j d i e now n o.rel a, refl)

-- no more entries there
full_there : (s : Setup) (p : ℕ) (j : List ℕ) (d : Desk) (i : List ℕ) (e : Desk) (m : List (ℕ × ℕ)) (f : ℕ → Bool)
    → RelO s p j d i e m (keep f d.loose) → full d ≡ false → full e ≡ false
unfolding full numbers
full_there s p j d i e m f o h =
    let a = leb-false toi_entries (length (d.loose ++ tois (objects d))) h in
    let b = length-append d.loose (tois (objects d)) in
    let c = length-append e.loose (tois (objects e)) in
    let g = ap length o.alike_loose in
    let k = map_length (look m) (keep f d.loose) in
    let n = keep_length f d.loose in
    let x = fewer_there s p j d i e o.rel in
    let y = length_tois (objects d) in
    let z = length_tois (objects e) in
    lt-leb toi_entries (length (e.loose ++ tois (objects e))) (omega arith)

-- an admitted add claims the reservation that it names
claims_own : (s : Setup) (p : ℕ) (d : Desk) (t : ℕ) (q : Request) (l : List Call) → eqb q.priority p ≡ true → add_refusal s d (Some t) q ≡ None → claims s p t d (Call.add (Some t) q ∷ l) ≡ true
unfolding claims
claims_own s p d t q l a y =
    ap (λ (r : Result). when ends t (Call.add (Some t) q) r.0 then eqb q.priority p else claims s p t r.1 l) (step_add s d (Some t) q None y)
    ∙ ap (λ b. when b then eqb q.priority p else claims s p t (add_result s d (Some t) q).1 l) (eq-eqb t t refl) ∙ a

-- rows 6 and 7 there
rows_there : (s : Setup) (p : ℕ) (j : List ℕ) (d : Desk) (i : List ℕ) (e : Desk) (m : List (ℕ × ℕ)) (l : List Call) (named : Option ℕ) (q : Request) → eqb q.priority p ≡ true
    → RelO s p j d i e m (claimed s p d (Call.add named q ∷ l)) → add_refusal s d named q ≡ None
    → (not_loose e (maybe None (λ t. Some (look m t)) named) ≡ false) × (no_room e (maybe None (λ t. Some (look m t)) named) ≡ false)
unfolding not_loose no_room
rows_there s p j d i e m l None q a o y =
    let k = admissible s d None q y in
    (refl, rw (slots_there s p j d i e o.rel None k.has_room) (full_there s p j d i e m (λ t. claims s p t d (Call.add None q ∷ l)) o (or_right (leb object_slots (length (objects d))) (full d) k.has_room)))
rows_there s p j d i e m l (Some t) q a o y =
    let z = claims_own s p d t q l a y in (
      ap not (loose_there s p j d i e m (λ u. claims s p u d (Call.add (Some t) q ∷ l)) t o (rw (loose_true s d t q y, z))),
      rw (slots_there s p j d i e o.rel (Some t) (admissible s d (Some t) q y).has_room),
    )

-- turned away there only if here
clear_there : (s : Setup) (p : ℕ) (j : List ℕ) (d : Desk) (i : List ℕ) (e : Desk) (m : List (ℕ × ℕ)) (l : List Call) (c : Call)
    → RelO s p j d i e m (claimed s p d (c ∷ l)) → about p d c ≡ true → turned_away p c (step s d c).0 ≡ false → turned_away p (through m c) (step s e (through m c)).0 ≡ false
unfolding about
clear_there s p j d i e m l (Call.add named q) o a h = rw a (add_there s p j d i e named (maybe None (λ t. Some (look m t)) named) q o.rel (rows_there s p j d i e m l named q a o) (rw a at h))
clear_there s p j d i e m l Call.reserve o a h = refl
clear_there s p j d i e m l (Call.release t) o a h = refl
clear_there s p j d i e m l (Call.touch t x) o a h = refl
clear_there s p j d i e m l (Call.ask q) o a h = refl
clear_there s p j d i e m l Call.complete o a h = refl
clear_there s p j d i e m l (Call.publish now c) o a h = refl
clear_there s p j d i e m l (Call.run_fdt now draft) o a h = refl
clear_there s p j d i e m l (Call.run_file n now) o a h = refl

accepted_by : (f : ℕ → ℕ) (a : Answer) → accepted (answer_by f a) ≡ accepted a
accepted_by f (Answer.refused n) = refl
accepted_by f (Answer.number t) = refl
accepted_by f Answer.done = refl
accepted_by f (Answer.truth b) = refl
accepted_by f (Answer.transferred n) = refl
accepted_by f (Answer.fdt_output b k) = refl
accepted_by f (Answer.output k) = refl

-- a call that touches no reservation, on both sides
after_quiet : (s : Setup) (p : ℕ) (j : List ℕ) (d : Desk) (i : List ℕ) (e : Desk) (m : List (ℕ × ℕ)) (l : List Call) (c : Call) → quiet c ≡ true
    → RelO s p j d i e m (claimed s p d (c ∷ l))
    → Rel s p (got_after p c (step s d c).0 j) (step s d c).1 (got_after p (through m c) (step s e (through m c)).0 i) (step s e (through m c)).1
    → RelO s p (got_after p c (step s d c).0 j) (step s d c).1 (got_after p (through m c) (step s e (through m c)).0 i) (step s e (through m c)).1
    (tie (step s d c).0 (step s e (through m c)).0 m) (claimed s p (step s d c).1 l)
after_quiet s p j d i e m l c k o r =
    let x = quieted s p d c k in
    let y = quieted s p e (through m c) (quiet_through m c k) in
    relO_move s p j (got_after p c (step s d c).0 j) d (step s d c).1 i (got_after p (through m c) (step s e (through m c)).0 i) e (step s e (through m c)).1
    m (tie (step s d c).0 (step s e (through m c)).0 m) (claimed s p d (c ∷ l)) (claimed s p (step s d c).1 l)
    (x.no_note j) (y.no_note i) (x.no_tie (step s e (through m c)).0 m) (claimed_quiet s p d c l x) y.same_loose r o

-- an add of the priority, on both sides
module _ (s : Setup) (p : ℕ) (j : List ℕ) (d : Desk) (i : List ℕ) (e : Desk) (m : List (ℕ × ℕ)) (l : List Call) (q : Request) (a : eqb q.priority p ≡ true) where
  abbrev After : Call → Call → Result → Result → Type 0
  After c c' r r' = RelO s p (got_after p c r.0 j) r.1 (got_after p c' r'.0 i) r'.1 (tie r.0 r'.0 m) (Then s p l r)

  abbrev AfterRel : Call → Call → Result → Result → Type 0
  AfterRel c c' r r' = Rel s p (got_after p c r.0 j) r.1 (got_after p c' r'.0 i) r'.1

  after_add : (named : Option ℕ) (x y : Option Refusal) → add_refusal s d named q ≡ x
      → accepted (unless x d (add_result s d named q)).0 ≡ accepted (unless y e (add_result s e (maybe None (λ t. Some (look m t)) named) q)).0
      → RelO s p j d i e m (Before s p d (Call.add named q) l (unless x d (add_result s d named q)))
      → AfterRel (Call.add named q) (Call.add (maybe None (λ t. Some (look m t)) named) q) (unless x d (add_result s d named q)) (unless y e (add_result s e (maybe None (λ t. Some (look m t)) named) q))
      → After (Call.add named q) (Call.add (maybe None (λ t. Some (look m t)) named) q) (unless x d (add_result s d named q)) (unless y e (add_result s e (maybe None (λ t. Some (look m t)) named) q))
  unfolding toi_for
  after_add None None None h v o r = add_none s p j d i e m l q a o r
  after_add (Some t) None None h v o r = add_some s p j d i e m l q a t (loose_true s d t q h) o r
  after_add None None (Some n) h v o r = absurd (true≢false v)
  after_add (Some t) None (Some n) h v o r = absurd (true≢false v)
  after_add None (Some k) None h v o r = absurd (false≢true v)
  after_add (Some t) (Some k) None h v o r = absurd (false≢true v)
  after_add None (Some k) (Some n) h v o r = relO_move s p j j d d i i e e m m _ _ refl refl refl refl refl r o
  after_add (Some t) (Some k) (Some n) h v o r = relO_move s p j j d d i i e e m m _ _ refl refl refl refl refl r o

module _ (s : Setup) (p : ℕ) (w : 16 ≤ s.width) where
  -- after a call of the priority, made here and there
  after_shown : (j : List ℕ) (d : Desk) (i : List ℕ) (e : Desk) (m : List (ℕ × ℕ)) (l : List Call) (c : Call)
      → RelO s p j d i e m (claimed s p d (c ∷ l)) → about p d c ≡ true → accepted (step s d c).0 ≡ accepted (step s e (through m c)).0
      → Rel s p (got_after p c (step s d c).0 j) (step s d c).1 (got_after p (through m c) (step s e (through m c)).0 i) (step s e (through m c)).1
      → RelO s p (got_after p c (step s d c).0 j) (step s d c).1 (got_after p (through m c) (step s e (through m c)).0 i) (step s e (through m c)).1
      (tie (step s d c).0 (step s e (through m c)).0 m) (claimed s p (step s d c).1 l)
  unfolding step claims about
  after_shown j d i e m l (Call.add named q) o a v r =
      after_add s p j d i e m l q a named (add_refusal s d named q) (add_refusal s e (maybe None (λ t. Some (look m t)) named) q) refl v o r
  after_shown j d i e m l Call.reserve o a v r = absurd (false≢true a)
  after_shown j d i e m l (Call.release t) o a v r = absurd (false≢true a)
  after_shown j d i e m l (Call.touch t x) o a v r = after_quiet s p j d i e m l (Call.touch t x) refl o r
  after_shown j d i e m l (Call.ask q) o a v r = after_quiet s p j d i e m l (Call.ask q) refl o r
  after_shown j d i e m l Call.complete o a v r = after_quiet s p j d i e m l Call.complete refl o r
  after_shown j d i e m l (Call.publish now c) o a v r = after_quiet s p j d i e m l (Call.publish now c) refl o r
  after_shown j d i e m l (Call.run_fdt now draft) o a v r = after_quiet s p j d i e m l (Call.run_fdt now draft) refl o r
  after_shown j d i e m l (Call.run_file n now) o a v r = after_quiet s p j d i e m l (Call.run_file n now) refl o r

  -- a call there that is not about the priority, and admits nothing, does not show
  rel_there : (j : List ℕ) (d : Desk) (i : List ℕ) (e : Desk) (c : Call) → Rel s p j d i e → about p e c ≡ false → ((n : ℕ) → got_after n c (step s e c).0 [] ≡ [])
      → Rel s p j d (got_after p c (step s e c).0 i) (step s e c).1
  rel_there j d i e c r a k = record {
    unique = r.unique;
    known = r.known;
    unique' = unique_step s e c w r.unique';
    known' = known_step p i s e c r.known';
    same = r.same ∙ sym (hidden p i s e c r.known' a);
    lonely = λ n z. subst (λ y. Known n y (step s e c).1) (k n) (known_step n [] s e c (r.lonely n z));
  }

  -- a reservation of the priority, made here and there
  reserve_both : (j : List ℕ) (d : Desk) (i : List ℕ) (e : Desk) (m : List (ℕ × ℕ)) (l : List Call) (x y : Option Refusal)
      → (accepted (unless x d (Answer.number d.next, reserved s d)).0 && claims s p d.next (unless x d (Answer.number d.next, reserved s d)).1 l) ≡ true
      → y ≡ None
      → RelO s p j d i e m (Before s p d Call.reserve l (unless x d (Answer.number d.next, reserved s d)))
      → Rel s p j (unless x d (Answer.number d.next, reserved s d)).1 i (unless y e (Answer.number e.next, reserved s e)).1
      → RelO s p j (unless x d (Answer.number d.next, reserved s d)).1 i (unless y e (Answer.number e.next, reserved s e)).1
      (tie (unless x d (Answer.number d.next, reserved s d)).0 (unless y e (Answer.number e.next, reserved s e)).0 m) (Then s p l (unless x d (Answer.number d.next, reserved s d)))
  reserve_both j d i e m l (Some n) y h v o r = absurd (false≢true h)
  reserve_both j d i e m l None (Some n) h v o r = absurd (none≢some (sym v))
  reserve_both j d i e m l None None h v o r = record {
    rel = r;
    linked = λ t z k. (let y = has_not_last t old d.next (subst (λ n. has t n ≡ false) grown k) in ap (λ b. when b then e.next else look m t) y.1 ∙ o.linked t z y.0);
    alike_loose = reserved_loose s e ∙ ap (λ n. n ++ (e.next ∷ [])) (o.alike_loose ∙ sym (map_tie d.next e.next m old not_old))
        ∙ ap (λ n. map (look ((d.next, e.next) ∷ m)) old ++ (n ∷ [])) (sym own) ∙ sym (map_append (look ((d.next, e.next) ∷ m)) old (d.next ∷ []))
        ∙ ap (map (look ((d.next, e.next) ∷ m))) (sym grown);
  }
    where
      own : look ((d.next, e.next) ∷ m) d.next ≡ e.next
      own = rw (eq-eqb d.next d.next refl)

      old : List ℕ
      old = keep (λ t. claims s p t (reserved s d) l) d.loose

      grown : Then s p l (Answer.number d.next, reserved s d) ≡ old ++ (d.next ∷ [])
      grown = ap (keep (λ t. claims s p t (reserved s d) l)) (reserved_loose s d) ∙ keep_last (λ t. claims s p t (reserved s d) l) d.loose d.next h

      not_old : has d.next old ≡ false
      not_old = kept_has (λ t. claims s p t (reserved s d) l) d.next d.loose (next_not_loose s d o.rel.unique)

  full_false : (d : Desk) (b : Bool) → accepted (unless (when b then Some Because.Full else None) d (Answer.number d.next, reserved s d)).0 ≡ true → b ≡ false
  full_false d true h = absurd (false≢true h)
  full_false d false h = refl

  -- after a call that is made there, and is not about the priority
  abbrev There : List ℕ → Desk → List ℕ → Desk → List (ℕ × ℕ) → List Call → Call → Type 0
  There j d i e m l c = (RelO s p (got_after p c (step s d c).0 j) (step s d c).1 (got_after p (through m c) (step s e (through m c)).0 i) (step s e (through m c)).1
      (tie (step s d c).0 (step s e (through m c)).0 m) (claimed s p (step s d c).1 l))
      × (about p e (through m c) ≡ false) × (turned_away p (through m c) (step s e (through m c)).0 ≡ false)

  after_reserve : (j : List ℕ) (d : Desk) (i : List ℕ) (e : Desk) (m : List (ℕ × ℕ)) (l : List Call) (c : Call)
      → RelO s p j d i e m (claimed s p d (c ∷ l)) → about p d c ≡ false → reserves s p d c l ≡ true → There j d i e m l c
  unfolding reserves about step claims reserve_refusal
  after_reserve j d i e m l Call.reserve o a h = (
    reserve_both j d i e m l (reserve_refusal d) (reserve_refusal e) h
        (ap (λ b. when b then Some Because.Full else None) (full_there s p j d i e m (λ t. claims s p t d (Call.reserve ∷ l)) o (full_false d (full d) (and_left _ _ h)))) o
        (rel_there j (step s d Call.reserve).1 i e Call.reserve (rel_hidden s p w j d i e Call.reserve o.rel a) refl (λ n. refl)),
    refl,
    refl,
  )
  after_reserve j d i e m l (Call.release t) o a h = absurd (false≢true h)
  after_reserve j d i e m l (Call.add named q) o a h = absurd (false≢true h)
  after_reserve j d i e m l (Call.touch t x) o a h = absurd (false≢true h)
  after_reserve j d i e m l (Call.ask q) o a h = absurd (false≢true h)
  after_reserve j d i e m l Call.complete o a h = absurd (false≢true h)
  after_reserve j d i e m l (Call.publish now c) o a h = absurd (false≢true h)
  after_reserve j d i e m l (Call.run_fdt now draft) o a h = absurd (false≢true h)
  after_reserve j d i e m l (Call.run_file n now) o a h = absurd (false≢true h)

  -- a call that asks after a reservation of the priority, made here and there
  asked_both : (j : List ℕ) (d : Desk) (i : List ℕ) (e : Desk) (m : List (ℕ × ℕ)) (l : List Call) (c : Call) → quiet c ≡ true
      → RelO s p j d i e m (claimed s p d (c ∷ l)) → about p d c ≡ false → about p e (through m c) ≡ false
      → RelO s p (got_after p c (step s d c).0 j) (step s d c).1 (got_after p (through m c) (step s e (through m c)).0 i) (step s e (through m c)).1
      (tie (step s d c).0 (step s e (through m c)).0 m) (claimed s p (step s d c).1 l)
  asked_both j d i e m l c k o a b = after_quiet s p j d i e m l c k o
      (rel_there (got_after p c (step s d c).0 j) (step s d c).1 i e (through m c) (rel_hidden s p w j d i e c o.rel a) b (λ n. (quieted s n e (through m c) (quiet_through m c k)).no_note []))

  -- a question after a reservation of the priority is about none of its objects there
  unasked : (j : List ℕ) (d : Desk) (i : List ℕ) (e : Desk) (m : List (ℕ × ℕ)) (l : List Call) (q : Question)
      → RelO s p j d i e m (claimed s p d (Call.ask q ∷ l)) → asks_loose s p d (Call.ask q) l ≡ true → about_question p e (question_by (look m) q) ≡ false
  unfolding asks_loose claims step
  unasked j d i e m l (Question.listed t) o h = unowned_there s p j d i e m (λ u. claims s p u d (Call.ask (Question.listed t) ∷ l)) t o h
  unasked j d i e m l (Question.transfers t) o h = unowned_there s p j d i e m (λ u. claims s p u d (Call.ask (Question.transfers t) ∷ l)) t o h

  after_asked : (j : List ℕ) (d : Desk) (i : List ℕ) (e : Desk) (m : List (ℕ × ℕ)) (l : List Call) (c : Call)
      → RelO s p j d i e m (claimed s p d (c ∷ l)) → about p d c ≡ false → asks_loose s p d c l ≡ true → There j d i e m l c
  unfolding asks_loose about claims
  after_asked j d i e m l (Call.touch t x) o a h = let b = unowned_there s p j d i e m (λ u. claims s p u d (Call.touch t x ∷ l)) t o h in
      (asked_both j d i e m l (Call.touch t x) refl o a b, b, refl)
  after_asked j d i e m l (Call.ask q) o a h = let b = unasked j d i e m l q o h in
      (asked_both j d i e m l (Call.ask q) refl o a b, b, refl)
  after_asked j d i e m l Call.reserve o a h = absurd (false≢true h)
  after_asked j d i e m l (Call.release t) o a h = absurd (false≢true h)
  after_asked j d i e m l (Call.add named q) o a h = absurd (false≢true h)
  after_asked j d i e m l Call.complete o a h = absurd (false≢true h)
  after_asked j d i e m l (Call.publish now c) o a h = absurd (false≢true h)
  after_asked j d i e m l (Call.run_fdt now draft) o a h = absurd (false≢true h)
  after_asked j d i e m l (Call.run_file n now) o a h = absurd (false≢true h)

  -- a call of the one kind or the other
  after_there : (j : List ℕ) (d : Desk) (i : List ℕ) (e : Desk) (m : List (ℕ × ℕ)) (l : List Call) (c : Call)
      → RelO s p j d i e m (claimed s p d (c ∷ l)) → about p d c ≡ false → (reserves s p d c l || asks_loose s p d c l) ≡ true → There j d i e m l c
  after_there j d i e m l c o a h = go (tested (reserves s p d c l))
    where
      go : Tested (reserves s p d c l) → There j d i e m l c
      go (pass z) = after_reserve j d i e m l c o a z
      go (fail z) = after_asked j d i e m l c o a (rw z at h)

  -- any other call is made here only
  after_other : (j : List ℕ) (d : Desk) (i : List ℕ) (e : Desk) (m : List (ℕ × ℕ)) (l : List Call) (c : Call)
      → RelO s p j d i e m (claimed s p d (c ∷ l)) → about p d c ≡ false → reserves s p d c l ≡ false
      → got_after p c (step s d c).0 j ≡ j
      → RelO s p (got_after p c (step s d c).0 j) (step s d c).1 i e m (claimed s p (step s d c).1 l)
  after_other j d i e m l c o a h n = relO_move s p j (got_after p c (step s d c).0 j) d (step s d c).1 i i e e m m (claimed s p d (c ∷ l)) (claimed s p (step s d c).1 l)
      n refl refl (claimed_other s p d c l o.rel.unique a h) refl (rel_hidden s p w j d i e c o.rel a) o

  abbrev Same : List ℕ → Desk → List ℕ → Desk → List Call → List Call → Type 0
  Same j d i e l k = (smooth s p e k ≡ true) × (calls s p i e k ≡ calls s p j d l)

  only_run : (j : List ℕ) (d : Desk) (i : List ℕ) (e : Desk) (m : List (ℕ × ℕ)) (l : List Call) → RelO s p j d i e m (claimed s p d l) → smooth s p d l ≡ true
      → Same j d i e l (only s p m d e l)
  unfolding only smooth calls
  only_run j d i e m [] o h = (refl, refl)
  only_run j d i e m (c ∷ l) o h =
      let on = and_right (not (turned_away p c (step s d c).0)) (smooth s p (step s d c).1 l) h in
      let clear = not-true (turned_away p c (step s d c).0) (and_left (not (turned_away p c (step s d c).0)) (smooth s p (step s d c).1 l) h) in
      let c' = through m c in
      let d' = (step s d c).1 in
      let e' = (step s e c').1 in
      let j' = got_after p c (step s d c).0 j in
      let i' = got_after p c' (step s e c').0 i in
      let m' = tie (step s d c).0 (step s e c').0 m in
      let there = only s p m' d' e' l in
      (elim (about p d c) as (λ b. about p d c ≡ b
      → (smooth s p e (when b || reserves s p d c l || asks_loose s p d c l then c' ∷ there else only s p m d' e l) ≡ true)
      × (calls s p i e (when b || reserves s p d c l || asks_loose s p d c l then c' ∷ there else only s p m d' e l) ≡ (when b then call_by (key j) c ∷ calls s p j' d' l else calls s p j' d' l))) [
        | true ↦ λ a. (
            let k = like_there s p j d i e m (λ t. claims s p t d (c ∷ l)) c o a in
            let z = clear_there s p j d i e m l c o a clear in
            let v = both s p w j d i e c c' o.rel a clear k.0 k.1 z in
            let u = sym (accepted_by (key j') (step s d c).0) ∙ ap (λ (x : Result). accepted x.0) v ∙ accepted_by (key i') (step s e c').0 in
            let rest = only_run j' d' i' e' m' l (after_shown j d i e m l c o a u (rel_shown s p w j d i e c c' o.rel a clear k.0 k.1 z)) on in
            (rw z rest.0, rw k.0 (λ x. k.1 x ∷ rest.1 x)))
        | false ↦ λ a. (elim (reserves s p d c l || asks_loose s p d c l) as (λ f. (reserves s p d c l || asks_loose s p d c l) ≡ f
            → (smooth s p e (when f then c' ∷ there else only s p m d' e l) ≡ true) × (calls s p i e (when f then c' ∷ there else only s p m d' e l) ≡ calls s p j' d' l)) [
              | true ↦ λ f. (
                  let k = after_there j d i e m l c o a f in
                  let rest = only_run j' d' i' e' m' l k.0 on in
                  (rw k.2 rest.0, rw k.1 rest.1))
              | false ↦ λ f. only_run j' d' i e m l (after_other j d i e m l c o a (or_left (reserves s p d c l) (asks_loose s p d c l) f) (noted_hidden p d c (step s d c).0 j a)) on
            ]) refl
      ]) refl

  -- the run where only these calls are made
  pub only_these : (l : List Call) → smooth s p (opening s) l ≡ true → Only s p l
  unfolding lone opening Alike
  only_these l h =
      let r = only_run [] (opening s) [] (opening s) [] l (record { rel = rel_opening s p w; linked = λ t z k. absurd (false≢true z); alike_loose = refl }) h in
      record { lone_smooth = r.0; same_calls = r.1; same_answers = alike s p w l (lone s p l) h r.0 (sym r.1) }

pub demand_3 : (s : Setup) (p : ℕ) → 16 ≤ s.width → Demand3 s p
demand_3 s p w = record { two_runs = alike s p w; only_these_calls = only_these s p w; numbers_got = λ l. own_numbers s p [] (opening s) l (known_opening p s) }

pub demand_3_sound : (s : Setup) → sound s ≡ true → (p : ℕ) → Demand3 s p
demand_3_sound s h p = demand_3 s p (told s h).width
