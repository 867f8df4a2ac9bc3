-- Object numbers: what a call does to those that are held, and so: none is given twice, all are in range, and their entries suffice.
use mathlib.Core.Path.{◌≡◌, refl, sym, ◌∙◌, ap, subst}
use mathlib.Core.Bool.{true, false, not, ◌&&◌, ◌||◌, false≢true}
use Rattle.std.specs.Prelude.{Option, None, Some}
use mathlib.Core.List.{List, [], ◌∷◌, ◌++◌, map}
use Prim.Native.Nat.{ℕ, ◌+◌, ◌≤◌, ◌<◌}
use native.Mathlib.Omega.{arith}
use lib.Dec.{eqb, leb}
use borrow.Author.Tests.{not-false, eqb-true, eq-eqb, leb-false}
use lib.ListN.{length}
use Rattle.sizes.specs.Words.{when◌then◌else◌, maybe, given, keep, at, has, times, one_if}
use Rattle.sizes.specs.declared.refusal.Refusal.TheVariants as Because
use Rattle.sizes.specs.Limits.{toi_entries, object_slots}
use Rattle.sizes.specs.Toi.{Toi, first_toi, next_toi}
use Rattle.sizes.proofs.Tests.{or_left, or_right, Tested, pass, fail, tested, none≢some}
use Rattle.sizes.proofs.Lists.{first_none, has_times, times_has, has_none}
use Rattle.sizes.proofs.ToiLaws.{next_range, next_free, first_range}
use Rattle.lifecycle.specs.declared.parts.Part.{Part}
use Rattle.lifecycle.specs.Setup.{Setup, bad_blocks}
use Rattle.definition.specs.FdtSession.{fdt_run}
use Rattle.definition.specs.Session.{Object, Session}
use Rattle.definition.specs.Desk.{Desk, Request, Call, Answer, opening, objects, numbers, moved, numbered, with_fdt, all_published, reserved, unloosed, toi_for, own_sizes, made, admitted, bad_object_part, not_loose, full, no_room, reserve_refusal, release_refusal, add_refusal, publish_refusal, draft_refusal, draft_of, Result, ran, fdt_ran, step, touched}
use Rattle.definition.specs.Apart.{adding, number_in}
use Rattle.definition.proofs.RefusalTables.{add_fails}
use Rattle.definition.proofs.Refused.{plain, either, kept, settled}
use Rattle.definition.proofs.Weights.{total, total_append, total_keep, total_over, total_times, total_length, total_admitted, none_yet, lighter}
pub use Rattle.definition.specs.TotalPromises.{Unique, Given, HeldFrom}

-- the numbers of objects
abbrev pub tois : List Object → List ℕ
tois q = map (λ (o : Object). o.toi) q

pub times_without : (t : ℕ) (l : List ℕ) → times t (keep (λ u. not (eqb u t)) l) ≡ 0
times_without t [] = refl
times_without t (a ∷ l) = (elim (eqb a t) as (λ b. eqb a t ≡ b → times t (when not b then a ∷ keep (λ u. not (eqb u t)) l else keep (λ u. not (eqb u t)) l) ≡ 0)
    [ true ↦ λ e. times_without t l | false ↦ λ e. (let h = times_without t l in let z = ap one_if e in omega arith) ]) refl

-- ---- what an add that is not refused knows

pub record Admissible (s : Setup) (d : Desk) (named : Option ℕ) (c : Part) : Type 0 where
  pub part_fits : bad_object_part s d c ≡ false
  pub is_loose : not_loose d named ≡ false
  pub has_room : no_room d named ≡ false

module _ (s : Setup) (d : Desk) (named : Option ℕ) (q : Request) (e : add_refusal s d named q ≡ None) where
  pub admissible : Admissible s d named q.part
  admissible = let r = (add_fails s d named q e).1.1.1 in record { part_fits = r.0; is_loose = r.1.0; has_room = r.1.1.0 }

  pub blocks_fit : bad_blocks (own_sizes s q) q.part.size ≡ false
  blocks_fit = (add_fails s d named q e).1.1.0

-- the reservation that it names is there
pub loose_true : (s : Setup) (d : Desk) (v : ℕ) (q : Request) → add_refusal s d (Some v) q ≡ None → has v d.loose ≡ true
unfolding not_loose
loose_true s d v q r = not-false (has v d.loose) (admissible s d (Some v) q r).is_loose

-- a slot is free, and an entry where one is needed
pub room : (d : Desk) (named : Option ℕ) → no_room d named ≡ false → (length (objects d) < object_slots) × ((not (given named) && full d) ≡ false)
unfolding no_room
room d named e =
    let slots = leb object_slots (length (objects d)) in
    let entries = not (given named) && full d in
    (leb-false object_slots (length (objects d)) (or_left slots entries e), or_right slots entries e)

-- ---- what a call does to the numbers

-- a sum over them
total_numbers : (v : ℕ → ℕ) (d : Desk) → total v (numbers d) ≡ total v d.loose + total (λ (o : Object). v o.toi) (objects d)
unfolding numbers
total_numbers v d =
    let a = total_append v d.loose (tois (objects d)) in
    let b = total_over v (λ (o : Object). o.toi) (objects d) in omega arith

-- it makes no sum over them larger, or it gives the next number, and this one comes in
data Change (s : Setup) (d : Desk) (r : Result) : Type 0 where
  no_more : r.1.next ≡ d.next → ((v : ℕ → ℕ) → total v (numbers r.1) ≤ total v (numbers d)) → Change s d r
  one_more : r.0 ≡ Answer.number d.next → full d ≡ false → r.1.next ≡ next_toi s.width (d.next ∷ numbers d) d.next
      → ((v : ℕ → ℕ) → total v (numbers r.1) ≤ v d.next + total v (numbers d)) → Change s d r

-- a reservation that is loose is so no longer
unloosed_total : (v : ℕ → ℕ) (t : ℕ) (l : List ℕ) → has t l ≡ true → total v (unloosed t l) + v t ≤ total v l
unfolding unloosed
unloosed_total v t [] e = absurd (false≢true e)
unloosed_total v t (a ∷ l) e = (elim (eqb a t)
    as (λ b. eqb a t ≡ b → (b || has t l) ≡ true → total v (when not b then a ∷ keep (λ u. not (eqb u t)) l else keep (λ u. not (eqb u t)) l) + v t ≤ v a + total v l) [
      | true ↦ λ z e. (let h = total_keep v (λ u. not (eqb u t)) l in let y = ap v (eqb-true a t z) in omega arith)
      | false ↦ λ z e. (let h = unloosed_total v t l e in omega arith)
    ]) refl e

admitted_numbers : (s : Setup) (t : ℕ) (q : Request) (d : Desk) → has t d.loose ≡ true → (v : ℕ → ℕ) → total v (numbers (admitted s t q d)) ≤ total v (numbers d)
unfolding made admitted
admitted_numbers s t q d k v =
    let a = total_numbers v (admitted s t q d) in
    let b = total_numbers v d in
    let c = total_admitted (λ (o : Object). v o.toi) s t q d in
    let e = unloosed_total v t d.loose k in omega arith

reserved_numbers : (s : Setup) (d : Desk) (v : ℕ → ℕ) → total v (numbers (reserved s d)) ≡ v d.next + total v (numbers d)
unfolding reserved numbered objects
reserved_numbers s d v =
    let a = total_numbers v (reserved s d) in
    let b = total_numbers v d in
    let c = total_append v d.loose (d.next ∷ []) in omega arith

-- the number that was just given is a loose reservation
reserved_has : (s : Setup) (d : Desk) → has d.next (reserved s d).loose ≡ true
unfolding reserved numbered
reserved_has s d = last d.loose
  where
    last : (l : List ℕ) → has d.next (l ++ (d.next ∷ [])) ≡ true
    last [] = rw (eq-eqb d.next d.next refl)
    last (a ∷ l) = elim (eqb a d.next) as (λ t. (t || has d.next (l ++ (d.next ∷ []))) ≡ true) [ true ↦ refl | false ↦ last l ]

-- a call that leaves the reservations as they are, and is no add
same_loose : (s : Setup) (d : Desk) (c : Call) → adding c ≡ None → (step s d c).1.loose ≡ d.loose → (step s d c).1.next ≡ d.next → Change s d (step s d c)
same_loose s d c k l n = no_more n (λ v.
    let a = total_numbers v (step s d c).1 in
    let b = total_numbers v d in
    let e = lighter (λ (o : Object). v o.toi) (λ x o. refl) s d c k in
    let f = ap (total v) l in omega arith)

change : (s : Setup) (d : Desk) (c : Call) → Change s d (step s d c)
unfolding step reserve_refusal reserved numbered moved touched admitted all_published with_fdt ran fdt_ran toi_for unloosed objects
change s d Call.reserve = settled (Change s d) (reserve_refusal d) d _ (λ n. no_more refl (λ v. omega arith))
    (λ e. one_more refl (first_none Because.Full (full d) [] e).0 refl (λ v. let h = reserved_numbers s d v in omega arith))
change s d (Call.release t) = settled (Change s d) (release_refusal d t) d _ (λ n. no_more refl (λ v. omega arith)) (λ e. no_more refl (λ v.
    let a = total_numbers v (numbered d d.next (unloosed t d.loose)) in
    let b = total_numbers v d in
    let c = total_keep v (λ u. not (eqb u t)) d.loose in omega arith))
change s d (Call.add None q) = settled (Change s d) (add_refusal s d None q) d _ (λ n. no_more refl (λ v. omega arith))
    (λ e. one_more refl (room d None (admissible s d None q e).has_room).1 refl (λ v. let a = admitted_numbers s d.next q (reserved s d) (reserved_has s d) v in let b = reserved_numbers s d v in omega arith))
change s d (Call.add (Some t) q) = settled (Change s d) (add_refusal s d (Some t) q) d _ (λ n. no_more refl (λ v. omega arith))
    (λ e. no_more refl (admitted_numbers s t q d (loose_true s d t q e)))
change s d (Call.touch t x) = same_loose s d (Call.touch t x) refl refl refl
change s d (Call.ask q) = same_loose s d (Call.ask q) refl refl refl
change s d Call.complete = same_loose s d Call.complete refl refl refl
change s d (Call.publish now c) = same_loose s d (Call.publish now c) refl
    (kept (λ e. e.loose ≡ d.loose) (publish_refusal s d.fdt c) d _ refl (λ e. refl)) (kept (λ e. e.next ≡ d.next) (publish_refusal s d.fdt c) d _ refl (λ e. refl))
change s d (Call.run_fdt now draft) =
    let t = (fdt_run s now (draft_of draft) d.fdt).taken in
    same_loose s d (Call.run_fdt now draft) refl
    (kept (λ e. e.loose ≡ d.loose) (draft_refusal s d.fdt draft) d _ refl (λ e. either (λ (x : Desk). x.loose ≡ d.loose) t _ _ refl refl))
    (kept (λ e. e.next ≡ d.next) (draft_refusal s d.fdt draft) d _ refl (λ e. either (λ (x : Desk). x.next ≡ d.next) t _ _ refl refl))
change s d (Call.run_file i now) = same_loose s d (Call.run_file i now) refl (loose (at d.sessions i)) (next (at d.sessions i))
  where
    loose : (x : Option Session) → (maybe (Answer.refused Because.NoSession, d) (ran s now i d) x).1.loose ≡ d.loose
    loose None = refl
    loose (Some x) = refl

    next : (x : Option Session) → (maybe (Answer.refused Because.NoSession, d) (ran s now i d) x).1.next ≡ d.next
    next None = refl
    next (Some x) = refl

-- the same, for how often a number is held and for how many are
fewer_times : (d e : Desk) (n k : ℕ) → ((v : ℕ → ℕ) → total v (numbers e) ≤ total v (k ∷ numbers d)) → times n (numbers e) ≤ times n (k ∷ numbers d)
fewer_times d e n k h =
    let a = h (λ m. one_if (eqb m n)) in
    let b = total_times n (numbers e) in
    let c = total_times n (numbers d) in omega arith

same_times : (d e : Desk) (n : ℕ) → ((v : ℕ → ℕ) → total v (numbers e) ≤ total v (numbers d)) → times n (numbers e) ≤ times n (numbers d)
same_times d e n h =
    let a = h (λ m. one_if (eqb m n)) in
    let b = total_times n (numbers e) in
    let c = total_times n (numbers d) in omega arith

-- ---- no number is given twice

-- every call keeps the numbers apart
pub unique_step : (s : Setup) (d : Desk) (c : Call) → 16 ≤ s.width → Unique s d → Unique s (step s d c).1
unfolding full
unique_step s d c w u = go (step s d c) (change s d c)
  where
    one : (n : ℕ) → times n (d.next ∷ numbers d) ≤ 1
    one n = (elim (eqb d.next n) as (λ t. eqb d.next n ≡ t → one_if t + times n (numbers d) ≤ 1) [
      | true ↦ λ e. (let a = ap (λ m. times m (numbers d)) (eqb-true d.next n e) in let b = u.free in omega arith)
      | false ↦ λ e. (let a = u.once n in omega arith)
    ]) refl

    go : (r : Result) → Change s d r → Unique s r.1
    go r (no_more e h) = record {
      once = λ n. (let a = same_times d r.1 n h in let b = u.once n in omega arith);
      free = (let a = same_times d r.1 r.1.next h in let b = ap (λ n. times n (numbers d)) e in let c = u.free in omega arith);
      range = subst (Toi s.width) (sym e) u.range;
    }
    go r (one_more a f e h) =
        let x = next_toi s.width (d.next ∷ numbers d) d.next in
        let k = leb-false toi_entries (length (numbers d)) f in
        let z = has_none x (d.next ∷ numbers d) (next_free s.width (d.next ∷ numbers d) d.next w (omega arith)) in
        record {
          once = λ n. (let a = fewer_times d r.1 n d.next h in let b = one n in omega arith);
          free = subst (λ n. times n (numbers r.1) ≡ 0) (sym e) (let a = fewer_times d r.1 x d.next h in omega arith);
          range = subst (Toi s.width) (sym e) (next_range s.width (d.next ∷ numbers d) d.next w);
        }

-- and set-up begins so
pub none_held : (s : Setup) → numbers (opening s) ≡ []
unfolding opening numbers
none_held s = ap tois (none_yet s)

pub unique_opening : (s : Setup) → 16 ≤ s.width → Unique s (opening s)
unfolding opening
unique_opening s w = record {
  once = λ n. (let a = ap (times n) (none_held s) in omega arith);
  free = ap (times (first_toi s.width s.first)) (none_held s);
  range = first_range s.width s.first w;
}

-- a number that a call gives is not held, but by the reservation that the add names
next_anew : (s : Setup) (d : Desk) (c : Call) (t : ℕ) → Unique s d → d.next ≡ t → Given d c t
next_anew s d c t u e = Given.anew (subst (λ n. has n (numbers d) ≡ false) e (times_has d.next (numbers d) u.free))

-- calls that give none
not_given : {c : Call} {d : Desk} (a : Answer) (t : ℕ) → number_in a ≡ None → a ≡ Answer.number t → Given d c t
not_given a t h e = absurd (none≢some (sym h ∙ ap number_in e))

pub given_once : (s : Setup) (d : Desk) (c : Call) (t : ℕ) → Unique s d → (step s d c).0 ≡ Answer.number t → Given d c t
unfolding step toi_for ran fdt_ran
given_once s d Call.reserve t u = settled (λ r. r.0 ≡ Answer.number t → Given d Call.reserve t) (reserve_refusal d) d _
    (λ n. not_given (Answer.refused n) t refl) (λ x e. next_anew s d Call.reserve t u (cc))
given_once s d (Call.release v) t u = settled (λ r. r.0 ≡ Answer.number t → Given d (Call.release v) t) (release_refusal d v) d _
    (λ n. not_given (Answer.refused n) t refl) (λ x. not_given Answer.done t refl)
given_once s d (Call.add None q) t u = settled (λ r. r.0 ≡ Answer.number t → Given d (Call.add None q) t) (add_refusal s d None q) d _
    (λ n. not_given (Answer.refused n) t refl) (λ x e. next_anew s d (Call.add None q) t u (cc))
given_once s d (Call.add (Some v) q) t u = settled (λ r. r.0 ≡ Answer.number t → Given d (Call.add (Some v) q) t) (add_refusal s d (Some v) q) d _
    (λ n. not_given (Answer.refused n) t refl) (λ x e. named x (cc))
  where
    named : add_refusal s d (Some v) q ≡ None → v ≡ t → Given d (Call.add (Some v) q) t
    named x e = Given.by_name q (ap (λ w. Call.add (Some w) q) e) (subst (λ w. has w d.loose ≡ true) e (loose_true s d v q x))
given_once s d (Call.touch v x) t u = not_given _ t refl
given_once s d (Call.ask q) t u = not_given _ t (plain d q).0
given_once s d Call.complete t u = not_given _ t refl
given_once s d (Call.publish now c) t u = settled (λ r. r.0 ≡ Answer.number t → Given d (Call.publish now c) t) (publish_refusal s d.fdt c) d _
    (λ n. not_given (Answer.refused n) t refl) (λ x. not_given Answer.done t refl)
given_once s d (Call.run_fdt now draft) t u = settled (λ r. r.0 ≡ Answer.number t → Given d (Call.run_fdt now draft) t) (draft_refusal s d.fdt draft) d _
    (λ n. not_given (Answer.refused n) t refl) (λ x. not_given _ t refl)
given_once s d (Call.run_file i now) t u = go (at d.sessions i)
  where
    go : (x : Option Session) → (maybe (Answer.refused Because.NoSession, d) (ran s now i d) x).0 ≡ Answer.number t → Given d (Call.run_file i now) t
    go None = not_given _ t refl
    go (Some x) = not_given _ t refl

-- ---- where held numbers come from, their range, and how many there are

-- what is held after a call was held before it, or the call answers it
data Source (d : Desk) (r : Result) (n : ℕ) : Type 0 where
  before : has n (numbers d) ≡ true → Source d r n
  next : r.0 ≡ Answer.number d.next → d.next ≡ n → Source d r n

source : (s : Setup) (d : Desk) (c : Call) (n : ℕ) → has n (numbers (step s d c).1) ≡ true → Source d (step s d c) n
source s d c n k = go (step s d c) (change s d c) (has_times n (numbers (step s d c).1) k) (tested (has n (numbers d))) (tested (eqb d.next n))
  where
    go : (r : Result) → Change s d r → 1 ≤ times n (numbers r.1) → Tested (has n (numbers d)) → Tested (eqb d.next n) → Source d r n
    go r x k (pass b) a = before b
    go r (no_more e h) k (fail b) a = absurd (let z = same_times d r.1 n h in let y = has_none n (numbers d) b in omega arith)
    go r (one_more f g e h) k (fail b) (pass a) = next f (eqb-true d.next n a)
    go r (one_more f g e h) k (fail b) (fail a) =
        absurd (let z = fewer_times d r.1 n d.next h in let y = has_none n (numbers d) b in let x = ap one_if a in omega arith)

pub held_from : (s : Setup) (d : Desk) (c : Call) (n : ℕ) → has n (numbers (step s d c).1) ≡ true → HeldFrom s d c n
held_from s d c n k = go (source s d c n k)
  where
    go : Source d (step s d c) n → HeldFrom s d c n
    go (before b) = HeldFrom.before b
    go (next f e) = HeldFrom.answered (f ∙ ap Answer.number e)

-- every held number is in 1 .. 2^width - 1
abbrev pub Ranged : Setup → Desk → Type 0
Ranged s d = (n : ℕ) → has n (numbers d) ≡ true → Toi s.width n

pub ranged_step : (s : Setup) (d : Desk) (c : Call) → Unique s d → Ranged s d → Ranged s (step s d c).1
ranged_step s d c u r n k = go (source s d c n k)
  where
    go : Source d (step s d c) n → Toi s.width n
    go (before b) = r n b
    go (next f e) = subst (Toi s.width) e u.range

pub ranged_opening : (s : Setup) → Ranged s (opening s)
ranged_opening s n k = absurd (false≢true (ap (has n) (sym (none_held s)) ∙ k))

-- the entries suffice
pub entries_step : (s : Setup) (d : Desk) (c : Call) → length (numbers d) ≤ toi_entries → length (numbers (step s d c).1) ≤ toi_entries
unfolding full
entries_step s d c k = go (step s d c) (change s d c)
  where
    go : (r : Result) → Change s d r → length (numbers r.1) ≤ toi_entries
    go r (no_more e h) =
        let a = h (λ m. 1) in
        let b = total_length (numbers r.1) in
        let c = total_length (numbers d) in omega arith
    go r (one_more f g e h) =
        let a = h (λ m. 1) in
        let b = total_length (numbers r.1) in
        let c = total_length (numbers d) in
        let x = leb-false toi_entries (length (numbers d)) g in omega arith
