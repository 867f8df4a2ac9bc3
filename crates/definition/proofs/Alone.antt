-- The full desk, and the desk on which only the priority's calls are made: what the one has of the priority, the other has too.
use mathlib.Core.Path.{◌≡◌, refl, sym, ◌∙◌, ap, subst}
use mathlib.Core.Bool.{Bool, true, false, not, ◌&&◌, ◌||◌, true≢false, false≢true}
use Rattle.std.specs.Prelude.{Option, None, Some}
use mathlib.Core.List.{List, [], ◌∷◌, ◌++◌, map}
use Prim.Native.Nat.{ℕ, suc, ◌≤◌}
use native.Mathlib.Omega.{arith}
use lib.Dec.{eqb, leb}
use borrow.Author.Tests.{eqb-true, eq-eqb, ne_eqb, leb-false, lt-leb}
use lib.ListN.{length}
use Rattle.sizes.specs.Words.{when◌then◌else◌, maybe, given, any, at, over, Each}
use Rattle.sizes.specs.declared.refusal.Refusal.{Refusal}
use Rattle.sizes.specs.Limits.{object_slots}
use Rattle.lifecycle.specs.Parts.{shares, past_store}
use Rattle.lifecycle.specs.declared.parts.Part.{Part}
use Rattle.lifecycle.specs.Setup.{Setup}
use Rattle.definition.specs.Session.{Object, Hand, Session}
use Rattle.definition.specs.Desk.{Desk, Request, Call, Answer, opening, in_hands, objects, is, reserved, toi_for, admitted, bad_object_part, not_loose, full, no_room, add_refusal, Result, unless, step}
use Rattle.definition.specs.Apart.{mine, owns, about, adding, number_in, got_after, key, call_by, answer_by, is_barred, turned_away}
use Rattle.definition.proofs.Numbers.{Unique, unique_step, unique_opening, tois, admissible}
use Rattle.definition.proofs.RefusalTables.{early_refusal, late_no, add_early, add_unreached}
use Rattle.definition.proofs.View.{retag, retag_held, seen, see, seen_append}
use Rattle.definition.proofs.Known.{Noted, Fits, Known, known_step, known_opening}
use Rattle.definition.proofs.ApartLaws.{got, got_key, view, own_step, owned_noted, objects_noted, hidden, shown, Same_mine, same_mine, early_seen}
use Rattle.sizes.proofs.Tests.{or_left, or_right, none≢some}
use Rattle.sizes.proofs.Lists.{at_map}

-- what sessions send, as it is seen
module _ (p : ℕ) (f : ℕ → ℕ) where
  sending_one : (t : Bool) (h : Option Hand) (A B : List Object) → Same_mine p t h → A ≡ seen p f B
      → maybe A (λ o. o ∷ A) (maybe None (λ (h : Hand). Some h.object) (when t then over (retag_held f) h else None)) ≡ seen p f (maybe B (λ o. o ∷ B) (maybe None (λ (h : Hand). Some h.object) h))
  sending_one true None A B e k = k
  sending_one false None A B e k = k
  sending_one true (Some h) A B e k = rw e (ap (λ l. retag f h.object ∷ l) k)
  sending_one false (Some h) A B e k = rw e k

sending_seen : (p : ℕ) (j : List ℕ) (l : List Session) → Each (Fits p j) l → in_hands (map (see p (key j)) l) ≡ seen p (key j) (in_hands l)
unfolding in_hands
sending_seen p j [] u = refl
sending_seen p j (x ∷ l) u = sending_one p (key j) (eqb x.priority p) x.hand (in_hands (map (see p (key j)) l)) (in_hands l)
    (same_mine p x.priority j x.hand u.0) (sending_seen p j l u.1)

objects_seen : (p : ℕ) (j : List ℕ) (d : Desk) → Known p j d → objects (view p j d) ≡ seen p (key j) (objects d)
unfolding objects
objects_seen p j d k = ap (λ l. seen p (key j) d.queue ++ l) (sending_seen p j d.sessions k.serving) ∙ sym (seen_append p (key j) d.queue (in_hands d.sessions))

or_true : (b : Bool) → (b || true) ≡ true
or_true true = refl
or_true false = refl

-- an owned number's key is seen
owned_seen : (p : ℕ) (j : List ℕ) (t : ℕ) (q : List Object) → any (λ o. mine p o && is t o) q ≡ true → any (is (key j t)) (seen p (key j) q) ≡ true
unfolding is
owned_seen p j t [] e = e
owned_seen p j t (o ∷ q) e = (elim (mine p o) as (λ b. ((b && eqb o.toi t) || any (λ o. mine p o && is t o) q) ≡ true → any (is (key j t)) (when b then retag (key j) o ∷ seen p (key j) q else seen p (key j) q) ≡ true) [
  | true ↦ (elim (eqb o.toi t) as (λ c. eqb o.toi t ≡ c → (c || any (λ o. mine p o && is t o) q) ≡ true → (eqb (key j o.toi) (key j t) || any (is (key j t)) (seen p (key j) q)) ≡ true) [
    | true ↦ λ c e. rw (eq-eqb (key j o.toi) (key j t) (ap (key j) (eqb-true o.toi t c)))
    | false ↦ λ c e. rw (owned_seen p j t q e) (or_true (eqb (key j o.toi) (key j t)))
  ]) refl
  | false ↦ λ e. owned_seen p j t q e
]) e

-- and a seen key is that of an owned number
seen_owned : (p : ℕ) (i : List ℕ) (k : ℕ) (q : List Object) → any (is k) (seen p (key i) q) ≡ true → (t : ℕ) × (any (λ o. mine p o && is t o) q ≡ true) × (key i t ≡ k)
unfolding is
seen_owned p i k [] e = absurd (false≢true e)
seen_owned p i k (o ∷ q) e = (elim (mine p o) as (λ b. mine p o ≡ b → any (is k) (when b then retag (key i) o ∷ seen p (key i) q else seen p (key i) q) ≡ true
    → (t : ℕ) × (((mine p o && eqb o.toi t) || any (λ o. mine p o && is t o) q) ≡ true) × (key i t ≡ k)) [
      | true ↦ λ m. (elim (eqb (key i o.toi) k) as (λ c. eqb (key i o.toi) k ≡ c → (c || any (is k) (seen p (key i) q)) ≡ true
          → (t : ℕ) × (((mine p o && eqb o.toi t) || any (λ o. mine p o && is t o) q) ≡ true) × (key i t ≡ k)) [
            | true ↦ λ c e. (o.toi, rw m (rw (eq-eqb o.toi o.toi refl)), eqb-true (key i o.toi) k c)
            | false ↦ λ c e. later (seen_owned p i k q e)
          ]) refl
      | false ↦ λ m e. later (seen_owned p i k q e)
    ]) refl e
  where
    later : (t : ℕ) × (any (λ o. mine p o && is t o) q ≡ true) × (key i t ≡ k) → (t : ℕ) × (((mine p o && eqb o.toi t) || any (λ o. mine p o && is t o) q) ≡ true) × (key i t ≡ k)
    later r = (r.0, rw r.1 (or_true (mine p o && eqb o.toi r.0)), r.2)

-- the full desk and the desk on which only the priority's calls were made
pub record Rel (s : Setup) (p : ℕ) (j : List ℕ) (d : Desk) (i : List ℕ) (e : Desk) : Type 0 where
  pub unique : Unique s d
  pub known : Known p j d
  pub unique' : Unique s e
  pub known' : Known p i e
  pub same : view p j d ≡ view p i e
  pub lonely : (r : ℕ) → eqb r p ≡ false → Known r [] e

seen_both : (s : Setup) (p : ℕ) (j : List ℕ) (d : Desk) (i : List ℕ) (e : Desk) → Rel s p j d i e → seen p (key j) (objects d) ≡ seen p (key i) (objects e)
seen_both s p j d i e r = sym (objects_seen p j d r.known) ∙ ap objects r.same ∙ objects_seen p i e r.known'

-- an owned number has its like there
pub carried : (s : Setup) (p : ℕ) (j : List ℕ) (d : Desk) (i : List ℕ) (e : Desk) (t : ℕ) → Rel s p j d i e → owns p d t ≡ true
    → (owns p e (got i (key j t)) ≡ true) × (key i (got i (key j t)) ≡ key j t)
unfolding owns
carried s p j d i e t r o =
    let a : any (is (key j t)) (seen p (key i) (objects e)) ≡ true =
    subst (λ l. any (is (key j t)) l ≡ true) (seen_both s p j d i e r) (owned_seen p j t (objects d) o) in
    let b = seen_owned p i (key j t) (objects e) a in
    let g : got i (key j t) ≡ b.0 = ap (got i) (sym b.2) ∙ got_key i b.0 (owned_noted p b.0 i (objects e) b.1 (objects_noted p i e r.known')) in
    (subst (λ n. any (λ o. mine p o && is n o) (objects e) ≡ true) (sym g) b.1, ap (key i) g ∙ b.2)

session_seen : (p : ℕ) (f : ℕ → ℕ) (l : List Session) (n : ℕ)
    → maybe false (λ (x : Session). eqb x.priority p) (at (map (see p f) l) n) ≡ maybe false (λ (x : Session). eqb x.priority p) (at l n)
session_seen p f l n = ap (maybe false (λ (x : Session). eqb x.priority p)) (at_map (see p f) l n) ∙ go (at l n)
  where
    go : (x : Option Session) → maybe false (λ (x : Session). eqb x.priority p) (over (see p f) x) ≡ maybe false (λ (x : Session). eqb x.priority p) x
    go None = refl
    go (Some x) = refl

-- a session of the priority stands there at the same place
pub session_there : (s : Setup) (p : ℕ) (j : List ℕ) (d : Desk) (i : List ℕ) (e : Desk) (now n : ℕ) → Rel s p j d i e → about p d (Call.run_file n now) ≡ true → about p e (Call.run_file n now) ≡ true
unfolding about
session_there s p j d i e now n r a = sym (session_seen p (key i) e.sessions n) ∙ ap (λ (v : Desk). maybe false (λ (x : Session). eqb x.priority p) (at v.sessions n)) (sym r.same)
    ∙ session_seen p (key j) d.sessions n ∙ a

-- all objects there are the priority's
all_mine : (p : ℕ) (q : List Object) → ((r : ℕ) → eqb r p ≡ false → Each (Noted r []) q) → Each (λ o. mine p o ≡ true) q
all_mine p [] h = tt
all_mine p (o ∷ q) h = (
  (elim (mine p o) as (λ b. mine p o ≡ b → b ≡ true) [ true ↦ λ e. refl | false ↦ λ e. (h o.priority e).0 (eq-eqb o.priority o.priority refl) ]) refl,
  all_mine p q (λ r e. (h r e).1),
)

length_seen : (p : ℕ) (f : ℕ → ℕ) (q : List Object) → Each (λ o. mine p o ≡ true) q → length (seen p f q) ≡ length q
length_seen p f [] u = refl
length_seen p f (o ∷ q) u = rw u.0 (ap suc (length_seen p f q u.1))

length_seen_le : (p : ℕ) (f : ℕ → ℕ) (q : List Object) → length (seen p f q) ≤ length q
length_seen_le p f [] = omega arith
length_seen_le p f (o ∷ q) = elim (mine p o) as (λ b. length (when b then retag f o ∷ seen p f q else seen p f q) ≤ suc (length q))
    [ true ↦ (let h = length_seen_le p f q in omega arith) | false ↦ (let h = length_seen_le p f q in omega arith) ]

shares_seen : (p : ℕ) (f : ℕ → ℕ) (c : Part) (q : List Object) → Each (λ o. mine p o ≡ true) q → any (λ (o : Object). shares c o.part) (seen p f q) ≡ any (λ (o : Object). shares c o.part) q
shares_seen p f c [] u = refl
shares_seen p f c (o ∷ q) u = rw u.0 (ap (λ b. shares c o.part || b) (shares_seen p f c q u.1))

shares_seen_not : (p : ℕ) (f : ℕ → ℕ) (c : Part) (q : List Object) → any (λ (o : Object). shares c o.part) q ≡ false → any (λ (o : Object). shares c o.part) (seen p f q) ≡ false
shares_seen_not p f c [] h = refl
shares_seen_not p f c (o ∷ q) h = elim (mine p o) as (λ b. any (λ (o : Object). shares c o.part) (when b then retag f o ∷ seen p f q else seen p f q) ≡ false) [
  | true ↦ rw (or_left (shares c o.part) (any (λ (o : Object). shares c o.part) q) h) (shares_seen_not p f c q (or_right (shares c o.part) (any (λ (o : Object). shares c o.part) q) h))
  | false ↦ shares_seen_not p f c q (or_right (shares c o.part) (any (λ (o : Object). shares c o.part) q) h)
]

pub length_tois : (q : List Object) → length (tois q) ≡ length q
length_tois [] = refl
length_tois (o ∷ q) = ap suc (length_tois q)

module _ (s : Setup) (p : ℕ) (j : List ℕ) (d : Desk) (i : List ℕ) (e : Desk) (r : Rel s p j d i e) where
  mine_there : Each (λ o. mine p o ≡ true) (objects e)
  mine_there = all_mine p (objects e) (λ n z. objects_noted n [] e (r.lonely n z))

  pub fewer_there : length (objects e) ≤ length (objects d)
  fewer_there = let a = length_seen p (key i) (objects e) mine_there in let b = ap length (seen_both s p j d i e r) in let c = length_seen_le p (key j) (objects d) in omega arith

  part_there : (c : Part) → bad_object_part s d c ≡ false → bad_object_part s e c ≡ false
  unfolding bad_object_part
  part_there c h =
      rw (or_left (past_store s.object_store c) (any (λ (o : Object). shares c o.part) (objects d)) h)
      (sym (shares_seen p (key i) c (objects e) mine_there) ∙ ap (any (λ (o : Object). shares c o.part)) (sym (seen_both s p j d i e r))
      ∙ shares_seen_not p (key j) c (objects d) (or_right (past_store s.object_store c) (any (λ (o : Object). shares c o.part) (objects d)) h))

  pub slots_there : (named : Option ℕ) → no_room d named ≡ false → leb object_slots (length (objects e)) ≡ false
  unfolding no_room
  slots_there named h =
      let a = leb-false object_slots (length (objects d)) (or_left (leb object_slots (length (objects d))) (not (given named) && full d) h) in
      let b = fewer_there in
      lt-leb object_slots (length (objects e)) (omega arith)

  early_there : (q : Request) → early_refusal s e q ≡ early_refusal s d q
  early_there q = sym (early_seen p i s e q) ∙ ap (λ v. early_refusal s v q) (sym r.same) ∙ early_seen p j s d q

late_unless : (x : Option Refusal) (d : Desk) (t : ℕ) (d' : Desk) → is_barred (unless x d (Answer.number t, d')).0 ≡ late_no x
late_unless None d t d' = refl
late_unless (Some n) d t d' = refl

-- an add that does not meet 5, 6 or 7 does not meet them there
pub add_there : (s : Setup) (p : ℕ) (j : List ℕ) (d : Desk) (i : List ℕ) (e : Desk) (named named' : Option ℕ) (q : Request) → Rel s p j d i e
    → (add_refusal s d named q ≡ None → (not_loose e named' ≡ false) × (no_room e named' ≡ false))
    → is_barred (step s d (Call.add named q)).0 ≡ false → is_barred (step s e (Call.add named' q)).0 ≡ false
unfolding step
add_there s p j d i e named named' q r k h =
    late_unless (add_refusal s e named' q) e (toi_for e named') (admitted s (toi_for e named') q (when given named' then e else reserved s e))
    ∙ add_unreached s e named' q (λ z. let r = rows z in (r.0, (r.1, (r.2, tt))))
  where
    on_time : late_no (add_refusal s d named q) ≡ false
    on_time = sym (late_unless (add_refusal s d named q) d (toi_for d named) (admitted s (toi_for d named) q (when given named then d else reserved s d))) ∙ h

    rows : early_refusal s e q ≡ None → (bad_object_part s e q.part ≡ false) × (not_loose e named' ≡ false) × (no_room e named' ≡ false)
    rows z =
        let y = add_early s d named q on_time ∙ sym (early_there s p j d i e r q) ∙ z in
        (part_there s p j d i e r q.part (admissible s d named q y).part_fits, (k y).0, (k y).1)

-- an add is about its own priority
about_add : (p : ℕ) (d : Desk) (c : Call) (x : Option ℕ × Request) → adding c ≡ Some x → about p d c ≡ eqb x.1.priority p
unfolding about
about_add p d (Call.add named q) x e = let z : (named, q) ≡ x = cc in ap (λ (y : Option ℕ × Request). eqb y.1.priority p) z
about_add p d Call.reserve x e = absurd (none≢some e)
about_add p d (Call.release t) x e = absurd (none≢some e)
about_add p d (Call.touch t y) x e = absurd (none≢some e)
about_add p d (Call.ask q) x e = absurd (none≢some e)
about_add p d Call.complete x e = absurd (none≢some e)
about_add p d (Call.publish now c) x e = absurd (none≢some e)
about_add p d (Call.run_fdt now draft) x e = absurd (none≢some e)
about_add p d (Call.run_file n now) x e = absurd (none≢some e)

-- a call that does not admit for a priority notes nothing for it
noted_other : (r : ℕ) (c : Call) (a : Answer) (j : List ℕ) → ((x : Option ℕ × Request) → adding c ≡ Some x → eqb x.1.priority r ≡ false) → got_after r c a j ≡ j
noted_other r c a j h = go (adding c) refl
  where
    nothing : (n : Option ℕ) → maybe j (λ (t : ℕ). j) n ≡ j
    nothing None = refl
    nothing (Some t) = refl

    go : (y : Option (Option ℕ × Request)) → adding c ≡ y → maybe j (λ (x : Option ℕ × Request). maybe j (λ t. when eqb x.1.priority r then t ∷ j else j) (number_in a)) y ≡ j
    go None e = refl
    go (Some x) e = simp (h x e) (nothing (number_in a))

-- a call that is not the priority's notes nothing for it, and one that is nothing for another
pub noted_hidden : (p : ℕ) (d : Desk) (c : Call) (a : Answer) (j : List ℕ) → about p d c ≡ false → got_after p c a j ≡ j
noted_hidden p d c a j h = noted_other p c a j (λ x e. sym (about_add p d c x e) ∙ h)

noted_none : (p r : ℕ) (e : Desk) (c : Call) (a : Answer) → about p e c ≡ true → eqb r p ≡ false → got_after r c a [] ≡ []
noted_none p r e c a h z = noted_other r c a [] (λ x y. ne_eqb x.1.priority r (λ w. true≢false (sym (eq-eqb r p (sym w ∙ eqb-true x.1.priority p (sym (about_add p e c x y) ∙ h))) ∙ z)))

module _ (s : Setup) (p : ℕ) (w : 16 ≤ s.width) where
  -- a call that is not the priority's
  pub rel_hidden : (j : List ℕ) (d : Desk) (i : List ℕ) (e : Desk) (c : Call) → Rel s p j d i e → about p d c ≡ false → Rel s p (got_after p c (step s d c).0 j) (step s d c).1 i e
  rel_hidden j d i e c r a = record {
    unique = unique_step s d c w r.unique;
    known = known_step p j s d c r.known;
    unique' = r.unique';
    known' = r.known';
    same = hidden p j s d c r.known a ∙ r.same;
    lonely = r.lonely;
  }

  -- one of the priority's, and its like there: the two are answered alike
  module _ (j : List ℕ) (d : Desk) (i : List ℕ) (e : Desk) (c c' : Call) (r : Rel s p j d i e) (a : about p d c ≡ true) (h : turned_away p c (step s d c).0 ≡ false)
      (a' : about p e c' ≡ true) (n : call_by (key i) c' ≡ call_by (key j) c) (h' : turned_away p c' (step s e c').0 ≡ false) where
    pub both : ◌≡◌ {A = Result} (answer_by (key (got_after p c (step s d c).0 j)) (step s d c).0, view p (got_after p c (step s d c).0 j) (step s d c).1)
        (answer_by (key (got_after p c' (step s e c').0 i)) (step s e c').0, view p (got_after p c' (step s e c').0 i) (step s e c').1)
    both = sym (shown p j s d c r.unique r.known a h) ∙ ap (λ v. own_step s v (call_by (key j) c)) r.same ∙ ap (own_step s (view p i e)) (sym n)
        ∙ shown p i s e c' r.unique' r.known' a' h'

    pub rel_shown : Rel s p (got_after p c (step s d c).0 j) (step s d c).1 (got_after p c' (step s e c').0 i) (step s e c').1
    rel_shown = record {
      unique = unique_step s d c w r.unique;
      known = known_step p j s d c r.known;
      unique' = unique_step s e c' w r.unique';
      known' = known_step p i s e c' r.known';
      same = ap (λ (x : Result). x.1) both;
      lonely = λ m z. subst (λ k. Known m k (step s e c').1) (noted_none p m e c' (step s e c').0 a' z) (known_step m [] s e c' (r.lonely m z));
    }

  pub rel_opening : Rel s p [] (opening s) [] (opening s)
  rel_opening = record {
    unique = unique_opening s w;
    known = known_opening p s;
    unique' = unique_opening s w;
    known' = known_opening p s;
    same = refl;
    lonely = λ r z. known_opening r s;
  }
