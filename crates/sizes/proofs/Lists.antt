-- Laws of lists: what a search comes to, how often a number stands in a list, a place left out.
use Rattle.std.proofs.Common.{◌≡◌, ℕ, zero, suc, ◌+◌, ◌<◌, ◌≤◌, Bool, true, false, ◌||◌, eqb, List, [], ◌∷◌, ◌++◌, map, length, get_or, take, set, sym, refl, ap, ◌∙◌, subst, true≢false, arith, eqb-true}
use mathlib.Core.Bool.{false≢true}
use Rattle.std.specs.Prelude.{None, Some}
use Rattle.sizes.specs.Words.{when◌then◌else◌, over, any, find, drop_first, first_of, at, cut, place, Each, has, one_if, times}
use Rattle.sizes.proofs.Tests.{Tested, pass, fail, tested, none≢some}

-- a search finds a, at place n
pub record Hit {A : Type 0} (ok : A → Bool) (l : List A) (n : ℕ) (a : A) : Type 0 where
  pub found : place ok l ≡ Some n
  pub stands : at l n ≡ Some a
  pub passes : ok a ≡ true
  pub first : find ok l ≡ Some a
  pub rest : drop_first ok l ≡ cut l n

-- what a search comes to
pub data Sought {A : Type 0} (ok : A → Bool) (l : List A) : Type 0 where
  hit : (n : ℕ) (a : A) → Hit ok l n a → Sought ok l
  miss : place ok l ≡ None → ((i : ℕ) (a : A) → at l i ≡ Some a → ok a ≡ false) → Sought ok l

pub sought : {A : Type 0} (ok : A → Bool) (l : List A) → Sought ok l
sought ok [] = miss refl (λ i a e. absurd (none≢some e))
sought ok (a ∷ l) = go (tested (ok a)) (sought ok l)
  where
    go : Tested (ok a) → Sought ok l → Sought ok (a ∷ l)
    go (pass e) r = hit 0 a (record { found = rw e; stands = refl; passes = e; first = rw e; rest = rw e })
    go (fail e) (hit n b h) = hit (suc n) b (record {
      found = rw (e, h.found);
      stands = h.stands;
      passes = h.passes;
      first = rw e h.first;
      rest = rw e (ap (λ r. a ∷ r) h.rest);
    })
    go (fail e) (miss p u) = miss (rw (e, p)) (λ i b q. none_at i b q)
      where
        none_at : (i : ℕ) (b : _) → at (a ∷ l) i ≡ Some b → ok b ≡ false
        none_at zero b q = let s : a ≡ b = cc in subst (λ x. ok x ≡ false) s e
        none_at (suc i) b q = u i b q

-- where a search said that it stands
pub found_first : {A : Type 0} (ok : A → Bool) (l : List A) (n : ℕ) → place ok l ≡ Some n → (a : A) × Hit ok l n a
found_first ok l n e = go (sought ok l)
  where
    go : Sought ok l → (a : _) × Hit ok l n a
    go (hit m a h) = let f = h.found in let s : m ≡ n = cc in (a, subst (λ k. Hit ok l k a) s h)
    go (miss p u) = absurd (none≢some (sym p ∙ e))

-- none passes
pub none_found : {A : Type 0} (ok : A → Bool) (l : List A) → ((i : ℕ) (a : A) → at l i ≡ Some a → ok a ≡ false) → (find ok l ≡ None) × (drop_first ok l ≡ l)
none_found ok [] h = (refl, refl)
none_found ok (a ∷ l) h =
    let r = none_found ok l (λ i. h (suc i)) in
    (rw (h 0 a refl) r.0, rw (h 0 a refl) (ap (λ t. a ∷ t) r.1))

pub found_none : {A : Type 0} (ok : A → Bool) (l : List A) → place ok l ≡ None → (find ok l ≡ None) × (drop_first ok l ≡ l)
found_none ok l e = go (sought ok l)
  where
    go : Sought ok l → (find ok l ≡ None) × (drop_first ok l ≡ l)
    go (hit n a h) = absurd (none≢some (sym e ∙ h.found))
    go (miss p u) = none_found ok l u

pub at_take : {A : Type 0} (l : List A) (m n : ℕ) (a : A) → at (take m l) n ≡ Some a → n < m
at_take l zero n a e = absurd (none≢some e)
at_take [] (suc m) n a e = absurd (none≢some e)
at_take (b ∷ l) (suc m) zero a e = omega arith
at_take (b ∷ l) (suc m) (suc n) a e = let h = at_take l m n a e in omega arith

pub at_get : {A : Type 0} (z : A) (l : List A) (n : ℕ) (a : A) → at l n ≡ Some a → (get_or l n z ≡ a) × (n < length l)
at_get z [] n a e = absurd (none≢some e)
at_get z (b ∷ l) zero a e = let s : b ≡ a = cc in (s, omega arith)
at_get z (b ∷ l) (suc n) a e = let r = at_get z l n a e in (r.0, (let h = r.1 in omega arith))

module _ {A : Type 0} (P : A → Type 0) where
  pub each_append : (a b : List A) → Each P a → Each P b → Each P (a ++ b)
  each_append [] b u v = v
  each_append (x ∷ a) b u v = (u.0, each_append a b u.1 v)

  pub each_drop_first : (ok : A → Bool) (l : List A) → Each P l → Each P (drop_first ok l)
  each_drop_first ok [] u = tt
  each_drop_first ok (a ∷ l) u = elim (ok a) as (λ t. Each P (when t then l else a ∷ drop_first ok l))
      [ true ↦ u.1 | false ↦ (u.0, each_drop_first ok l u.1) ]

  pub each_map : (f : A → A) → ((a : A) → P a → P (f a)) → (l : List A) → Each P l → Each P (map f l)
  each_map f h [] u = tt
  each_map f h (a ∷ l) u = (h a u.0, each_map f h l u.1)

  pub each_set : (l : List A) (i : ℕ) (a : A) → Each P l → P a → Each P (set l i a)
  each_set [] i a u v = tt
  each_set (b ∷ l) zero a u v = (v, u.1)
  each_set (b ∷ l) (suc i) a u v = (u.0, each_set l i a u.1 v)

  -- what is found has the property, and passes
  pub each_find : (ok : A → Bool) (l : List A) (a : A) → find ok l ≡ Some a → Each P l → P a × (ok a ≡ true)
  each_find ok [] a e u = absurd (none≢some e)
  each_find ok (b ∷ l) a e u = (elim (ok b) as (λ t. ok b ≡ t → (when t then Some b else find ok l) ≡ Some a → P a × (ok a ≡ true)) [
    | true ↦ λ h e. (let s : b ≡ a = cc in (subst P s u.0, subst (λ x. ok x ≡ true) s h))
    | false ↦ λ h e. each_find ok l a e u.1
  ]) refl e

  pub each_at : (l : List A) (i : ℕ) (a : A) → at l i ≡ Some a → Each P l → P a
  each_at [] i a e u = absurd (none≢some e)
  each_at (b ∷ l) zero a e u = let s : b ≡ a = cc in subst P s u.0
  each_at (b ∷ l) (suc i) a e u = each_at l i a e u.1

  -- what each of two joined lists has
  pub each_left : (a b : List A) → Each P (a ++ b) → Each P a
  each_left [] b u = tt
  each_left (x ∷ a) b u = (u.0, each_left a b u.1)

  pub each_right : (a b : List A) → Each P (a ++ b) → Each P b
  each_right [] b u = u
  each_right (x ∷ a) b u = each_right a b u.1

  pub each_all : ((a : A) → P a) → (l : List A) → Each P l
  each_all h [] = tt
  each_all h (a ∷ l) = (h a, each_all h l)

  pub each_cut : (l : List A) (n : ℕ) → Each P l → Each P (cut l n)
  each_cut [] n u = u
  each_cut (a ∷ l) zero u = u.1
  each_cut (a ∷ l) (suc n) u = (u.0, each_cut l n u.1)

pub each_imp : {A : Type 0} (P Q : A → Type 0) → ((a : A) → P a → Q a) → (l : List A) → Each P l → Each Q l
each_imp P Q h [] u = tt
each_imp P Q h (a ∷ l) u = (h a u.0, each_imp P Q h l u.1)

pub each_both : {A : Type 0} (P Q R : A → Type 0) → ((a : A) → P a → Q a → R a) → (l : List A) → Each P l → Each Q l → Each R l
each_both P Q R h [] u v = tt
each_both P Q R h (a ∷ l) u v = (h a u.0 v.0, each_both P Q R h l u.1 v.1)

-- what is found passes
pub found : {A : Type 0} (ok : A → Bool) (l : List A) (a : A) → find ok l ≡ Some a → ok a ≡ true
found ok l a e = (each_find (λ a. Unit {0}) ok l a e (each_all (λ a. Unit {0}) (λ a. tt) l)).1

-- a table with no number: each test fails
pub first_none : {A : Type 0} (n : A) (t : Bool) (l : List (A × Bool)) → first_of ((n, t) ∷ l) ≡ None → (t ≡ false) × (first_of l ≡ None)
first_none n true l e = absurd (none≢some (sym e))
first_none n false l e = (refl, e)

-- two changes that commute, and one that does not show
pub map_comm : {A B : Type 0} (F : A → B) (G : A → A) (H : B → B) (l : List A) → Each (λ x. F (G x) ≡ H (F x)) l → map F (map G l) ≡ map H (map F l)
map_comm F G H [] u = refl
map_comm F G H (x ∷ l) u = λ i. u.0 i ∷ map_comm F G H l u.1 i

pub map_hidden : {A B : Type 0} (F : A → B) (G : A → A) (l : List A) → Each (λ x. F (G x) ≡ F x) l → map F (map G l) ≡ map F l
map_hidden F G [] u = refl
map_hidden F G (x ∷ l) u = λ i. u.0 i ∷ map_hidden F G l u.1 i

module _ {A B : Type 0} (f : A → B) where
  pub map_set : (l : List A) (i : ℕ) (a : A) → map f (set l i a) ≡ set (map f l) i (f a)
  map_set [] i a = refl
  map_set (b ∷ l) zero a = refl
  map_set (b ∷ l) (suc i) a = ap (λ r. f b ∷ r) (map_set l i a)

  pub at_map : (l : List A) (i : ℕ) → at (map f l) i ≡ over f (at l i)
  at_map [] i = refl
  at_map (a ∷ l) zero = refl
  at_map (a ∷ l) (suc i) = at_map l i

  pub map_append : (a b : List A) → map f (a ++ b) ≡ map f a ++ map f b
  map_append [] b = refl
  map_append (x ∷ a) b = ap (λ l. f x ∷ l) (map_append a b)

  pub map_cut : (l : List A) (n : ℕ) → map f (cut l n) ≡ cut (map f l) n
  map_cut [] n = refl
  map_cut (a ∷ l) zero = refl
  map_cut (a ∷ l) (suc n) = ap (λ r. f a ∷ r) (map_cut l n)

  -- an element is exchanged for one that f does not tell from it
  pub map_set_same : (l : List A) (i : ℕ) (a b : A) → at l i ≡ Some b → f a ≡ f b → map f (set l i a) ≡ map f l
  map_set_same [] i a b e h = refl
  map_set_same (c ∷ l) zero a b e h = let s : c ≡ b = cc in ap (λ x. x ∷ map f l) (h ∙ ap f (sym s))
  map_set_same (c ∷ l) (suc i) a b e h = ap (λ r. f c ∷ r) (map_set_same l i a b e h)

-- a test over a map
pub any_map : {A B : Type 0} (ok : B → Bool) (f : A → B) (l : List A) → any ok (map f l) ≡ any (λ a. ok (f a)) l
any_map ok f [] = refl
any_map ok f (a ∷ l) = ap (λ b. ok (f a) || b) (any_map ok f l)

pub times_append : (n : ℕ) (a b : List ℕ) → times n (a ++ b) ≡ times n a + times n b
times_append n [] b = omega arith
times_append n (x ∷ a) b = let h = times_append n a b in omega arith

-- a place left out counts no more
pub times_cut : (n : ℕ) (l : List ℕ) (i : ℕ) → times n (cut l i) ≤ times n l
times_cut n [] i = omega arith
times_cut n (a ∷ l) zero = omega arith
times_cut n (a ∷ l) (suc i) = let h = times_cut n l i in omega arith

pub has_times : (n : ℕ) (l : List ℕ) → has n l ≡ true → 1 ≤ times n l
has_times n [] e = absurd (false≢true e)
has_times n (a ∷ l) e = (elim (eqb a n) as (λ t. (t || has n l) ≡ true → 1 ≤ one_if t + times n l)
    [ true ↦ λ e. omega arith | false ↦ λ e. (let h = has_times n l e in omega arith) ]) e

pub times_has : (n : ℕ) (l : List ℕ) → times n l ≡ 0 → has n l ≡ false
times_has n [] e = refl
times_has n (a ∷ l) e = (elim (eqb a n) as (λ t. one_if t + times n l ≡ 0 → (t || has n l) ≡ false)
    [ true ↦ λ e. absurd (omega arith) | false ↦ λ e. times_has n l (omega arith) ]) e

pub has_none : (n : ℕ) (l : List ℕ) → has n l ≡ false → times n l ≡ 0
has_none n [] e = refl
has_none n (a ∷ l) e = (elim (eqb a n) as (λ t. (t || has n l) ≡ false → one_if t + times n l ≡ 0)
    [ true ↦ λ e. absurd (true≢false e) | false ↦ λ e. (let h = has_none n l e in omega arith) ]) e

-- a number that is not in a list is not in it with a place left out
pub has_cut : (n : ℕ) (l : List ℕ) (i : ℕ) → has n l ≡ false → has n (cut l i) ≡ false
has_cut n l i e = times_has n (cut l i) (let a = has_none n l e in let b = times_cut n l i in omega arith)

-- a number that is in the list has what each of it has
pub each_has : (P : ℕ → Type 0) (n : ℕ) (l : List ℕ) → Each P l → has n l ≡ true → P n
each_has P n [] u h = absurd (false≢true h)
each_has P n (a ∷ l) u h = (elim (eqb a n) as (λ b. eqb a n ≡ b → (b || has n l) ≡ true → P n)
    [ true ↦ λ e k. subst P (eqb-true a n e) u.0 | false ↦ λ e k. each_has P n l u.1 k ]) refl h
