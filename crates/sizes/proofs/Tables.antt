-- Laws of tables and counts, for any element type: which places of a table a list has, and how often.
use Rattle.std.proofs.Common.{◌≡◌, ℕ, zero, suc, ◌+◌, ◌<◌, ◌≤◌, Bool, true, false, ◌&&◌, ◌||◌, eqb, List, [], ◌∷◌, map, length, get_or, set, sym, refl, ap, ◌∙◌, subst, arith, get_or-set_other, get_or-set_same, eq-eqb, ne_eqb, eqb-true}
use mathlib.Core.Bool.{false≢true}
use Rattle.std.specs.Prelude.{Some}
use borrow.Author.Tests.{eqb-false}
use Rattle.sizes.specs.Words.{when◌then◌else◌, over, given, keep, any, find, drop_first, at, cut, has, one_if, times, tally, Counts}
use Rattle.sizes.proofs.Tests.{Tested, pass, fail, tested, none≢some}
use Rattle.sizes.proofs.Lists.{any_map, has_times, has_none}
use Rattle.sizes.proofs.Folds.{Fold, folded, folded_empty, folded_set, folded_in, or_fold, any_folded, sum_fold, tally_folded, length_folded}

-- a count that is 1, or 0, tells the test
pub one_true : (b : Bool) → 1 ≤ one_if b → b ≡ true
one_true true h = refl
one_true false h = absurd (omega arith)

zero_one : (b : Bool) → 0 ≡ one_if b → b ≡ false
zero_one true h = absurd (omega arith)
zero_one false h = refl

pub one_most : (b : Bool) → one_if b ≤ 1
one_most true = omega arith
one_most false = omega arith

-- a map is told by what stands in the list
pub map_in : {B : Type 0} (f g : ℕ → B) (l : List ℕ) → ((k : ℕ) → 1 ≤ times k l → f k ≡ g k) → map f l ≡ map g l
map_in f g [] h = refl
map_in f g (k ∷ l) h = λ i. h k (let e = ap one_if (eq-eqb k k refl) in omega arith) i ∷ map_in f g l (λ j u. h j (omega arith)) i

pub map_at : {A B : Type 0} (f g : A → B) (l : List A) → ((i : ℕ) (a : A) → at l i ≡ Some a → f a ≡ g a) → map f l ≡ map g l
map_at f g [] h = refl
map_at f g (a ∷ l) h = λ i. h 0 a refl i ∷ map_at f g l (λ n b e. h (suc n) b e) i

pub times_at : (l : List ℕ) (n k : ℕ) → at l n ≡ Some k → 1 ≤ times k l
times_at [] n k e = absurd (none≢some e)
times_at (j ∷ l) zero k e = let s : j ≡ k = cc in let z = ap one_if (eq-eqb j k s) in omega arith
times_at (j ∷ l) (suc n) k e = let h = times_at l n k e in omega arith

-- one place left out
pub times_cut : (j : ℕ) (l : List ℕ) (n k : ℕ) → at l n ≡ Some k → times j (cut l n) + one_if (eqb k j) ≡ times j l
times_cut j [] n k e = absurd (none≢some e)
times_cut j (a ∷ l) zero k e = let s : a ≡ k = cc in let z = ap (λ u. one_if (eqb u j)) s in omega arith
times_cut j (a ∷ l) (suc n) k e = let h = times_cut j l n k e in omega arith

-- all are kept
pub keep_all : {B : Type 0} (ok : B → Bool) (f : ℕ → B) (l : List ℕ) → ((j : ℕ) → 1 ≤ times j l → ok (f j) ≡ true) → keep ok (map f l) ≡ map f l
keep_all ok f [] h = refl
keep_all ok f (a ∷ l) h = rw (h a (let r = ap one_if (eq-eqb a a refl) in omega arith)) (ap (λ r. f a ∷ r) (keep_all ok f l (λ j u. h j (omega arith))))

pub none_get : {A : Type 0} (z : A) (ok : A → Bool) (l : List A) → ((i : ℕ) (a : A) → at l i ≡ Some a → ok a ≡ false) → ok z ≡ false → (k : ℕ) → ok (get_or l k z) ≡ false
none_get z ok [] h e k = e
none_get z ok (a ∷ l) h e zero = h 0 a refl
none_get z ok (a ∷ l) h e (suc k) = none_get z ok l (λ i. h (suc i)) e k

-- lists that have each number as often are as long, and have the same numbers
at_times : (k : ℕ) (l : List ℕ) → 1 ≤ times k l → (R : Type 0) → ((n : ℕ) → at l n ≡ Some k → suc (length (cut l n)) ≡ length l → R) → R
at_times k [] h R f = absurd (omega arith)
at_times k (a ∷ l) h R f = (elim (eqb a k) as (λ b. eqb a k ≡ b → 1 ≤ one_if b + times k l → R) [
  | true ↦ λ e h. f 0 (ap Some (eqb-true a k e)) refl
  | false ↦ λ e h. at_times k l (omega arith) R (λ n p q. f (suc n) p (ap suc q))
]) refl h

pub same_length : (a b : List ℕ) → ((n : ℕ) → times n a ≡ times n b) → length a ≡ length b
same_length [] [] h = refl
same_length [] (x ∷ b) h = let e = h x in let r = ap one_if (eq-eqb x x refl) in absurd (omega arith)
same_length (x ∷ a) b h =
    at_times x b (let e = h x in let r = ap one_if (eq-eqb x x refl) in omega arith) (length (x ∷ a) ≡ length b)
    (λ n p q. let g = same_length a (cut b n) (λ m. let c = times_cut m b n x p in let d = h m in omega arith) in omega arith)

pub same_has : (m : ℕ) (a b : List ℕ) → times m a ≡ times m b → has m a ≡ has m b
same_has m a b h = go (tested (has m b)) (tested (has m a))
  where
    go : Tested (has m b) → Tested (has m a) → has m a ≡ has m b
    go (pass p) (pass q) = q ∙ sym p
    go (fail p) (fail q) = q ∙ sym p
    go (pass p) (fail q) = let c = has_times m b p in let d = has_none m a q in absurd (omega arith)
    go (fail p) (pass q) = let c = has_times m a q in let d = has_none m b p in absurd (omega arith)

-- all but one are kept
pub keep_cut : {B : Type 0} (ok : B → Bool) (f : ℕ → B) (l : List ℕ) (n k : ℕ) → at l n ≡ Some k → ok (f k) ≡ false → ((j : ℕ) → 1 ≤ times j (cut l n) → ok (f j) ≡ true)
    → keep ok (map f l) ≡ map f (cut l n)
keep_cut ok f [] n k e o h = absurd (none≢some e)
keep_cut ok f (a ∷ l) zero k e o h = let s : a ≡ k = cc in rw (subst (λ x. ok (f x) ≡ false) (sym s) o) (keep_all ok f l h)
keep_cut ok f (a ∷ l) (suc n) k e o h = rw (h a (let r = ap one_if (eq-eqb a a refl) in omega arith)) (ap (λ r. f a ∷ r) (keep_cut ok f l n k e o (λ j u. h j (omega arith))))

-- a search through a map
pub find_map : {A B : Type 0} (ok : B → Bool) (f : A → B) (l : List A) → find ok (map f l) ≡ over f (find (λ a. ok (f a)) l)
find_map ok f [] = refl
find_map ok f (a ∷ l) = elim (ok (f a)) as (λ t. (when t then Some (f a) else find ok (map f l)) ≡ over f (when t then Some a else find (λ a. ok (f a)) l))
    [ true ↦ refl | false ↦ find_map ok f l ]

pub drop_map : {A B : Type 0} (ok : B → Bool) (f : A → B) (l : List A) → drop_first ok (map f l) ≡ map f (drop_first (λ a. ok (f a)) l)
drop_map ok f [] = refl
drop_map ok f (a ∷ l) = elim (ok (f a)) as (λ t. (when t then map f l else f a ∷ drop_first ok (map f l)) ≡ map f (when t then l else a ∷ drop_first (λ a. ok (f a)) l))
    [ true ↦ refl | false ↦ ap (λ r. f a ∷ r) (drop_map ok f l) ]

-- is one found
pub find_any : {A : Type 0} (ok : A → Bool) (l : List A) → given (find ok l) ≡ any ok l
find_any ok [] = refl
find_any ok (a ∷ l) = elim (ok a) as (λ t. given (when t then Some a else find ok l) ≡ (t || any ok l)) [ true ↦ refl | false ↦ find_any ok l ]

pub any_in : {B : Type 0} (ok : B → Bool) (f : ℕ → B) (l : List ℕ) (k : ℕ) → 1 ≤ times k l → ok (f k) ≡ true → any ok (map f l) ≡ true
any_in ok f [] k h e = absurd (omega arith)
any_in ok f (a ∷ l) k h e = (elim (eqb a k) as (λ t. eqb a k ≡ t → 1 ≤ one_if t + times k l → (ok (f a) || any ok (map f l)) ≡ true) [
  | true ↦ λ q h. rw (subst (λ x. ok (f x) ≡ true) (sym (eqb-true a k q)) e)
  | false ↦ λ q h. or_true (ok (f a)) (any_in ok f l k (omega arith) e)
]) refl h
  where
    or_true : (a : Bool) {b : Bool} → b ≡ true → (a || b) ≡ true
    or_true true e = refl
    or_true false e = e

pub any_none : {B : Type 0} (ok : B → Bool) (f : ℕ → B) (l : List ℕ) → ((k : ℕ) → 1 ≤ times k l → ok (f k) ≡ false) → any ok (map f l) ≡ false
any_none ok f [] h = refl
any_none ok f (a ∷ l) h = rw (h a (let r = ap one_if (eq-eqb a a refl) in omega arith)) (any_none ok f l (λ k u. h k (omega arith)))

-- how many pass, of how many
module _ {A : Type 0} (p : A → Bool) where
  pub tally_le : (t : List A) → tally p t ≤ length t
  tally_le [] = omega arith
  tally_le (a ∷ t) = let b = tally_le t in elim (p a) as (λ x. one_if x + tally p t ≤ suc (length t)) [ true ↦ omega arith | false ↦ omega arith ]

  pub tally_all : (t : List A) → ((i : ℕ) (a : A) → at t i ≡ Some a → p a ≡ true) → tally p t ≡ length t
  tally_all [] h = refl
  tally_all (a ∷ t) h = let b = tally_all t (λ i. h (suc i)) in let c = ap one_if (h 0 a refl) in omega arith

-- a table read at one place that was set, and at others
module _ {A : Type 0} (z : A) where
  pub inside : (p : A → Bool) (t : List A) (k : ℕ) → p z ≡ false → p (get_or t k z) ≡ true → k < length t
  inside p [] k e h = absurd (false≢true (sym e ∙ h))
  inside p (a ∷ t) zero e h = omega arith
  inside p (a ∷ t) (suc k) e h = let r = inside p t k e h in omega arith

  pub other : (t : List A) (k : ℕ) (v : A) (j : ℕ) → eqb k j ≡ false → get_or (set t k v) j z ≡ get_or t j z
  other t k v j e = get_or-set_other t k j v z (λ s. eqb-false k j e (sym s))

  -- what holds of each place, and of the new element
  pub set_all : (P : A → Type 0) (t : List A) (k : ℕ) (v : A) → k < length t → ((j : ℕ) → P (get_or t j z)) → P v → (j : ℕ) → P (get_or (set t k v) j z)
  set_all P t k v inn h e j = go (tested (eqb k j))
    where
      go : Tested (eqb k j) → P (get_or (set t k v) j z)
      go (pass q) = subst (λ i. P (get_or (set t k v) i z)) (eqb-true k j q) (subst P (sym (get_or-set_same t k v z inn)) e)
      go (fail q) = subst P (sym (other t k v j q)) (h j)

  module _ (p : A → Bool) (t : List A) (k : ℕ) (v : A) (inn : k < length t) (l m : List ℕ) (c : Counts z p t l) where
    -- k leaves the list, and passes no more
    pub leaves : ((j : ℕ) → times j m + one_if (eqb k j) ≡ times j l) → p v ≡ false → Counts z p (set t k v) m
    leaves h e j = go (tested (eqb k j))
      where
        go : Tested (eqb k j) → times j m ≡ one_if (p (get_or (set t k v) j z))
        go (pass q) =
            let s = eqb-true k j q in
            let a = ap (λ i. one_if (p (get_or (set t k v) i z))) s in
            let b = ap (λ x. one_if (p x)) (get_or-set_same t k v z inn) in
            let d = ap one_if e in
            let f = h j in let g = ap one_if q in let r = c j in let b1 = one_most (p (get_or t j z)) in omega arith
        go (fail q) = let a = ap (λ x. one_if (p x)) (other t k v j q) in let f = h j in let g = ap one_if q in let r = c j in omega arith

    -- k joins the list, and passes from now on
    pub joins : ((j : ℕ) → times j m ≡ times j l + one_if (eqb k j)) → p (get_or t k z) ≡ false → p v ≡ true → Counts z p (set t k v) m
    joins h o e j = go (tested (eqb k j))
      where
        go : Tested (eqb k j) → times j m ≡ one_if (p (get_or (set t k v) j z))
        go (pass q) =
            let s = eqb-true k j q in
            let a = ap (λ i. one_if (p (get_or (set t k v) i z))) s in
            let b = ap (λ x. one_if (p x)) (get_or-set_same t k v z inn) in
            let d = ap one_if e in
            let f = h j in let g = ap one_if q in let r = c j in let w = ap (λ i. one_if (p (get_or t i z))) s in let y = ap one_if o in omega arith
        go (fail q) = let a = ap (λ x. one_if (p x)) (other t k v j q) in let f = h j in let g = ap one_if q in let r = c j in omega arith

    -- the test says the same of the new element
    pub stays : ((j : ℕ) → times j m ≡ times j l) → p v ≡ p (get_or t k z) → Counts z p (set t k v) m
    stays h e j = go (tested (eqb k j))
      where
        go : Tested (eqb k j) → times j m ≡ one_if (p (get_or (set t k v) j z))
        go (pass q) =
            let s = eqb-true k j q in
            let a = ap (λ i. one_if (p (get_or (set t k v) i z))) s in
            let b = ap (λ x. one_if (p x)) (get_or-set_same t k v z inn) in
            let d = ap one_if e in
            let f = h j in let r = c j in let w = ap (λ i. one_if (p (get_or t i z))) s in omega arith
        go (fail q) = let a = ap (λ x. one_if (p x)) (other t k v j q) in let f = h j in let r = c j in omega arith

  pub tally_lt : (p : A → Bool) (t : List A) (k : ℕ) → k < length t → p (get_or t k z) ≡ false → tally p t < length t
  tally_lt p [] k h e = absurd (omega arith)
  tally_lt p (a ∷ t) zero h e = let b = tally_le p t in let c = ap one_if e in omega arith
  tally_lt p (a ∷ t) (suc k) h e = let b = tally_lt p t k (omega arith) e in elim (p a) as (λ x. one_if x + tally p t < suc (length t)) [ true ↦ omega arith | false ↦ omega arith ]

  -- a list that counts the places that pass: a fold over it by f is one over the table by q,
  -- which is f of what passes, and adds nothing of what does not
  pub fold_counts : {B : Type 0} (F : Fold B) (p : A → Bool) (f q : A → B) → p z ≡ false
      → ((a : A) → p a ≡ true → q a ≡ f a) → ((a : A) → p a ≡ false → q a ≡ F.empty)
      → (t : List A) (l : List ℕ) → Counts z p t l → folded F (λ k. f (get_or t k z)) l ≡ folded F q t
  fold_counts F p f q n same else-none t [] c =
      sym (folded_empty F q z (else-none z n) t (λ k. else-none (get_or t k z) (zero_one (p (get_or t k z)) (c k))))
  fold_counts F p f q n same else-none t (k ∷ l) c =
      let r = ap one_if (eq-eqb k k refl) in
      let e = c k in
      let b = one_most (p (get_or t k z)) in
      let y : p (get_or t k z) ≡ true = one_true (p (get_or t k z)) (omega arith) in
      let out : times k l ≡ 0 = omega arith in
      let u = set t k z in
      let h = fold_counts F p f q n same else-none u l (leaves p t k z (inside p t k n y) (k ∷ l) l c (λ j. omega arith) n) in
      ap (F.join (f (get_or t k z))) (folded_in F (λ j. f (get_or t j z)) (λ j. f (get_or u j z)) l
      (λ j i. ap f (sym (other t k z j (ne_eqb k j (λ s. (let w = ap (λ m. times m l) s in omega arith)))))))
      ∙ (λ i. F.join (sym (same (get_or t k z) y) i) (h i))
      ∙ folded_set F q z (else-none z n) t k

  -- it is as long as those that pass are many
  pub counts_length : (p : A → Bool) (t : List A) (l : List ℕ) → p z ≡ false → Counts z p t l → length l ≡ tally p t
  counts_length p t l n c =
      length_folded l
      ∙ fold_counts sum_fold p (λ a. 1) (λ a. one_if (p a)) n (λ a e. ap one_if e) (λ a e. ap one_if e) t l c
      ∙ sym (tally_folded p t)

  -- a test over it is a test over the table
  pub any_counts : {B : Type 0} (p : A → Bool) (t : List A) (l : List ℕ) → p z ≡ false → Counts z p t l → (ok : B → Bool) (g : A → B)
      → any ok (map (λ k. g (get_or t k z)) l) ≡ any (λ a. p a && ok (g a)) t
  any_counts p t l n c ok g =
      any_map ok (λ k. g (get_or t k z)) l
      ∙ any_folded (λ k. ok (g (get_or t k z))) l
      ∙ fold_counts or_fold p (λ a. ok (g a)) (λ a. p a && ok (g a)) n (λ a e. rw e) (λ a e. rw e) t l c
      ∙ sym (any_folded (λ a. p a && ok (g a)) t)
