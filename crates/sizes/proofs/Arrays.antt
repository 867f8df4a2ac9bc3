-- Laws of arrays with a length: the library's searches in the words of the definitions, a gap that is closed, a change of each element.
use Rattle.std.proofs.Common.{◌≡◌, ℕ, zero, suc, ◌+◌, ◌-◌, ◌<◌, ◌≤◌, Bool, true, false, cond, ◌&&◌, ◌||◌, List, [], ◌∷◌, ◌++◌, map, length, get_or, take, drop, set, sym, refl, ap, ◌∙◌, add-one, arith}
use Rattle.std.specs.Prelude.{Option, None, Some}
use Rattle.std.specs.List.{copy_within, list_all, list_any, position, position_from}
use Rattle.std.proofs.lemmas.Iterator.Adapters.{position_from-zero}
use Rattle.sizes.specs.Words.{when◌then◌else◌, over, any, all, cut, place, shut, Each}

-- the library's words for a search come to the same
pub any_is : {A : Type 0} (ok : A → Bool) (l : List A) → list_any ok l ≡ any ok l
any_is ok [] = refl
any_is ok (a ∷ l) = ap (λ b. ok a || b) (any_is ok l)

pub all_is : {A : Type 0} (ok : A → Bool) (l : List A) → list_all ok l ≡ all ok l
all_is ok [] = refl
all_is ok (a ∷ l) = ap (λ b. ok a && b) (all_is ok l)

pub over_over : {A B C : Type 0} (f : B → C) (g : A → B) (h : A → C) → ((a : A) → f (g a) ≡ h a) → (o : Option A) → over f (over g o) ≡ over h o
over_over f g h e None = refl
over_over f g h e (Some a) = ap Some (e a)

over_zero : (o : Option ℕ) → over (λ k. 0 + k) o ≡ o
over_zero None = refl
over_zero (Some k) = ap Some (let r : 0 + k ≡ k = omega arith in r)

pub position_is : {A : Type 0} (ok : A → Bool) (l : List A) → position ok l ≡ place ok l
position_is ok l = position_from-zero ok l ∙ from 0 l ∙ over_zero (place ok l)
  where
    from : (i : ℕ) (l : List _) → position_from ok i l ≡ over (λ k. i + k) (place ok l)
    from i [] = refl
    from i (a ∷ l) = elim (ok a) as (λ t. cond t (Some i) (position_from ok (i + 1) l) ≡ over (λ k. i + k) (when t then Some 0 else over suc (place ok l))) [
      | true ↦ ap Some (let r : i ≡ i + 0 = omega arith in r)
      | false ↦ from (i + 1) l ∙ sym (over_over (λ k. i + k) suc (λ k. i + 1 + k) (λ k. omega arith) (place ok l))
    ]

-- an element of the first n has what each of them has
pub each_get : {A : Type 0} (P : A → Type 0) (n : ℕ) (l : List A) → n ≤ length l → (i : ℕ) (z : A) → i < n → Each P (take n l) → P (get_or l i z)
each_get P zero l long i z h u = absurd (omega arith)
each_get P (suc n) [] long i z h u = absurd (omega arith)
each_get P (suc n) (a ∷ l) long zero z h u = u.0
each_get P (suc n) (a ∷ l) long (suc i) z h u = each_get P n l (omega arith) i z (omega arith) u.1

module _ {A : Type 0} (z : A) where
  -- an element past the end, whatever stands behind
  getD_end : (l : List A) (j : ℕ) → get_or (l ++ (z ∷ [])) j z ≡ get_or l j z
  getD_end [] zero = refl
  getD_end [] (suc j) = refl
  getD_end (a ∷ l) zero = refl
  getD_end (a ∷ l) (suc j) = getD_end l j

  pub getD_shut : (l : List A) (i j : ℕ) → i ≤ j → get_or (shut z l i) j z ≡ get_or l (suc j) z
  getD_shut [] i zero h = refl
  getD_shut [] i (suc j) h = refl
  getD_shut (a ∷ l) zero j h = getD_end l j
  getD_shut (a ∷ l) (suc i) zero h = absurd (omega arith)
  getD_shut (a ∷ l) (suc i) (suc j) h = getD_shut l i j (omega arith)

  pub take_shut : (l : List A) (i m : ℕ) → i < m → m ≤ length l → take (m - 1) (shut z l i) ≡ cut (take m l) i
  take_shut l i zero h g = absurd (omega arith)
  take_shut l i (suc m) h g = rw sub_suc (go l i m h g)
    where
      sub_suc : suc m - 1 ≡ m
      sub_suc = omega arith

      go : (l : List A) (i m : ℕ) → i < suc m → suc m ≤ length l → take m (shut z l i) ≡ cut (take (suc m) l) i
      go [] i m h g = absurd (omega arith)
      go (a ∷ l) zero m h g = front l m (omega arith)
        where
          front : (l : List A) (m : ℕ) → m ≤ length l → take m (l ++ (z ∷ [])) ≡ take m l
          front l zero g = refl
          front [] (suc m) g = absurd (omega arith)
          front (a ∷ l) (suc m) g = ap (λ r. a ∷ r) (front l m (omega arith))
      go (a ∷ l) (suc i) zero h g = absurd (omega arith)
      go (a ∷ l) (suc i) (suc m) h g = ap (λ r. a ∷ r) (go l i m (omega arith) (omega arith))

  pub length_shut : (l : List A) (i : ℕ) → i < length l → length (shut z l i) ≡ length l
  length_shut [] i h = absurd (omega arith)
  length_shut (a ∷ l) zero h = end l
    where
      end : (l : List A) → length (l ++ (z ∷ [])) ≡ suc (length l)
      end [] = refl
      end (a ∷ l) = ap suc (end l)
  length_shut (a ∷ l) (suc i) h = ap suc (length_shut l i (omega arith))

  -- the later ones copied one place up, and z put last
  module _ (l : List A) where
    front : (x : A) (r : List A) (n m : ℕ) → n ≡ m → length r ≡ m → set (take n r ++ drop m (x ∷ r)) m z ≡ r ++ (z ∷ [])
    front x [] n zero e h = rw e
    front x (y ∷ r) n zero e h = absurd (omega arith)
    front x [] n (suc m) e h = absurd (omega arith)
    front x (y ∷ r) zero (suc m) e h = absurd (omega arith)
    front x (y ∷ r) (suc n) (suc m) e h = ap (λ t. y ∷ t) (front y r n m (omega arith) (omega arith))

    moved : (l : List A) (i n m : ℕ) → m ≡ i + n → length l ≡ suc m → set (take i l ++ take n (drop (suc i) l) ++ drop m l) m z ≡ shut z l i
    moved [] i n m e h = absurd (omega arith)
    moved (x ∷ l) zero n m e h = front x l n m (omega arith) (omega arith)
    moved (x ∷ l) (suc i) n zero e h = absurd (omega arith)
    moved (x ∷ l) (suc i) n (suc m) e h = ap (λ t. x ∷ t) (moved l i n m (omega arith) (omega arith))

    pub shut_by_copy : (i : ℕ) → i < length l → set (copy_within l (i + 1) (length l) i) (length l - 1) z ≡ shut z l i
    shut_by_copy i h =
        let e : i + (length l - suc i) ≡ length l - 1 = omega arith in
        rw (add-one, e) (moved l i (length l - suc i) (length l - 1) (omega arith) (omega arith))

-- a loop that puts f of each element in its place, one a turn: what it has after i turns
module _ {A : Type 0} (f : A → A) where
  abbrev pub mapped : List A → ℕ → List A
  mapped l i = map f (take i l) ++ drop i l

  mapped_at : (l : List A) (i : ℕ) (z : A) → i < length l → get_or (mapped l i) i z ≡ get_or l i z
  mapped_at [] i z h = absurd (omega arith)
  mapped_at (x ∷ l) zero z h = refl
  mapped_at (x ∷ l) (suc i) z h = mapped_at l i z (omega arith)

  mapped_suc : (l : List A) (i : ℕ) (z : A) → i < length l → set (mapped l i) i (f (get_or l i z)) ≡ mapped l (suc i)
  mapped_suc [] i z h = absurd (omega arith)
  mapped_suc (x ∷ l) zero z h = refl
  mapped_suc (x ∷ l) (suc i) z h = ap (λ t. f x ∷ t) (mapped_suc l i z (omega arith))

  pub mapped_more : (l : List A) (i : ℕ) {m : List A} {x : A} (z : A) → i < length l → m ≡ mapped l i → x ≡ f (get_or m i z) → set m i x ≡ mapped l (i + 1)
  mapped_more l i z h e q = rw (q, e, mapped_at, add-one) (mapped_suc l i z h)

  pub mapped_all : (l : List A) (i : ℕ) → length l ≤ i → mapped l i ≡ map f l
  mapped_all [] zero h = refl
  mapped_all [] (suc i) h = refl
  mapped_all (x ∷ l) zero h = absurd (omega arith)
  mapped_all (x ∷ l) (suc i) h = ap (λ t. f x ∷ t) (mapped_all l i (omega arith))
