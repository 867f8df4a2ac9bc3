-- Folds: a list put together by an operation that may be taken in any order and grouping, with a neutral element.
use Rattle.std.proofs.Common.{◌≡◌, ℕ, zero, suc, ◌+◌, ◌≤◌, Bool, true, false, ◌||◌, List, [], ◌∷◌, length, get_or, set, sym, refl, ap, ◌∙◌, arith, eq-eqb}
use Rattle.sizes.specs.Words.{any, one_if, times, tally}

pub record Fold (B : Type 0) : Type 0 where
  pub empty : B
  pub join : B → B → B
  pub neutral : (a : B) → join empty a ≡ a
  pub turned : (a b : B) → join a b ≡ join b a
  pub grouped : (a b c : B) → join (join a b) c ≡ join a (join b c)

module _ {A B : Type 0} (F : Fold B) where
  -- what f gives of each element, put together
  abbrev pub folded : (A → B) → List A → B
  folded f [] = F.empty
  folded f (a ∷ l) = F.join (f a) (folded f l)

  -- for a z that adds nothing: a table of such, and a table with z at one place
  module _ (f : A → B) (z : A) (e : f z ≡ F.empty) where
    pub folded_empty : (t : List A) → ((k : ℕ) → f (get_or t k z) ≡ F.empty) → folded f t ≡ F.empty
    folded_empty [] h = refl
    folded_empty (a ∷ t) h = ap (λ x. F.join x (folded f t)) (h 0) ∙ F.neutral (folded f t) ∙ folded_empty t (λ k. h (suc k))

    pub folded_set : (t : List A) (k : ℕ) → F.join (f (get_or t k z)) (folded f (set t k z)) ≡ folded f t
    folded_set [] k = ap (λ x. F.join x F.empty) e ∙ F.neutral F.empty
    folded_set (a ∷ t) zero = ap (F.join (f a)) (ap (λ x. F.join x (folded f t)) e ∙ F.neutral (folded f t))
    folded_set (a ∷ t) (suc k) =
        let x = f (get_or t k z) in let r = folded f (set t k z) in
        sym (F.grouped x (f a) r) ∙ ap (λ y. F.join y r) (F.turned x (f a)) ∙ F.grouped (f a) x r ∙ ap (F.join (f a)) (folded_set t k)

-- a fold is told by what stands in the list
pub folded_in : {B : Type 0} (F : Fold B) (f g : ℕ → B) (l : List ℕ) → ((k : ℕ) → 1 ≤ times k l → f k ≡ g k) → folded F f l ≡ folded F g l
folded_in F f g [] h = refl
folded_in F f g (k ∷ l) h = λ i. F.join (h k (let e = ap one_if (eq-eqb k k refl) in omega arith) i) (folded_in F f g l (λ j u. h j (omega arith)) i)

-- does one pass
abbrev pub or_fold : Fold Bool
or_fold = record { empty = false; join = ◌||◌; neutral = λ a. refl; turned = or_turned; grouped = or_grouped }
  where
    or_turned : (a b : Bool) → (a || b) ≡ (b || a)
    or_turned true true = refl
    or_turned true false = refl
    or_turned false true = refl
    or_turned false false = refl

    or_grouped : (a b c : Bool) → ((a || b) || c) ≡ (a || (b || c))
    or_grouped true b c = refl
    or_grouped false b c = refl

pub any_folded : {A : Type 0} (ok : A → Bool) (l : List A) → any ok l ≡ folded or_fold ok l
any_folded ok [] = refl
any_folded ok (a ∷ l) = ap (λ b. ok a || b) (any_folded ok l)

-- how many pass, and how many there are
abbrev pub sum_fold : Fold ℕ
sum_fold = record { empty = 0; join = ◌+◌; neutral = λ a. omega arith; turned = λ a b. omega arith; grouped = λ a b c. omega arith }

pub tally_folded : {A : Type 0} (ok : A → Bool) (l : List A) → tally ok l ≡ folded sum_fold (λ a. one_if (ok a)) l
tally_folded ok [] = refl
tally_folded ok (a ∷ l) = ap (λ n. one_if (ok a) + n) (tally_folded ok l)

pub length_folded : {A : Type 0} (l : List A) → length l ≡ folded sum_fold (λ a. 1) l
length_folded [] = refl
length_folded (a ∷ l) = let h = length_folded l in omega arith
