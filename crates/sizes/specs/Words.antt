-- Words that the definitions are written in: a choice by a test, a rounded quotient, and some functions on lists.
use Rattle.std.specs.Prelude.{◌≡◌, ℕ, zero, suc, ◌+◌, ◌-◌, ◌/◌, Bool, true, false, ◌&&◌, ◌||◌, eqb, List, [], ◌∷◌, ◌++◌, get_or, ◌==◌, nat_le}
use Rattle.std.specs.Prelude.{Option, None, Some}

infix 1 when◌then◌else◌
-- a choice by a test
abbrev pub when◌then◌else◌ {ℓ} : {A : Type ℓ} → Bool → A → A → A
when true then a else b = a
when false then a else b = b

-- a / b rounded up, for b of at least 1
unfoldable pub ceil : ℕ → ℕ → ℕ
ceil a b = (a + (b - 1)) / b

-- what is there, put through f; or d
abbrev pub maybe : {A B : Type 0} → B → (A → B) → Option A → B
maybe d f None = d
maybe d f (Some a) = f a

-- f of what may be there
abbrev pub over : {A B : Type 0} → (A → B) → Option A → Option B
over f None = None
over f (Some a) = Some (f a)

-- is something there
abbrev pub given : {A : Type 0} → Option A → Bool
given None = false
given (Some a) = true

-- the list of what each element may give
abbrev pub collect : {A B : Type 0} → (A → Option B) → List A → List B
collect f [] = []
collect f (a ∷ l) = maybe (collect f l) (λ b. b ∷ collect f l) (f a)

module _ {A : Type 0} where
  -- the elements that pass
  abbrev pub keep : (A → Bool) → List A → List A
  keep ok [] = []
  keep ok (a ∷ l) = when ok a then a ∷ keep ok l else keep ok l

  -- does one pass
  abbrev pub any : (A → Bool) → List A → Bool
  any ok [] = false
  any ok (a ∷ l) = ok a || any ok l

  -- do all pass
  abbrev pub all : (A → Bool) → List A → Bool
  all ok [] = true
  all ok (a ∷ l) = ok a && all ok l

  -- the first that passes
  abbrev pub find : (A → Bool) → List A → Option A
  find ok [] = None
  find ok (a ∷ l) = when ok a then Some a else find ok l

  -- the list without the first that passes
  abbrev pub drop_first : (A → Bool) → List A → List A
  drop_first ok [] = []
  drop_first ok (a ∷ l) = when ok a then l else a ∷ drop_first ok l

  -- the element at place i
  abbrev pub at : List A → ℕ → Option A
  at [] i = None
  at (a ∷ l) zero = Some a
  at (a ∷ l) (suc i) = at l i

  -- the list with place i left out
  abbrev pub cut : List A → ℕ → List A
  cut [] i = []
  cut (a ∷ l) zero = l
  cut (a ∷ l) (suc i) = a ∷ cut l i

  -- where the first that passes stands
  abbrev pub place : (A → Bool) → List A → Option ℕ
  place ok [] = None
  place ok (a ∷ l) = when ok a then Some 0 else over suc (place ok l)

  -- an array with place i left out: the later ones move up, and z comes in at the end
  abbrev pub shut : A → List A → ℕ → List A
  shut z l i = cut l i ++ (z ∷ [])

  -- each element has the property
  abbrev pub Each : (A → Type 0) → List A → Type 0
  Each P [] = Unit {0}
  Each P (a ∷ l) = P a × Each P l

-- is a number in a range
abbrev pub within : ℕ → ℕ → ℕ → Bool
within low high n = nat_le low n && nat_le n high

-- the first entry of a table whose test holds
abbrev pub first_of : {A : Type 0} → List (A × Bool) → Option A
first_of [] = None
first_of (r ∷ l) = when r.1 then Some r.0 else first_of l

-- is the number in the list
abbrev pub has : ℕ → List ℕ → Bool
has n = any (λ m. eqb m n)

abbrev pub one_if : Bool → ℕ
one_if true = 1
one_if false = 0

-- how often a number stands in a list
abbrev pub times : ℕ → List ℕ → ℕ
times n [] = 0
times n (a ∷ l) = one_if (a == n) + times n l

module _ {A : Type 0} where
  -- how many pass
  abbrev pub tally : (A → Bool) → List A → ℕ
  tally p [] = 0
  tally p (a ∷ t) = one_if (p a) + tally p t

  -- a list of places has each place of a table that passes once, and no other; z stands past the table's end
  abbrev pub Counts : A → (A → Bool) → List A → List ℕ → Type 0
  Counts z p t l = (k : ℕ) → times k l ≡ one_if (p (get_or t k z))

-- f 0 + f 1 + .. + f (n - 1)
abbrev pub sum_below : ℕ → (ℕ → ℕ) → ℕ
sum_below zero f = 0
sum_below (suc n) f = sum_below n f + f n
