-- Facts on tests.
use Rattle.std.proofs.Common.{◌≡◌, ℕ, Bool, true, false, ◌&&◌, ◌||◌, refl, true≢false, arith}
use mathlib.Core.Bool.{false≢true}
use Rattle.std.specs.Prelude.{Option, None, Some, Ok, Err, ok_or}
use Rattle.sizes.specs.Words.{when◌then◌else◌, maybe}

-- a test is true or false, with the equation
pub data Tested (t : Bool) : Type 0 where
  pass : t ≡ true → Tested t
  fail : t ≡ false → Tested t

pub tested : (t : Bool) → Tested t
tested true = pass refl
tested false = fail refl

pub and_left : (a b : Bool) → (a && b) ≡ true → a ≡ true
and_left true b e = refl
and_left false b e = e

pub and_right : (a b : Bool) → (a && b) ≡ true → b ≡ true
and_right true b e = e
and_right false b e = absurd (false≢true e)

pub or_left : (a b : Bool) → (a || b) ≡ false → a ≡ false
or_left true b e = absurd (true≢false e)
or_left false b e = refl

pub or_right : (a b : Bool) → (a || b) ≡ false → b ≡ false
or_right true b e = absurd (true≢false e)
or_right false b e = e

pub none≢some : {A : Type 0} {a : A} → None ≡ Some a → ⊥
none≢some e = let z : ◌≡◌ {A = ℕ} 0 1 = cc in omega arith

-- what stood behind an option that was told as a result
pub ok_told : {A E : Type 0} (o : Option A) (e : E) (a : A) → Ok a ≡ ok_or o e → o ≡ Some a
ok_told None e a q = cc
ok_told (Some b) e a q = cc

pub err_told : {A E : Type 0} (o : Option A) (e w : E) → Err w ≡ ok_or o e → (o ≡ None) × (w ≡ e)
err_told None e w q = (refl, (cc))
err_told (Some b) e w q = ((cc), (cc))

-- what holds in both cases, of a choice and of what may be there
pub if_on : {A : Type 0} (P : A → Type 0) (b : Bool) {x y : A} → (b ≡ true → P x) → (b ≡ false → P y) → P (when b then x else y)
if_on P true t f = t refl
if_on P false t f = f refl

pub maybe_on : {A B : Type 0} (P : B → Type 0) {d : B} {g : A → B} (o : Option A) → (o ≡ None → P d) → ((a : A) → o ≡ Some a → P (g a)) → P (maybe d g o)
maybe_on P None n s = n refl
maybe_on P (Some a) n s = s a refl
