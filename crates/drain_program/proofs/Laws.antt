-- A flag as a number, and a field that is put into a buffer.
use mathlib.Core.Path.{◌≡◌, refl}
use mathlib.Core.Bool.{Bool, true, false, cond}
use mathlib.Core.List.{List, [], ◌∷◌}
use Prim.Native.Nat.{ℕ, ◌+◌, ◌^◌, ◌<◌, ◌≤◌}
use native.Mathlib.Omega.{arith}
use mir.Val.{bool_byte}
use lib.ListN.{length}
use Rattle.text.specs.Put.{decimal, Appended, Put}
use Rattle.text.proofs.Appends.{short, both}
use Rattle.drain_program.specs.Lines.{field, most_field}

pub byte_of : (b : Bool) → bool_byte b ≡ cond b 1 0
byte_of true = refl
byte_of false = refl

-- a number and a byte behind it, where there is room for the longest field
pub field_put : {a b c : List ℕ} {at r s : ℕ} (n m : ℕ) → n < 2 ^ 64 → at + most_field ≤ length a → Put a at (decimal n) b r → Put b r (m ∷ []) c s →
    Appended a at (field n m) c s × (s ≤ at + most_field)
unfolding field
field_put n m small room number mark =
    let k = short n small in
    let p = number.fits (omega arith) in
    let q = mark.fits (omega (arith, p.size, p.end)) in (both p q, omega (arith, p.end, q.end))
