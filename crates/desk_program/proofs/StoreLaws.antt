-- Laws on the bytes of a store, and on checksums.
use mathlib.Core.Path.{◌≡◌}
use mathlib.Core.Bool.{Bool, true, false}
use mathlib.Core.List.{List}
use Prim.Native.Nat.{ℕ, ◌+◌, ◌*◌, ◌/◌, ◌<◌, ◌≤◌}
use native.Mathlib.Nat.{add-mul-mod_self_left}
use native.Mathlib.Numerals.{add-one}
use native.Mathlib.Omega.{arith}
use lib.ListN.{length, drop, get_or, drop_of_length-le}
use lib.Seq.{drop-cons}
use Rattle.desk_program.specs.Stores.{byte_at, period_of, sum_with, sum_of}

-- a store repeats itself
pub again : (is_fdt : Bool) (i : ℕ) → byte_at is_fdt (i + period_of is_fdt) ≡ byte_at is_fdt i
unfolding byte_at period_of
again true i =
    let q : (i + 30848) / 241 ≡ i / 241 + 128 = omega arith in
    let e : 83 * (i + 30848) + 29 * (i / 241 + 128) + 7 ≡ 83 * i + 29 * (i / 241) + 7 + 128 * 20032 = omega arith in
    rw (q, e) (add-mul-mod_self_left (83 * i + 29 * (i / 241) + 7) 128 20032)
again false i =
    let q : (i + 64256) / 251 ≡ i / 251 + 256 = omega arith in
    let e : 167 * (i + 64256) + 59 * (i / 251 + 256) + 13 ≡ 167 * i + 59 * (i / 251) + 13 + 256 * 41976 = omega arith in
    rw (q, e) (add-mul-mod_self_left (167 * i + 59 * (i / 251) + 13) 256 41976)

-- one more byte of a checksum, and none
pub sum_step : (l : List ℕ) (i sum : ℕ) → i < length l → sum_of (sum_with sum (get_or l i 0)) (drop (i + 1) l) ≡ sum_of sum (drop i l)
unfolding sum_of
sum_step l i sum h = rw (add-one i, drop-cons l i 0 h)

pub sum_end : (l : List ℕ) (i sum : ℕ) → length l ≤ i → sum_of sum (drop i l) ≡ sum
unfolding sum_of
sum_end l i sum h = rw (drop_of_length-le l h)
