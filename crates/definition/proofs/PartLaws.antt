-- Parts that share no byte, by counting: no byte is in two of them. So the parts of a desk's objects stay apart, and inside the store.
use mathlib.Core.Path.{◌≡◌, refl, ◌∙◌, ap}
use mathlib.Core.Bool.{Bool, false, ◌&&◌}
use Rattle.std.specs.Prelude.{Option, None}
use mathlib.Core.List.{List, [], ◌∷◌, map}
use Prim.Native.Nat.{ℕ, ◌+◌, ◌≤◌, ◌<◌, min, max}
use native.Mathlib.Omega.{arith}
use lib.Dec.{ltb, leb}
use borrow.Author.Tests.{ltb-true, ltb-false, leb-true, lt-ltb, le-leb}
use Rattle.sizes.specs.Words.{any, one_if, Each}
use Rattle.sizes.specs.Limits.{longest_store}
use Rattle.sizes.proofs.Tests.{and_left, and_right, or_left, or_right, Tested, pass, fail, tested}
use Rattle.sizes.proofs.Lists.{any_map}
use Rattle.lifecycle.specs.Parts.{part_end, shares, past_store}
use Rattle.lifecycle.specs.declared.parts.Part.{Part}
use Rattle.lifecycle.specs.Setup.{Setup}
use Rattle.definition.specs.Session.{Object}
use Rattle.definition.specs.Desk.{Desk, Request, Call, objects, toi_for, made, bad_object_part, add_refusal, step}
use Rattle.definition.specs.TotalPromises.{ApartAll, Admitted}
use Rattle.definition.proofs.Weights.{total, total_over, bound_step}
use Rattle.definition.proofs.Numbers.{admissible, blocks_fit}
use Rattle.definition.proofs.Everywhere.{each_step}

-- ---- bytes

-- is byte n in the part
abbrev covers : ℕ → Part → Bool
covers n c = leb c.start n && ltb n (part_end c)

abbrev pub cover : ℕ → Part → ℕ
cover n c = one_if (covers n c)

cover_in : (n : ℕ) (c : Part) → c.start ≤ n → n < part_end c → cover n c ≡ 1
cover_in n c h k = rw (le-leb c.start n h, lt-ltb n (part_end c) k)

-- two parts that share no byte, and back
apart_two : (n : ℕ) (a b : Part) → shares a b ≡ false → cover n a + cover n b ≤ 1
unfolding shares
apart_two n a b h = go (tested (covers n a)) (tested (covers n b))
  where
    go : Tested (covers n a) → Tested (covers n b) → cover n a + cover n b ≤ 1
    go (fail x) (fail y) = let u = ap one_if x in let v = ap one_if y in omega arith
    go (fail x) (pass y) = let u = ap one_if x in let v = ap one_if y in omega arith
    go (pass x) (fail y) = let u = ap one_if x in let v = ap one_if y in omega arith
    go (pass x) (pass y) = absurd (
        let p = leb-true a.start n (and_left (leb a.start n) (ltb n (part_end a)) x) in
        let q = ltb-true n (part_end a) (and_right (leb a.start n) (ltb n (part_end a)) x) in
        let r = leb-true b.start n (and_left (leb b.start n) (ltb n (part_end b)) y) in
        let s = ltb-true n (part_end b) (and_right (leb b.start n) (ltb n (part_end b)) y) in
        let k = ltb-false (max a.start b.start) (min (part_end a) (part_end b)) h in omega arith)

two_apart : (a b : Part) → ((n : ℕ) → cover n a + cover n b ≤ 1) → shares a b ≡ false
unfolding shares
two_apart a b h = go (tested (shares a b))
  where
    go : Tested (shares a b) → shares a b ≡ false
    go (fail e) = e
    go (pass e) = absurd (
        let n = max a.start b.start in
        let k = ltb-true (max a.start b.start) (min (part_end a) (part_end b)) e in
        let x = cover_in n a (omega arith) (omega arith) in
        let y = cover_in n b (omega arith) (omega arith) in
        let z = h n in omega arith)

-- ---- lists of parts

-- with one part of which a byte is in it, the rest have it not
rest_uncovered : (n : ℕ) (c : Part) (l : List Part) → cover n c ≡ 1 → Each (λ b. shares c b ≡ false) l → total (cover n) l ≡ 0
rest_uncovered n c [] e u = refl
rest_uncovered n c (b ∷ l) e u =
    let x = apart_two n c b u.0 in
    let y = rest_uncovered n c l e u.1 in omega arith

pub apart_cover : (l : List Part) → ApartAll l → (n : ℕ) → total (cover n) l ≤ 1
apart_cover [] u n = omega arith
apart_cover (c ∷ l) u n = go (tested (covers n c)) (apart_cover l u.1 n)
  where
    go : Tested (covers n c) → total (cover n) l ≤ 1 → cover n c + total (cover n) l ≤ 1
    go (pass e) h = let z = ap one_if e in let y = rest_uncovered n c l z u.0 in omega arith
    go (fail e) h = let z = ap one_if e in omega arith

cover_first : (c : Part) (l : List Part) → ((n : ℕ) → cover n c + total (cover n) l ≤ 1) → Each (λ b. shares c b ≡ false) l
cover_first c [] h = tt
cover_first c (b ∷ l) h = (two_apart c b (λ n. let a = h n in omega arith), cover_first c l (λ n. let a = h n in omega arith))

pub cover_apart : (l : List Part) → ((n : ℕ) → total (cover n) l ≤ 1) → ApartAll l
cover_apart [] h = tt
cover_apart (c ∷ l) h = (cover_first c l h, cover_apart l (λ n. let a = h n in omega arith))

-- a test that none passes
pub none_passes : {A : Type 0} (ok : A → Bool) (l : List A) → any ok l ≡ false → Each (λ a. ok a ≡ false) l
none_passes ok [] e = tt
none_passes ok (a ∷ l) e = (or_left (ok a) (any ok l) e, none_passes ok l (or_right (ok a) (any ok l) e))

-- one more part that shares no byte with them
pub one_cover : (c : Part) (l : List Part) → any (shares c) l ≡ false → ApartAll l → (n : ℕ) → total (cover n) l + cover n c ≤ 1
one_cover c l e u n = let h = apart_cover (c ∷ l) (none_passes (shares c) l e, u) n in omega arith

-- ---- the parts of objects

abbrev part_of : Object → Part
part_of o = o.part

-- what refusal 5 asks of an add
fits : (s : Setup) (d : Desk) (c : Part) → bad_object_part s d c ≡ false → (part_end c ≤ s.object_store) × (any (shares c) (map part_of (objects d)) ≡ false)
unfolding bad_object_part past_store
fits s d c e =
    let past = ltb s.object_store (part_end c) in
    let shared = any (λ (o : Object). shares c o.part) (objects d) in
    (ltb-false s.object_store (part_end c) (or_left past shared e), any_map (shares c) part_of (objects d) ∙ or_right past shared e)

pub apart_step : (s : Setup) (d : Desk) (c : Call) → ApartAll (map part_of (objects d)) → ApartAll (map part_of (objects (step s d c).1))
unfolding made
apart_step s d c u = cover_apart (map part_of (objects (step s d c).1)) (λ n.
    let k = total_over (cover n) part_of (objects d) in
    let h = apart_cover (map part_of (objects d)) u n in
    let z = bound_step (λ o. cover n o.part) (λ x o. refl) 1 s d c (λ named q e.
    let y = one_cover q.part (map part_of (objects d)) (fits s d q.part (admissible s d named q e).part_fits).1 u n in omega arith) (omega arith) in
    let y = total_over (cover n) part_of (objects (step s d c).1) in omega arith)

pub admitted_step : (s : Setup) (d : Desk) (c : Call) → s.object_store ≤ longest_store → Each (Admitted s) (objects d) → Each (Admitted s) (objects (step s d c).1)
unfolding made
admitted_step s d c w u = each_step (Admitted s) (λ x o v. record { blocks = v.blocks; inside = v.inside; short = v.short }) s d c (λ named q e h. one named q h) u
  where
    one : (named : Option ℕ) (q : Request) → add_refusal s d named q ≡ None → Admitted s (made s (toi_for d named) q)
    one named q h =
        let a = (fits s d q.part (admissible s d named q h).part_fits).0 in
        record { blocks = blocks_fit s d named q h; inside = a; short = omega arith }
