-- What it means that the numbers of a write fit, and that there is room for its record.
use mathlib.Core.Path.{◌≡◌, refl, ◌∙◌, ap}
use mathlib.Core.Bool.{Bool, true, false, ◌&&◌}
use mathlib.Core.List.{List}
use Prim.Native.Nat.{ℕ, ◌^◌, ◌<◌, ◌≤◌}
use borrow.Author.Tests.{leb-true, ltb-true}
use lib.Dec.{eqb, leb, ltb}
use lib.ListN.{length, get_or}
use Rattle.sizes.specs.Words.{when◌then◌else◌, one_if}
use Rattle.text.proofs.Lists.{both}
use Rattle.std.specs.Prelude.{Result, Ok, Err}
use Rattle.std.specs.Result.{is_ok}
use Rattle.sizes.specs.declared.refusal.Refusal.{Refusal}
use Rattle.sizes.specs.declared.refusal.Refusal.TheVariants as Because
use Rattle.wire.specs.Record.{record_size, good, writable, done, refused, with_values, writing_said, write_answer, RecordWrites}
use Rattle.wire.specs.declared.record.Record.{Record}
use Rattle.record_program.specs.Fields.{numbers_of}
use Rattle.record_program.specs.Numbers.{fit, room_for}

-- all but the buffer
pub record Fields (a : List ℕ) : Type 0 where
  pub is_fdt : get_or a 0 0 ≤ 1
  pub close : get_or a 1 0 ≤ 1
  pub fdt_id : get_or a 2 0 < 2 ^ 32
  pub block : get_or a 4 0 < 2 ^ 32
  pub symbol : get_or a 5 0 < 2 ^ 32

module _ (a : List ℕ) where
  pub fitting : fit a ≡ true → Fields a × (get_or a 9 0 ≤ 64)
  unfolding fit
  fitting h =
      let l1 : Bool = leb (get_or a 0 0) 1 && leb (get_or a 1 0) 1 in
      let l2 : Bool = l1 && ltb (get_or a 2 0) (2 ^ 32) in
      let l3 : Bool = l2 && ltb (get_or a 4 0) (2 ^ 32) in
      let l4 : Bool = l3 && ltb (get_or a 5 0) (2 ^ 32) in
      let t5 = both l4 (leb (get_or a 9 0) 64) h in
      let t4 = both l3 (ltb (get_or a 5 0) (2 ^ 32)) t5.0 in
      let t3 = both l2 (ltb (get_or a 4 0) (2 ^ 32)) t4.0 in
      let t2 = both l1 (ltb (get_or a 2 0) (2 ^ 32)) t3.0 in
      let t1 = both (leb (get_or a 0 0) 1) (leb (get_or a 1 0) 1) t2.0 in (
        record {
          is_fdt = leb-true _ _ t1.0;
          close = leb-true _ _ t1.1;
          fdt_id = ltb-true _ _ t2.1;
          block = ltb-true _ _ t3.1;
          symbol = ltb-true _ _ t4.1;
        },
        leb-true _ _ t5.1,
      )

told : (a : Result (Unit {0}) Refusal) (b : Bool) → writing_said a ≡ (when b then done else refused Because.Record) → is_ok a ≡ b
told (Ok u) true h = refl
told (Ok u) false h = cc
told (Err why) true h = cc
told (Err why) false h = refl

-- a write is done exactly where there is room for the record
pub room_told : {out after : List ℕ} {room : ℕ} {r : Record} {a : Result (Unit {0}) Refusal} → RecordWrites out r a after → length out ≡ room → is_ok a ≡ room_for room r
unfolding write_answer writable room_for
room_told {out} {after} {room} {r} {a} w e = told a (writable out r) w.answer ∙ ap (λ n. leb record_size n && good r) e

flag_back : (b : Bool) → eqb (one_if b) 1 ≡ b
flag_back true = refl
flag_back false = refl

-- the numbers that are shown of a record are those that it is written from
pub shown_back : (r : Record) → with_values (numbers_of r) ≡ r
unfolding with_values
shown_back r = rw (flag_back r.is_fdt, flag_back r.close)
