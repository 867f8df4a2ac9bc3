-- One element of an array that is a field of a struct behind a reference: its cell comes out, and goes back with the same value or another.
-- For any struct and any element type of plain data; a walk by hand would cite it at each such read and store.
--     part, item     the element as a part, or its cell with its value written out; and the way back with another in its place
--     cut_then       a part of a part.        cut_record     a field that is a struct, at the struct's own type.        number     a field of 64 bits
-- Assumes `Logic`.
use mathlib.Core.Path.{◌≡◌, refl, sym, ◌∙◌, ap, subst}
use Prim.Native.Nat.{ℕ, ◌+◌, ◌<◌}
use native.Mathlib.Nat.{add_assoc}
use mathlib.Core.List.{List, [], ◌∷◌}
use lib.ListN.{length, get_or, set, length-set}
use seplogic.Ra.Ura.{Ura}
use base.Fraction.{full_share}
use mir.Syntax.{w64, ty_int}
use mir.Val.{Val, vint}
use base.Logic.{ent, sep, wand, guard, apply∗}
use base.Fml.{Fml, fat}
use types.Logic.{Logic, sem}
use types.Kit.{◌$◌, !, ‵, ◌⊛◌, raw, given, some, pick, check, learn, qed, move, keep, use1, use2, rewrite, split, assume, frame, fsplit, fjoin, feq_i, feq_l, done}
use types.SemTy.{cells}
use types.Share.{arr_parts}
use denote.RattleType.{RattleType}
use denote.Laws.{Is, shows}
use denote.Steps.{peeks, owned, only}
use denote.Memory.{part_at, mem, shares, lone}
use denote.Array.{Array}
use denote.ArrayMemory.{Single, Array-apart, Array-whole}
use borrow.Table.Elements.{at, focus}
use borrow.Table.OneValue.{part_out, part_in}
use borrow.Rule.Slice.Shared.{parts-cells}
use borrow.Struct.Way.{Cut}
use denote.Struct.Struct.{Struct}
use denote.Struct.Recorded.{Recorded-part}
use denote.Struct.Declared as SD
use Rattle.lending.proofs.Whole.{Data, uint_data, cell_of, of_cell}
use denote.Plain.{UInt}

module _ {M : Type 1} {𝓤 : Ura M} (𝓛 : Logic 𝓤) (S P : RattleType) (n d : ℕ) (single : Single P.mir) (D : Data 𝓛 P)
    (h h' : S.Denot) (xs : List P.Denot) (ix : ℕ) (dv y : P.Denot) (b o off : ℕ) where
  abbrev elem : ℕ → P.Denot → Fml
  elem j v = part_at P full_share v b j

  abbrev row : List P.Denot → Fml
  row l = cells (mem P) l b (o + d)

  abbrev cell : P.Denot → Fml
  cell v = fat full_share (lone P.mir) b off (D.mach v)

  -- the element as a part, and the way back
  pub part : ix < n → at (o + d) (mem P).size ix ≡ off → Cut 𝓛 full_share S (Array P n) d h h' xs (set xs ix y) (b, o)
      → ent 𝓤 (sem 𝓛 (part_at S full_share h b o)) (sep 𝓤 (sem 𝓛 (elem off (get_or xs ix dv))) (wand 𝓤 (sem 𝓛 (elem off y)) (sem 𝓛 (part_at S full_share h' b o))))
  part lt e cut = qed 𝓛 (‵ (part_at S full_share h b o) ∷ []) {P = sep 𝓤 (sem 𝓛 (elem off (get_or xs ix dv))) (wand 𝓤 (sem 𝓛 (elem off y)) (sem 𝓛 (part_at S full_share h' b o)))} (
      use1 𝓛 (‵ (part_at (Array P n) full_share xs b (o + d)) ⊛ raw (wand 𝓤 (sem 𝓛 (part_at (Array P n) full_share (set xs ix y) b (o + d))) (sem 𝓛 (part_at S full_share h' b o)))) cut $ split ! $
      use1 𝓛 (‵ ((arr_parts (shares P) n).part full_share xs b (o + d))) (Array-apart 𝓛 P full_share single n xs b (o + d)) $ fsplit ! $ feq_l ! (λ l.
      rewrite ! 0 (λ (F : Fml). ‵ F) (parts-cells P full_share xs b (o + d)) refl $
      use1 𝓛 (‵ (elem (at (o + d) (mem P).size ix) (get_or xs ix dv)) ⊛ raw (wand 𝓤 (sem 𝓛 (elem (at (o + d) (mem P).size ix) y)) (sem 𝓛 (row (set xs ix y))))) (focus 𝓛 (mem P) dv y ix xs b (o + d) (subst (λ (j : ℕ). ix < j) (sym l) lt)) $ split ! $
      rewrite ! 0 (λ (j : ℕ). ‵ (elem j (get_or xs ix dv))) e refl $ rewrite ! 1 (λ (j : ℕ). raw (wand 𝓤 (sem 𝓛 (elem j y)) (sem 𝓛 (row (set xs ix y))))) e refl $
      frame ! $ assume ! (‵ (elem off y)) $
      use2 𝓛 (‵ (row (set xs ix y))) (apply∗ 𝓤 (sem 𝓛 (elem off y)) (sem 𝓛 (row (set xs ix y)))) $
      rewrite ! 0 (λ (F : Fml). ‵ F) (sym (parts-cells P full_share (set xs ix y) b (o + d))) refl $ feq_i ! ℕ (length (set xs ix y)) n (length-set xs ix y ∙ l) $ fjoin ! $
      use1 𝓛 (‵ (part_at (Array P n) full_share (set xs ix y) b (o + d))) (Array-whole 𝓛 P full_share n (set xs ix y) b (o + d)) $
      use2 𝓛 (‵ (part_at S full_share h' b o)) (apply∗ 𝓤 (sem 𝓛 (part_at (Array P n) full_share (set xs ix y) b (o + d))) (sem 𝓛 (part_at S full_share h' b o))) $ done !))

  -- its cell, with its value written out and its relation in hand, and the way back with y in it
  pub item : ix < n → at (o + d) (mem P).size ix ≡ off → Cut 𝓛 full_share S (Array P n) d h h' xs (set xs ix y) (b, o) → (Is P (get_or xs ix dv) (D.mach (get_or xs ix dv) ∷ []) → Is P y (D.mach y ∷ []))
      → ent 𝓤 (sem 𝓛 (part_at S full_share h b o)) (guard 𝓤 (Is P (get_or xs ix dv) (D.mach (get_or xs ix dv) ∷ [])) (sep 𝓤 (sem 𝓛 (cell (get_or xs ix dv))) (wand 𝓤 (sem 𝓛 (cell y)) (sem 𝓛 (part_at S full_share h' b o)))))
  item lt e cut is' = qed 𝓛 (‵ (part_at S full_share h b o) ∷ []) {P = guard 𝓤 (Is P (get_or xs ix dv) (D.mach (get_or xs ix dv) ∷ [])) (sep 𝓤 (sem 𝓛 (cell (get_or xs ix dv))) (wand 𝓤 (sem 𝓛 (cell y)) (sem 𝓛 (part_at S full_share h' b o))))} (
      use1 𝓛 (‵ (elem off (get_or xs ix dv)) ⊛ raw (wand 𝓤 (sem 𝓛 (elem off y)) (sem 𝓛 (part_at S full_share h' b o)))) (part lt e cut) $ split ! $
      use1 𝓛 (some (λ (w : Val). ‵ (fat full_share (lone P.mir) b off w) ⊛ ‵ (P.own_val (get_or xs ix dv) (w ∷ [])))) (part_out 𝓛 P D.one full_share (get_or xs ix dv) b off) $ pick ! (λ w. split ! $ move ! (1 ∷ []) $
      peeks ! P (Is P) (shows 𝓛 P) (get_or xs ix dv) (w ∷ []) (λ is. check ! (subst (λ (ws : List Val). Is P (get_or xs ix dv) ws) (D.tells (get_or xs ix dv) (w ∷ []) is) is) $ move ! (1 ∷ 2 ∷ 0 ∷ []) $
      rewrite ! 0 (λ (cv : Val). ‵ (fat full_share (lone P.mir) b off cv)) (ap only (D.tells (get_or xs ix dv) (w ∷ []) is)) refl $ frame ! $
      assume ! (‵ (cell y)) $ owned ! P (Is P) D.makes y (D.mach y ∷ []) (is' (subst (λ (ws : List Val). Is P (get_or xs ix dv) ws) (D.tells (get_or xs ix dv) (w ∷ []) is) is)) $ move ! (1 ∷ 0 ∷ []) $
      use2 𝓛 (‵ (elem off y)) (part_in 𝓛 P D.one full_share y b off (D.mach y)) $
      use2 𝓛 (‵ (part_at S full_share h' b o)) (apply∗ 𝓤 (sem 𝓛 (elem off y)) (sem 𝓛 (part_at S full_share h' b o))) $ keep ! (0 ∷ []) $ done !)))

-- a part of a part: for an array in a struct that is itself a field, as `s.desk.slots`. `item` takes it as it takes any other `Cut`
module _ {M : Type 1} {𝓤 : Ura M} (𝓛 : Logic 𝓤) (S F G : RattleType) (d d' : ℕ) (h h' : S.Denot) (f f' : F.Denot) (g g' : G.Denot) (b o : ℕ) where
  abbrev inner : ℕ → G.Denot → Fml
  inner j v = part_at G full_share v b j

  pub cut_then : Cut 𝓛 full_share S F d h h' f f' (b, o) → Cut 𝓛 full_share F G d' f f' g g' (b, o + d) → Cut 𝓛 full_share S G (d + d') h h' g g' (b, o)
  cut_then c c' = qed 𝓛 (‵ (part_at S full_share h b o) ∷ []) {P = sep 𝓤 (sem 𝓛 (inner (o + (d + d')) g)) (wand 𝓤 (sem 𝓛 (inner (o + (d + d')) g')) (sem 𝓛 (part_at S full_share h' b o)))} (
      use1 𝓛 (‵ (part_at F full_share f b (o + d)) ⊛ raw (wand 𝓤 (sem 𝓛 (part_at F full_share f' b (o + d))) (sem 𝓛 (part_at S full_share h' b o)))) c $ split ! $
      use1 𝓛 (‵ (inner (o + d + d') g) ⊛ raw (wand 𝓤 (sem 𝓛 (inner (o + d + d') g')) (sem 𝓛 (part_at F full_share f' b (o + d))))) c' $ split ! $
      rewrite ! 0 (λ (j : ℕ). ‵ (inner j g)) (add_assoc o d d') refl $ rewrite ! 1 (λ (j : ℕ). raw (wand 𝓤 (sem 𝓛 (inner j g')) (sem 𝓛 (part_at F full_share f' b (o + d))))) (add_assoc o d d') refl $
      frame ! $ assume ! (‵ (inner (o + (d + d')) g')) $
      use2 𝓛 (‵ (part_at F full_share f' b (o + d))) (apply∗ 𝓤 (sem 𝓛 (inner (o + (d + d')) g')) (sem 𝓛 (part_at F full_share f' b (o + d)))) $
      use2 𝓛 (‵ (part_at S full_share h' b o)) (apply∗ 𝓤 (sem 𝓛 (part_at F full_share f' b (o + d))) (sem 𝓛 (part_at S full_share h' b o))) $ done !)

-- a field that is a struct stands at the tuple of its values: it is reached at the struct's own type
module _ {M : Type 1} {𝓤 : Ura M} (𝓛 : Logic 𝓤) where
  pub cut_record : (R : RattleType) (T : SD.Declared) (d : ℕ) (h h' : R.Denot) (x y : T.D) (a : ℕ × ℕ) → Cut 𝓛 full_share R (Struct (SD.shape T)) d h h' (T.to x) (T.to y) a → Cut 𝓛 full_share R (SD.row T) d h h' x y a
  cut_record R T d h h' x y a c =
      subst (λ (F : Fml). ent 𝓤 (sem 𝓛 (part_at R full_share h a.0 a.1)) (sep 𝓤 (sem 𝓛 F) (wand 𝓤 (sem 𝓛 (part_at (SD.row T) full_share y a.0 (a.1 + d))) (sem 𝓛 (part_at R full_share h' a.0 a.1))))) (sym (Recorded-part (Struct (SD.shape T)) T.D T.to T.to_one full_share x a.0 (a.1 + d)))
      (subst (λ (F : Fml). ent 𝓤 (sem 𝓛 (part_at R full_share h a.0 a.1)) (sep 𝓤 (sem 𝓛 (part_at (Struct (SD.shape T)) full_share (T.to x) a.0 (a.1 + d))) (wand 𝓤 (sem 𝓛 F) (sem 𝓛 (part_at R full_share h' a.0 a.1))))) (sym (Recorded-part (Struct (SD.shape T)) T.D T.to T.to_one full_share y a.0 (a.1 + d))) c)

-- a field that is a number of 64 bits: its cell, and the way back with another in it
module _ {M : Type 1} {𝓤 : Ura M} (𝓛 : Logic 𝓤) (S : RattleType) (d : ℕ) (h h' : S.Denot) (n n' b o : ℕ) where
  abbrev number_cell : ℕ → Fml
  number_cell k = fat full_share (ty_int w64) b (o + d) (vint w64 k)

  abbrev number_part : ℕ → Fml
  number_part k = part_at (UInt w64) full_share k b (o + d)

  pub number : Cut 𝓛 full_share S (UInt w64) d h h' n n' (b, o) → Is (UInt w64) n' (vint w64 n' ∷ [])
      → ent 𝓤 (sem 𝓛 (part_at S full_share h b o)) (sep 𝓤 (sem 𝓛 (number_cell n)) (wand 𝓤 (sem 𝓛 (number_cell n')) (sem 𝓛 (part_at S full_share h' b o))))
  number cut is' = qed 𝓛 (‵ (part_at S full_share h b o) ∷ []) {P = sep 𝓤 (sem 𝓛 (number_cell n)) (wand 𝓤 (sem 𝓛 (number_cell n')) (sem 𝓛 (part_at S full_share h' b o)))} (
      use1 𝓛 (‵ (number_part n) ⊛ raw (wand 𝓤 (sem 𝓛 (number_part n')) (sem 𝓛 (part_at S full_share h' b o)))) cut $ split ! $
      use1 𝓛 (given (Is (UInt w64) n (vint w64 n ∷ [])) (‵ (number_cell n))) (cell_of 𝓛 (UInt w64) (uint_data 𝓛 w64) full_share n b (o + d)) $ learn ! (λ is.
      frame ! $ assume ! (‵ (number_cell n')) $
      use1 𝓛 (‵ (number_part n')) (of_cell 𝓛 (UInt w64) (uint_data 𝓛 w64) full_share n' b (o + d) is') $
      use2 𝓛 (‵ (part_at S full_share h' b o)) (apply∗ 𝓤 (sem 𝓛 (number_part n')) (sem 𝓛 (part_at S full_share h' b o))) $ done !))
