-- A call that passes on what it is lent, walked once: it makes a reference to what stands behind its own, hands it to the callee beside its arguments, and answers what the callee answers.
-- For any types of plain data and any contract: what the callee promises of what stands behind the reference, of the arguments and of the answer, the call promises.
--     passes₁_fn, passes₂_fn     the function's MIR, with 1 or 2 arguments beside the reference.     passes_true_fn     with the literal `true` for an argument
--     passed₀_fn                 with no argument and no answer.     views₁_fn     of a call that only reads, lent as `&`
--     runs_as₁, ..               it does what the callee does with the same reference and the same arguments
--     passes₁, ..                it meets each contract that the callee meets
-- Assumes `Logic`.
use mathlib.Core.Path.{refl, sym, ap, subst}
use Prim.Native.Nat.{ℕ}
use mathlib.Core.List.{[], ◌∷◌, List}
use lib.Dec.{T}
use seplogic.Ra.Ura.{Ura}
use mathlib.Core.Bool.{true}
use mir.Syntax.{Ty, Callee, Fn, ty_unit, ty_ref, named, erased, mut, imm, local, value_local, place, deref, copy, opd_unit, opd_true, rv_opd, addr_of, assign, call, seq, return}
use mir.Val.{Val, vptr, vunit, vbool, WT, has_ty}
use base.Logic.{SProp, ent, sep, wand, ex, guard, emp, id⊢, via, comm∗, mono_l, mono_r, fst∗, emp∗, wand_i, apply∗, ex_i, ex_e, ex∗, guard_i, guard_e}
use contract.Monad.{Fun}
use contract.Lifetimes.{Lfts}
use types.Logic.{Logic, sem}
use types.Kit.{‵, raw, given, later, ◌$◌, ◌∵◌, !, qed, by, move, keep, fsplit, fjoin, use1, learn, check, done, await}
use types.Run.{look, init, forget, stop, hop, from, load, and_then, no_more, true_lit, unit_lit, of_opd, assigns, addr, land, returns, enter, alloc1, alloc0, params1, pass1, pass0, free1, free0}
use prog.Wp.{Calls, Loops, WpFn}
use sound.WpLaws.{FmC}
use denote.RattleType.{RattleType, Denots, Valss, flat, owns}
use denote.Laws.{Is, shows, Spells, Tellss, Ises, Are, valss}
use denote.Memory.{lone, pointee}
use denote.Plain.{Boolean, bool_Makes, Nothing, Nothing-Tells, Nothing-Makes}
use denote.Ref.{MutBor, shr_vals, mut_vals, mut_Tells, shr_Tells}
use denote.Signature.{Slot, Signature, types_at, plain, mut_ref_to, shr_ref_to}
use denote.Triple.Entry.{alive, on_entry}
use denote.Steps.{owned, only, peeks, said}
use denote.Triple.Call.{calls_from}
use denote.Triple.Spec.{Spec, triple_of, Meets}
use Rattle.lending.proofs.Whole.{Data, told_typed}

-- what fits a MIR type
abbrev pub Typed : Ty → Val → Type 0
Typed τ v = T (has_ty τ v) × WT v

-- ---- the literal `true`
abbrev pub passes_true_fn : (behind state inner answer : Ty) (f : Callee) → Fn
passes_true_fn behind state inner answer f = record {
  lifetimes = 1;
  outlives = [];
  ty_params = [];
  givens = 0;
  params = 1;
  locals = local answer value_local ∷ local (ty_ref (named 0) mut behind) value_local ∷ local (ty_ref erased mut inner) value_local ∷ [];
  body = seq (assign (place 2 []) (addr_of (place 1 (deref state ∷ [])))) (seq (call f (copy (place 2 []) ∷ opd_true ∷ []) (place 0 [])) return);
}

-- ---- 0 arguments, and no answer
abbrev pub passed₀_fn : (behind state inner : Ty) (f : Callee) → Fn
passed₀_fn behind state inner f = record {
  lifetimes = 1;
  outlives = [];
  ty_params = [];
  givens = 0;
  params = 1;
  locals = local ty_unit value_local ∷ local (ty_ref (named 0) mut behind) value_local ∷ local ty_unit value_local ∷ local (ty_ref erased mut inner) value_local ∷ [];
  body = seq (assign (place 3 []) (addr_of (place 1 (deref state ∷ [])))) (seq (call f (copy (place 3 []) ∷ []) (place 2 [])) (seq (assign (place 0 []) (rv_opd opd_unit)) return));
}

-- ---- 1 argument
abbrev pub passes₁_fn : (behind state inner answer τ₁ : Ty) (f : Callee) → Fn
passes₁_fn behind state inner answer τ₁ f = record {
  lifetimes = 1;
  outlives = [];
  ty_params = [];
  givens = 0;
  params = 2;
  locals = local answer value_local ∷ local (ty_ref (named 0) mut behind) value_local ∷ local τ₁ value_local ∷ local (ty_ref erased mut inner) value_local ∷ [];
  body = seq (assign (place 3 []) (addr_of (place 1 (deref state ∷ [])))) (seq (call f (copy (place 3 []) ∷ copy (place 2 []) ∷ []) (place 0 [])) return);
}

-- ---- 2 arguments
abbrev pub passes₂_fn : (behind state inner answer τ₁ τ₂ : Ty) (f : Callee) → Fn
passes₂_fn behind state inner answer τ₁ τ₂ f = record {
  lifetimes = 1;
  outlives = [];
  ty_params = [];
  givens = 0;
  params = 3;
  locals = local answer value_local ∷ local (ty_ref (named 0) mut behind) value_local ∷ local τ₁ value_local ∷ local τ₂ value_local ∷ local (ty_ref erased mut inner) value_local ∷ [];
  body = seq (assign (place 4 []) (addr_of (place 1 (deref state ∷ [])))) (seq (call f (copy (place 4 []) ∷ copy (place 2 []) ∷ copy (place 3 []) ∷ []) (place 0 [])) return);
}

-- ---- a call that only reads, with 1 argument: it hands its own reference on
abbrev pub views₁_fn : (behind answer τ₁ : Ty) (f : Callee) → Fn
views₁_fn behind answer τ₁ f = record {
  lifetimes = 1;
  outlives = [];
  ty_params = [];
  givens = 0;
  params = 2;
  locals = local answer value_local ∷ local (ty_ref (named 0) imm behind) value_local ∷ local τ₁ value_local ∷ [];
  body = seq (call f (copy (place 1 []) ∷ copy (place 2 []) ∷ []) (place 0 [])) return;
}

-- ---- what the callee does, the call does, where the answer fits its type
module _ {M : Type 1} {𝓤 : Ura M} (𝓛 : Logic 𝓤) (K : Val → SProp 𝓤) where
  -- what is asked of the callee's answer v
  abbrev pub fits : Ty → Val → SProp 𝓤
  fits τ v = 𝓛.H.⇛ (guard 𝓤 (Typed τ v) (K v))

module _ {M : Type 1} {𝓤 : Ura M} (𝓛 : Logic 𝓤) (behind state inner answer τ₁ τ₂ : Ty) (K : Val → SProp 𝓤) where
  open 𝓛 use {H}

  module _ (C : Calls 𝓤 H) (Λ : Loops 𝓤 H) (fm : FmC 𝓤 H 𝓛.laws C) (f : Callee) (b o : ℕ) where
    pub runs_as_true : ent 𝓤 (C f (vptr b o ∷ vbool true ∷ []) (fits 𝓛 K answer)) (WpFn 𝓤 H C Λ (passes_true_fn behind state inner answer f) (vptr b o ∷ []) K)
    runs_as_true =
        qed 𝓛 (raw (C f (vptr b o ∷ vbool true ∷ []) (fits 𝓛 K answer)) ∷ []) ∵
        enter ! C Λ (passes_true_fn behind state inner answer f) (vptr b o ∷ []) K $
        alloc1 ! (λ l₀. alloc1 ! (λ l₁. alloc1 ! (λ l₂. alloc0 ! $ params1 ! $ pass1 ! (init ! 2 refl (tt, tt)) $ pass0 ! $
        -- [the locals, the last first; the callee]
        assigns ! (addr ! (from ! (hop ! (look ! 2 refl) (stop !)))) (from ! (stop !)) (init ! 0 refl (tt, tt)) $
        move ! (6 ∷ []) $
        calls_from ! fm (raw (C f (vptr b o ∷ vbool true ∷ []) (fits 𝓛 K answer))) (vptr b o ∷ vbool true ∷ []) (fits 𝓛 K answer) (id⊢ 𝓤 _) (and_then ! (load ! (from ! (stop !)) (look ! 1 refl)) (and_then ! (true_lit !) (no_more !))) (λ v.
        use1 𝓛 (later (given (Typed answer v) (raw (K v)))) (id⊢ 𝓤 _) $ await ! tt $ learn ! (λ is.
        land ! (from ! (stop !)) (init ! 5 refl is) $
        returns ! (look ! 5 refl) $ forget ! 5 refl $ forget ! 3 refl $ forget ! 1 refl $
        move ! (5 ∷ 6 ∷ []) $ free1 ! $ move ! (3 ∷ 4 ∷ []) $ free1 ! $ move ! (1 ∷ 2 ∷ []) $ free1 ! $ free0 ! $
        keep ! (0 ∷ []) $ by ! (id⊢ 𝓤 (K v)))))))

    -- the answer is the callee's, where that is nothing
    pub runs_as_nothing : ent 𝓤 (C f (vptr b o ∷ []) (λ v. H.⇛ (guard 𝓤 (Typed ty_unit v) (K vunit)))) (WpFn 𝓤 H C Λ (passed₀_fn behind state inner f) (vptr b o ∷ []) K)
    runs_as_nothing =
        qed 𝓛 (raw (C f (vptr b o ∷ []) (λ v. H.⇛ (guard 𝓤 (Typed ty_unit v) (K vunit)))) ∷ []) ∵
        enter ! C Λ (passed₀_fn behind state inner f) (vptr b o ∷ []) K $
        alloc1 ! (λ l₀. alloc1 ! (λ l₁. alloc1 ! (λ l₂. alloc1 ! (λ l₃. alloc0 ! $ params1 ! $ pass1 ! (init ! 4 refl (tt, tt)) $ pass0 ! $
        assigns ! (addr ! (from ! (hop ! (look ! 4 refl) (stop !)))) (from ! (stop !)) (init ! 0 refl (tt, tt)) $
        move ! (8 ∷ []) $
        calls_from ! fm (raw (C f (vptr b o ∷ []) (λ v. H.⇛ (guard 𝓤 (Typed ty_unit v) (K vunit))))) (vptr b o ∷ []) (λ v. H.⇛ (guard 𝓤 (Typed ty_unit v) (K vunit))) (id⊢ 𝓤 _) (and_then ! (load ! (from ! (stop !)) (look ! 1 refl)) (no_more !)) (λ v.
        use1 𝓛 (later (given (Typed ty_unit v) (raw (K vunit)))) (id⊢ 𝓤 _) $ await ! tt $ learn ! (λ is.
        land ! (from ! (stop !)) (init ! 3 refl is) $
        assigns ! (of_opd ! (unit_lit !)) (from ! (stop !)) (init ! 7 refl (tt, tt)) $
        returns ! (look ! 7 refl) $ forget ! 7 refl $ forget ! 5 refl $ forget ! 3 refl $ forget ! 1 refl $
        move ! (7 ∷ 8 ∷ []) $ free1 ! $ move ! (5 ∷ 6 ∷ []) $ free1 ! $ move ! (3 ∷ 4 ∷ []) $ free1 ! $ move ! (1 ∷ 2 ∷ []) $ free1 ! $ free0 ! $
        keep ! (0 ∷ []) $ by ! (id⊢ 𝓤 (K vunit))))))))

    module _ (v₁ : Val) (t₁ : Typed τ₁ v₁) where
      pub runs_as₁ : ent 𝓤 (C f (vptr b o ∷ v₁ ∷ []) (fits 𝓛 K answer)) (WpFn 𝓤 H C Λ (passes₁_fn behind state inner answer τ₁ f) (vptr b o ∷ v₁ ∷ []) K)
      runs_as₁ =
          qed 𝓛 (raw (C f (vptr b o ∷ v₁ ∷ []) (fits 𝓛 K answer)) ∷ []) ∵
          enter ! C Λ (passes₁_fn behind state inner answer τ₁ f) (vptr b o ∷ v₁ ∷ []) K $
          alloc1 ! (λ l₀. alloc1 ! (λ l₁. alloc1 ! (λ l₂. alloc1 ! (λ l₃. alloc0 ! $ params1 ! $ pass1 ! (init ! 4 refl (tt, tt)) $ pass1 ! (init ! 2 refl t₁) $ pass0 ! $
          assigns ! (addr ! (from ! (hop ! (look ! 4 refl) (stop !)))) (from ! (stop !)) (init ! 0 refl (tt, tt)) $
          move ! (8 ∷ []) $
          calls_from ! fm (raw (C f (vptr b o ∷ v₁ ∷ []) (fits 𝓛 K answer))) (vptr b o ∷ v₁ ∷ []) (fits 𝓛 K answer) (id⊢ 𝓤 _) (and_then ! (load ! (from ! (stop !)) (look ! 1 refl)) (and_then ! (load ! (from ! (stop !)) (look ! 3 refl)) (no_more !))) (λ v.
          use1 𝓛 (later (given (Typed answer v) (raw (K v)))) (id⊢ 𝓤 _) $ await ! tt $ learn ! (λ is.
          land ! (from ! (stop !)) (init ! 7 refl is) $
          returns ! (look ! 7 refl) $ forget ! 7 refl $ forget ! 5 refl $ forget ! 3 refl $ forget ! 1 refl $
          move ! (7 ∷ 8 ∷ []) $ free1 ! $ move ! (5 ∷ 6 ∷ []) $ free1 ! $ move ! (3 ∷ 4 ∷ []) $ free1 ! $ move ! (1 ∷ 2 ∷ []) $ free1 ! $ free0 ! $
          keep ! (0 ∷ []) $ by ! (id⊢ 𝓤 (K v))))))))

      pub runs_as_view₁ : ent 𝓤 (C f (vptr b o ∷ v₁ ∷ []) (fits 𝓛 K answer)) (WpFn 𝓤 H C Λ (views₁_fn behind answer τ₁ f) (vptr b o ∷ v₁ ∷ []) K)
      runs_as_view₁ =
          qed 𝓛 (raw (C f (vptr b o ∷ v₁ ∷ []) (fits 𝓛 K answer)) ∷ []) ∵
          enter ! C Λ (views₁_fn behind answer τ₁ f) (vptr b o ∷ v₁ ∷ []) K $
          alloc1 ! (λ l₀. alloc1 ! (λ l₁. alloc1 ! (λ l₂. alloc0 ! $ params1 ! $ pass1 ! (init ! 2 refl (tt, tt)) $ pass1 ! (init ! 0 refl t₁) $ pass0 ! $
          move ! (6 ∷ []) $
          calls_from ! fm (raw (C f (vptr b o ∷ v₁ ∷ []) (fits 𝓛 K answer))) (vptr b o ∷ v₁ ∷ []) (fits 𝓛 K answer) (id⊢ 𝓤 _) (and_then ! (load ! (from ! (stop !)) (look ! 3 refl)) (and_then ! (load ! (from ! (stop !)) (look ! 1 refl)) (no_more !))) (λ v.
          use1 𝓛 (later (given (Typed answer v) (raw (K v)))) (id⊢ 𝓤 _) $ await ! tt $ learn ! (λ is.
          land ! (from ! (stop !)) (init ! 5 refl is) $
          returns ! (look ! 5 refl) $ forget ! 5 refl $ forget ! 3 refl $ forget ! 1 refl $
          move ! (5 ∷ 6 ∷ []) $ free1 ! $ move ! (3 ∷ 4 ∷ []) $ free1 ! $ move ! (1 ∷ 2 ∷ []) $ free1 ! $ free0 ! $
          keep ! (0 ∷ []) $ by ! (id⊢ 𝓤 (K v)))))))

      module _ (v₂ : Val) (t₂ : Typed τ₂ v₂) where
        pub runs_as₂ : ent 𝓤 (C f (vptr b o ∷ v₁ ∷ v₂ ∷ []) (fits 𝓛 K answer)) (WpFn 𝓤 H C Λ (passes₂_fn behind state inner answer τ₁ τ₂ f) (vptr b o ∷ v₁ ∷ v₂ ∷ []) K)
        runs_as₂ =
            qed 𝓛 (raw (C f (vptr b o ∷ v₁ ∷ v₂ ∷ []) (fits 𝓛 K answer)) ∷ []) ∵
            enter ! C Λ (passes₂_fn behind state inner answer τ₁ τ₂ f) (vptr b o ∷ v₁ ∷ v₂ ∷ []) K $
            alloc1 ! (λ l₀. alloc1 ! (λ l₁. alloc1 ! (λ l₂. alloc1 ! (λ l₃. alloc1 ! (λ l₄. alloc0 ! $ params1 ! $ pass1 ! (init ! 6 refl (tt, tt)) $ pass1 ! (init ! 4 refl t₁) $ pass1 ! (init ! 2 refl t₂) $ pass0 ! $
            assigns ! (addr ! (from ! (hop ! (look ! 6 refl) (stop !)))) (from ! (stop !)) (init ! 0 refl (tt, tt)) $
            move ! (10 ∷ []) $
            calls_from ! fm (raw (C f (vptr b o ∷ v₁ ∷ v₂ ∷ []) (fits 𝓛 K answer))) (vptr b o ∷ v₁ ∷ v₂ ∷ []) (fits 𝓛 K answer) (id⊢ 𝓤 _) (and_then ! (load ! (from ! (stop !)) (look ! 1 refl)) (and_then ! (load ! (from ! (stop !)) (look ! 5 refl)) (and_then ! (load ! (from ! (stop !)) (look ! 3 refl)) (no_more !)))) (λ v.
            use1 𝓛 (later (given (Typed answer v) (raw (K v)))) (id⊢ 𝓤 _) $ await ! tt $ learn ! (λ is.
            land ! (from ! (stop !)) (init ! 9 refl is) $
            returns ! (look ! 9 refl) $ forget ! 9 refl $ forget ! 7 refl $ forget ! 5 refl $ forget ! 3 refl $ forget ! 1 refl $
            move ! (9 ∷ 10 ∷ []) $ free1 ! $ move ! (7 ∷ 8 ∷ []) $ free1 ! $ move ! (5 ∷ 6 ∷ []) $ free1 ! $ move ! (3 ∷ 4 ∷ []) $ free1 ! $ move ! (1 ∷ 2 ∷ []) $ free1 ! $ free0 ! $
            keep ! (0 ∷ []) $ by ! (id⊢ 𝓤 (K v)))))))))

-- ---- an answer that is owned fits its type
module _ {M : Type 1} (𝓤 : Ura M) (φ : Type 0) (P Q : SProp 𝓤) (h : ent 𝓤 P (guard 𝓤 φ P)) where
  before : ent 𝓤 (sep 𝓤 P Q) (guard 𝓤 φ (sep 𝓤 P Q))
  before = via 𝓤 (sep 𝓤 (guard 𝓤 φ P) Q) (mono_l 𝓤 Q h) (ex∗ 𝓤 (λ (_ : φ). P) Q (λ e. guard_i 𝓤 φ (sep 𝓤 P Q) e))

  behind_it : ent 𝓤 (sep 𝓤 Q P) (guard 𝓤 φ (sep 𝓤 Q P))
  behind_it = via 𝓤 (sep 𝓤 P Q) (comm∗ 𝓤 Q P) (via 𝓤 (guard 𝓤 φ (sep 𝓤 P Q)) before (guard_e 𝓤 φ (sep 𝓤 P Q) (λ e. via 𝓤 (sep 𝓤 Q P) (comm∗ 𝓤 P Q) (guard_i 𝓤 φ (sep 𝓤 Q P) e))))

module _ {M : Type 1} {𝓤 : Ura M} (𝓛 : Logic 𝓤) (P : RattleType) (E : Data 𝓛 P) (A : SProp 𝓤) (B : P.Denot → SProp 𝓤) where
  open 𝓛 use {H}

  -- what a call gives back beside its answer: A, and what is promised of it
  abbrev back : Val → P.Denot → SProp 𝓤
  back v r = sep 𝓤 (sep 𝓤 A (sem 𝓛 (P.own_val r (v ∷ [])))) (B r)

  abbrev gives : Val → SProp 𝓤
  gives v = H.⇛ (ex 𝓤 (back v))

  abbrev Known : Val → P.Denot → Type 0
  Known v r = Is P r (v ∷ [])

  owned_known : (v : Val) (r : P.Denot) → ent 𝓤 (sem 𝓛 (P.own_val r (v ∷ []))) (guard 𝓤 (Known v r) (sem 𝓛 (P.own_val r (v ∷ []))))
  owned_known v r = qed 𝓛 (‵ (P.own_val r (v ∷ [])) ∷ []) {P = guard 𝓤 (Known v r) (sem 𝓛 (P.own_val r (v ∷ [])))} (peeks ! P (Is P) (shows 𝓛 P) r (v ∷ []) (λ is. check ! is $ done !))

  back_known : (v : Val) (r : P.Denot) → ent 𝓤 (back v r) (guard 𝓤 (Known v r) (back v r))
  back_known v r = before 𝓤 (Known v r) (sep 𝓤 A (sem 𝓛 (P.own_val r (v ∷ [])))) (B r) (behind_it 𝓤 (Known v r) (sem 𝓛 (P.own_val r (v ∷ []))) A (owned_known v r))

  gives_back : (v : Val) (r : P.Denot) → ent 𝓤 (back v r) (gives v)
  gives_back v r = via 𝓤 (ex 𝓤 (back v)) (ex_i 𝓤 (back v) r) (𝓛.laws.⇛_intro (ex 𝓤 (back v)))

  gives_fits : (v : Val) → ent 𝓤 (gives v) (fits 𝓛 gives (lone P.mir) v)
  gives_fits v = 𝓛.laws.⇛_mono (ex 𝓤 (back v)) (guard 𝓤 (Typed (lone P.mir) v) (gives v)) (ex_e 𝓤 (back v) (λ r.
      via 𝓤 (guard 𝓤 (Known v r) (back v r)) (back_known v r)
      (guard_e 𝓤 (Known v r) (back v r) (λ is. via 𝓤 (gives v) (gives_back v r) (guard_i 𝓤 (Typed (lone P.mir) v) (gives v) (told_typed 𝓛 P E r v is))))))

-- ---- at entry, with the machine values written out and their relations in hand
module _ {M : Type 1} {𝓤 : Ura M} (𝓛 : Logic 𝓤) (Σ : Signature) (spec : Spec 𝓤 Σ) where
  entered : (run : Fun 𝓤) (y : (triple_of 𝓛 Σ spec).Ghost) (sp : Spells (types_at Σ.params y.0.0)) → Tellss (types_at Σ.params y.0.0) (Ises (types_at Σ.params y.0.0)) sp
      → (Are (types_at Σ.params y.0.0) (Ises (types_at Σ.params y.0.0)) y.0.3 (valss (types_at Σ.params y.0.0) sp y.0.3)
      → ent 𝓤 (sep 𝓤 (on_entry 𝓛 Σ y.0.0 y.0.1 y.0.3 (valss (types_at Σ.params y.0.0) sp y.0.3)) ((spec y.0.0 y.0.3).requires y.1))
      (run (flat (types_at Σ.params y.0.0) (valss (types_at Σ.params y.0.0) sp y.0.3)) ((triple_of 𝓛 Σ spec).post y)))
      → ent 𝓤 ((triple_of 𝓛 Σ spec).pre y) (run ((triple_of 𝓛 Σ spec).args y) ((triple_of 𝓛 Σ spec).post y))
  entered run y sp tl k =
      let R : SProp 𝓤 = (spec y.0.0 y.0.3).requires y.1 in
      let Q : Valss (types_at Σ.params y.0.0) → SProp 𝓤 = λ us. run (flat (types_at Σ.params y.0.0) us) ((triple_of 𝓛 Σ spec).post y) in
      via 𝓤 (sep 𝓤 R (wand 𝓤 R (Q y.0.4)))
      (via 𝓤 (sep 𝓤 (wand 𝓤 R (Q y.0.4)) R)
      (mono_l 𝓤 R (said 𝓛 Σ y.0.0 y.0.1 sp tl y.0.3 (λ us. wand 𝓤 R (Q us)) y.0.4 (λ are. wand_i 𝓤 _ R _ (k are))))
      (comm∗ 𝓤 (wand 𝓤 R (Q y.0.4)) R))
      (apply∗ 𝓤 R (Q y.0.4))

-- ---- the shapes, with a reference to a value of the type S that is lent, and an answer of the type P
module _ (S P X₁ X₂ : RattleType) where
  abbrev pub lent₀ : Signature
  lent₀ = record { lifetimes = 1; outlives = []; params = mut_ref_to (0 ∷ []) tt (plain (λ κs. S)) ∷ []; result = plain (λ κs. P) }

  abbrev pub lent₁ : Signature
  lent₁ = record { lifetimes = 1; outlives = []; params = mut_ref_to (0 ∷ []) tt (plain (λ κs. S)) ∷ plain (λ κs. X₁) ∷ []; result = plain (λ κs. P) }

  abbrev pub lent₂ : Signature
  lent₂ = record { lifetimes = 1; outlives = []; params = mut_ref_to (0 ∷ []) tt (plain (λ κs. S)) ∷ plain (λ κs. X₁) ∷ plain (λ κs. X₂) ∷ []; result = plain (λ κs. P) }

  abbrev pub seen₁ : Signature
  seen₁ = record { lifetimes = 1; outlives = []; params = shr_ref_to (0 ∷ []) tt (plain (λ κs. S)) ∷ plain (λ κs. X₁) ∷ []; result = plain (λ κs. P) }

module _ {M : Type 1} {𝓤 : Ura M} (𝓛 : Logic 𝓤) (S P X₁ X₂ : RattleType) (E : Data 𝓛 P) (D₁ : Data 𝓛 X₁) (D₂ : Data 𝓛 X₂) (inner : Ty) where
  open 𝓛 use {H}

  module _ (C : Calls 𝓤 H) (Λ : Loops 𝓤 H) (fm : FmC 𝓤 H 𝓛.laws C) (f : Callee) where
    weaker : (vs : List Val) (K K' : Val → SProp 𝓤) → ((v : Val) → ent 𝓤 (K v) (K' v)) → ent 𝓤 (C f vs K) (C f vs K')
    weaker vs K K' h = via 𝓤 (sep 𝓤 (C f vs K) (emp 𝓤)) (via 𝓤 (sep 𝓤 (emp 𝓤) (C f vs K)) (emp∗ 𝓤 (C f vs K)) (comm∗ 𝓤 (emp 𝓤) (C f vs K)))
        (fm f vs K K' (emp 𝓤) (λ v. via 𝓤 (K v) (fst∗ 𝓤 (K v) (emp 𝓤)) (h v)))

    -- the callee's answer, as the call's contract speaks of it, fits its type
    answered : (vs : List Val) (A : SProp 𝓤) (B : P.Denot → SProp 𝓤) → ent 𝓤 (C f vs (gives 𝓛 P E A B)) (C f vs (fits 𝓛 (gives 𝓛 P E A B) (lone P.mir)))
    answered vs A B = weaker vs (gives 𝓛 P E A B) (fits 𝓛 (gives 𝓛 P E A B) (lone P.mir)) (gives_fits 𝓛 P E A B)

    -- a function that does what the callee does, at the machine values of its arguments, meets what the callee meets
    module _ (params : List (Slot 1)) (fn : Fn) where
      abbrev taking : Signature
      taking = record { lifetimes = 1; outlives = []; params = params; result = plain (λ κs. P) }

      met : (spec : Spec 𝓤 taking) (sp : (κs : Lfts 1) → Spells (types_at params κs)) → ((κs : Lfts 1) → Tellss (types_at params κs) (Ises (types_at params κs)) (sp κs))
          → ((κs : Lfts 1) (a : Denots (types_at params κs)) → Are (types_at params κs) (Ises (types_at params κs)) a (valss (types_at params κs) (sp κs) a) → (K : Val → SProp 𝓤)
          → ent 𝓤 (C f (flat (types_at params κs) (valss (types_at params κs) (sp κs) a)) (fits 𝓛 K (lone P.mir))) (WpFn 𝓤 H C Λ fn (flat (types_at params κs) (valss (types_at params κs) (sp κs) a)) K))
          → Meets 𝓛 taking (C f) spec → Meets 𝓛 taking (WpFn 𝓤 H C Λ fn) spec
      met spec sp tl runs known y =
          let A : SProp 𝓤 = alive 𝓛 taking y.0.0 y.0.1 in
          let B : P.Denot → SProp 𝓤 = λ r. (spec y.0.0 y.0.3).ensures y.1 r in
          let us : Valss (types_at params y.0.0) = valss (types_at params y.0.0) (sp y.0.0) y.0.3 in
          let vs : List Val = flat (types_at params y.0.0) us in
          entered 𝓛 taking spec (WpFn 𝓤 H C Λ fn) y (sp y.0.0) (tl y.0.0) (λ are.
          via 𝓤 (C f vs (gives 𝓛 P E A B)) (known ((y.0.0, y.0.1, y.0.2, y.0.3, us), y.1))
          (via 𝓤 (C f vs (fits 𝓛 (gives 𝓛 P E A B) (lone P.mir))) (answered vs A B) (runs y.0.0 y.0.3 are (gives 𝓛 P E A B))))

    pub passes₁ : (spec : Spec 𝓤 (lent₁ S P X₁ X₂)) → Meets 𝓛 (lent₁ S P X₁ X₂) (C f) spec
        → Meets 𝓛 (lent₁ S P X₁ X₂) (WpFn 𝓤 H C Λ (passes₁_fn (pointee S.written) (lone S.mir) inner (lone P.mir) (lone X₁.mir) f)) spec
    passes₁ spec = met (lent₁ S P X₁ X₂).params (passes₁_fn (pointee S.written) (lone S.mir) inner (lone P.mir) (lone X₁.mir) f) spec
        (λ κs. (mut_vals, ((λ x. D₁.mach x ∷ []), tt))) (λ κs. (mut_Tells (named 0) κs.0 S, (D₁.tells, tt)))
        (λ κs a are K. runs_as₁ 𝓛 (pointee S.written) (lone S.mir) inner (lone P.mir) (lone X₁.mir) (lone P.mir) K C Λ fm f a.0.ref_ptr.0 a.0.ref_ptr.1 (D₁.mach a.1.0) (D₁.typed a.1.0 are.1.0))

    pub passes₂ : (spec : Spec 𝓤 (lent₂ S P X₁ X₂)) → Meets 𝓛 (lent₂ S P X₁ X₂) (C f) spec
        → Meets 𝓛 (lent₂ S P X₁ X₂) (WpFn 𝓤 H C Λ (passes₂_fn (pointee S.written) (lone S.mir) inner (lone P.mir) (lone X₁.mir) (lone X₂.mir) f)) spec
    passes₂ spec = met (lent₂ S P X₁ X₂).params (passes₂_fn (pointee S.written) (lone S.mir) inner (lone P.mir) (lone X₁.mir) (lone X₂.mir) f) spec
        (λ κs. (mut_vals, ((λ x. D₁.mach x ∷ []), ((λ x. D₂.mach x ∷ []), tt)))) (λ κs. (mut_Tells (named 0) κs.0 S, (D₁.tells, (D₂.tells, tt))))
        (λ κs a are K. runs_as₂ 𝓛 (pointee S.written) (lone S.mir) inner (lone P.mir) (lone X₁.mir) (lone X₂.mir) K C Λ fm f a.0.ref_ptr.0 a.0.ref_ptr.1 (D₁.mach a.1.0) (D₁.typed a.1.0 are.1.0) (D₂.mach a.1.1.0) (D₂.typed a.1.1.0 are.1.1.0))

    pub views₁ : (spec : Spec 𝓤 (seen₁ S P X₁ X₂)) → Meets 𝓛 (seen₁ S P X₁ X₂) (C f) spec
        → Meets 𝓛 (seen₁ S P X₁ X₂) (WpFn 𝓤 H C Λ (views₁_fn (pointee S.written) (lone P.mir) (lone X₁.mir) f)) spec
    views₁ spec = met (seen₁ S P X₁ X₂).params (views₁_fn (pointee S.written) (lone P.mir) (lone X₁.mir) f) spec
        (λ κs. (shr_vals, ((λ x. D₁.mach x ∷ []), tt))) (λ κs. (shr_Tells (named 0) κs.0 S, (D₁.tells, tt)))
        (λ κs a are K. runs_as_view₁ 𝓛 (pointee S.written) (lone S.mir) inner (lone P.mir) (lone X₁.mir) (lone P.mir) K C Λ fm f a.0.ref_ptr.0 a.0.ref_ptr.1 (D₁.mach a.1.0) (D₁.typed a.1.0 are.1.0))

    -- with the literal `true`: what the callee's contract says of it
    abbrev pub of_true : Spec 𝓤 (lent₁ S P Boolean X₂) → Spec 𝓤 (lent₀ S P X₁ X₂)
    of_true spec κs a = record {
      ghost = (spec κs (a.0, (true, tt))).ghost;
      requires = (spec κs (a.0, (true, tt))).requires;
      ensures = (spec κs (a.0, (true, tt))).ensures;
    }

    with_true : (κs : Lfts 1) (a : MutBor S.Denot) (vs : List Val)
        → ent 𝓤 (sem 𝓛 (owns (types_at (lent₀ S P X₁ X₂).params κs) (a, tt) (vs, tt))) (sem 𝓛 (owns (types_at (lent₁ S P Boolean X₂).params κs) (a, (true, tt)) (vs, (vbool true ∷ [], tt))))
    with_true κs a vs =
        qed 𝓛 (‵ (owns (types_at (lent₀ S P X₁ X₂).params κs) (a, tt) (vs, tt)) ∷ []) {P = sem 𝓛 (owns (types_at (lent₁ S P Boolean X₂).params κs) (a, (true, tt)) (vs, (vbool true ∷ [], tt)))}
        (fsplit ! $ owned ! Boolean (Is Boolean) (bool_Makes 𝓛) true (vbool true ∷ []) refl $ move ! (0 ∷ 2 ∷ []) $ fjoin ! $ move ! (1 ∷ 0 ∷ []) $ fjoin ! $ done !)

    module _ (spec : Spec 𝓤 (lent₁ S P Boolean X₂)) where
      pub passes_true : Meets 𝓛 (lent₁ S P Boolean X₂) (C f) spec → Meets 𝓛 (lent₀ S P X₁ X₂) (WpFn 𝓤 H C Λ (passes_true_fn (pointee S.written) (lone S.mir) inner (lone P.mir) f)) (of_true spec)
      passes_true known y =
          let A : SProp 𝓤 = alive 𝓛 (lent₀ S P X₁ X₂) y.0.0 y.0.1 in
          let R : SProp 𝓤 = (of_true spec y.0.0 y.0.3).requires y.1 in
          let B : P.Denot → SProp 𝓤 = λ r. (of_true spec y.0.0 y.0.3).ensures y.1 r in
          let b : ℕ = y.0.3.0.ref_ptr.0 in
          let o : ℕ = y.0.3.0.ref_ptr.1 in
          entered 𝓛 (lent₀ S P X₁ X₂) (of_true spec) (WpFn 𝓤 H C Λ (passes_true_fn (pointee S.written) (lone S.mir) inner (lone P.mir) f)) y (mut_vals, tt) (mut_Tells (named 0) y.0.0.0 S, tt) (λ are.
          via 𝓤 (sep 𝓤 (on_entry 𝓛 (lent₁ S P Boolean X₂) y.0.0 y.0.1 (y.0.3.0, (true, tt)) (vptr b o ∷ [], (vbool true ∷ [], tt))) R) (mono_l 𝓤 R (mono_r 𝓤 A (with_true y.0.0 y.0.3.0 (vptr b o ∷ []))))
          (via 𝓤 (C f (vptr b o ∷ vbool true ∷ []) (gives 𝓛 P E A B)) (known ((y.0.0, y.0.1, y.0.2, (y.0.3.0, (true, tt)), (vptr b o ∷ [], (vbool true ∷ [], tt))), y.1))
          (via 𝓤 (C f (vptr b o ∷ vbool true ∷ []) (fits 𝓛 (gives 𝓛 P E A B) (lone P.mir))) (answered (vptr b o ∷ vbool true ∷ []) A B)
          (runs_as_true 𝓛 (pointee S.written) (lone S.mir) inner (lone P.mir) (lone P.mir) (lone P.mir) (gives 𝓛 P E A B) C Λ fm f b o))))

    -- `()`, as plain data
    abbrev nothing_data : Data 𝓛 Nothing
    nothing_data = record { mach = λ x. vunit; one = refl; tells = Nothing-Tells; makes = Nothing-Makes 𝓛; typed = λ x is. (tt, tt); last = λ x. tt; silent = λ x f. refl }

    module _ (A : SProp 𝓤) (B : Unit {0} → SProp 𝓤) where
      nothing_fits : (v : Val) → ent 𝓤 (gives 𝓛 Nothing nothing_data A B v) (H.⇛ (guard 𝓤 (Typed ty_unit v) (gives 𝓛 Nothing nothing_data A B vunit)))
      nothing_fits v = 𝓛.laws.⇛_mono (ex 𝓤 (back 𝓛 Nothing nothing_data A B v)) (guard 𝓤 (Typed ty_unit v) (gives 𝓛 Nothing nothing_data A B vunit)) (ex_e 𝓤 (back 𝓛 Nothing nothing_data A B v) (λ r.
          via 𝓤 (guard 𝓤 (Is Nothing r (v ∷ [])) (back 𝓛 Nothing nothing_data A B v r)) (back_known 𝓛 Nothing nothing_data A B v r)
          (guard_e 𝓤 (Is Nothing r (v ∷ [])) (back 𝓛 Nothing nothing_data A B v r) (λ is.
          subst (λ (w : Val). ent 𝓤 (back 𝓛 Nothing nothing_data A B w r) (guard 𝓤 (Typed ty_unit w) (gives 𝓛 Nothing nothing_data A B vunit))) (sym (ap only (Nothing-Tells r (v ∷ []) is)))
          (via 𝓤 (gives 𝓛 Nothing nothing_data A B vunit) (gives_back 𝓛 Nothing nothing_data A B vunit r) (guard_i 𝓤 (Typed ty_unit vunit) (gives 𝓛 Nothing nothing_data A B vunit) (tt, tt)))))))

    module _ (spec : Spec 𝓤 (lent₀ S Nothing X₁ X₂)) where
      pub passed₀ : Meets 𝓛 (lent₀ S Nothing X₁ X₂) (C f) spec → Meets 𝓛 (lent₀ S Nothing X₁ X₂) (WpFn 𝓤 H C Λ (passed₀_fn (pointee S.written) (lone S.mir) inner f)) spec
      passed₀ known y =
          let A : SProp 𝓤 = alive 𝓛 (lent₀ S Nothing X₁ X₂) y.0.0 y.0.1 in
          let B : Unit {0} → SProp 𝓤 = λ r. (spec y.0.0 y.0.3).ensures y.1 r in
          let b : ℕ = y.0.3.0.ref_ptr.0 in
          let o : ℕ = y.0.3.0.ref_ptr.1 in
          let K : Val → SProp 𝓤 = gives 𝓛 Nothing nothing_data A B in
          entered 𝓛 (lent₀ S Nothing X₁ X₂) spec (WpFn 𝓤 H C Λ (passed₀_fn (pointee S.written) (lone S.mir) inner f)) y (mut_vals, tt) (mut_Tells (named 0) y.0.0.0 S, tt) (λ are.
          via 𝓤 (C f (vptr b o ∷ []) K) (known ((y.0.0, y.0.1, y.0.2, y.0.3, (vptr b o ∷ [], tt)), y.1))
          (via 𝓤 (C f (vptr b o ∷ []) (λ v. H.⇛ (guard 𝓤 (Typed ty_unit v) (K vunit)))) (weaker (vptr b o ∷ []) K (λ v. H.⇛ (guard 𝓤 (Typed ty_unit v) (K vunit))) (nothing_fits A B))
          (runs_as_nothing 𝓛 (pointee S.written) (lone S.mir) inner ty_unit ty_unit ty_unit K C Λ fm f b o)))
