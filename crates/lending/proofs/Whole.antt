-- A call on a lent state, walked once: what stands behind the reference is copied out and passed by value, the state that comes back is stored over it, and the answer is copied.
-- For any types of plain data and any contract: the lent call promises of the state at entry and at exit what the by-value call promises of the state that it takes and the one that it gives.
--     Data, struct_data, enum_data, uint_data, bool_data     what is asked of a type, and what has it
--     Pair               what is asked of the by-value call's result: a struct of the answer and the state
--     answersᵢ_fn        the function's MIR, with i arguments beside the state.        doneᵢ_fn     with no answer
--     answersᵢ, doneᵢ    it meets its contract, where the by-value call meets its own
--     reads₁             the same of a call that only reads the state, lent as `&`
-- Assumes `Logic`.
use mathlib.Core.Path.{◌≡◌, refl, sym, ap, subst}
use Prim.Native.Nat.{ℕ}
use mathlib.Core.List.{[], ◌∷◌, List}
use lib.Dec.{T}
use seplogic.Ra.Ura.{Ura}
use base.Fraction.{full_share}
use mir.Syntax.{Ty, Sym, Callee, Fn, Width, ty_unit, ty_ref, ty_struct, tcons, tnil, named, mut, imm, local, value_local, place, deref, field, copy, opd_unit, rv_opd, assign, call, seq, return}
use mir.Val.{Val, vint, vbool, vptr, vunit, vstruct, vcons, vnil, WT, has_ty}
use base.Logic.{SProp, ent, sep, guard, id⊢, snd∗, ex_e}
use base.Fml.{GName, Lft, Share, ftrue, flft, fobs, fbor, fat}
use prog.Wp.{Calls, Loops, WpFn, Tables}
use types.Logic.{Logic, sem}
use contract.Monad.{fact}
use types.Kit.{‵, raw, given, ◌⊛◌, some, later, ◌$◌, ◌∵◌, !, qed, by, move, keep, drop, use1, use2, split, join, pick, learn, check, rewrite, fsplit, fsplit3, fjoin, fjoin3, feq_i, suffices, frame, await, done}
use types.Run.{look, store, init, forget, stop, hop, fld, from, load, unit_lit, of_opd, and_then, no_more, assigns, land, returns, enter, alloc1, alloc0, params1, pass1, pass0, free1, free0}
use types.Part.{whole, sub, look_in}
use types.SemTy.{Body}
use types.Mut.{open_ref, close_ref}
use sound.WpLaws.{FmC, fm_of, WpFn-mono}
use denote.RattleType.{RattleType, owns}
use denote.Laws.{Is, shows, Tells, Makes}
use denote.Memory.{mem, part_at, lone, pointee, shared_of, hidden_shr}
use denote.Opens.{Opens, twice_dup, shr_open, shr_Shut}
use denote.Plain.{UInt, uint_Tells, uint_Makes, uint_Lawful, Boolean, bool_Tells, bool_Makes, bool_Lawful, Nothing, Nothing-Makes}
use denote.Exit.{Last, left, yes}
use denote.Ref.{Bor, MutBor, MutRef, ShrRef, shr_vals, mut_vals, mut_Tells, shr_Tells}
use denote.Signature.{plain, mut_ref_to, shr_ref_to}
use denote.Steps.{owned, peeks, heard, nothing, only}
use denote.Struct.Struct.{Plains}
use denote.Struct.Declared as SD
use denote.Struct.Laws as LL
use denote.Enum.Enum.{Plainss, Few}
use denote.Enum.Declared as ED
use denote.Enum.Laws as EL
use denote.Triple.Statement.{Contract, Triple}
use denote.Triple.Call.{calls_from}
use denote.Triple.Clauses.{Ended, Clauses, ensured, closing, lasts}
use denote.Triple.Entry.{on_entry}
use denote.Triple.Spec.{Meets, triple_of}
use denote.Triple.Walked.{says, Stays, stay_ref, stay_none, stay_none_ref, walk_of, AllGo, Goes-ref, Goes-none, Goes-none_ref, Walks, ends_at, walked, walk_Meets}
use borrow.Table.OneValue.{One, part_out, part_in}

-- plain data: one machine value, which its relation tells and which fits its MIR type; and nothing is to be said of it at exit
pub record Data {M : Type 1} {𝓤 : Ura M} (𝓛 : Logic 𝓤) (R : RattleType) : Type 1 where
  pub mach : R.Denot → Val
  pub one : One R
  pub tells : Tells R (Is R) (λ x. mach x ∷ [])
  pub makes : Makes 𝓛 R (Is R)
  pub typed : (x : R.Denot) → Is R x (mach x ∷ []) → T (has_ty (lone R.mir) (mach x)) × WT (mach x)
  pub last : (x : R.Denot) → Last (R.exit yes) x
  pub silent : (x : R.Denot) (w : Last (R.exit yes) x) → left (R.exit yes) x w ≡ ftrue

module _ {M : Type 1} {𝓤 : Ura M} (𝓛 : Logic 𝓤) where
  abbrev pub struct_data : (D : SD.Declared) (L : LL.Laws D) → Plains (SD.fields D) → ((x : D.D) → Last ((SD.row D).exit yes) x) → ((x : D.D) (w : Last ((SD.row D).exit yes) x) → left ((SD.row D).exit yes) x w ≡ ftrue) → Data 𝓛 (SD.row D)
  struct_data D L pl last silent = record { mach = LL.val D L; one = refl; tells = LL.tells D L; makes = LL.makes D pl 𝓛; typed = λ x is. ((LL.lawful D L 𝓛).typed x _ is).0; last = last; silent = silent }

  abbrev pub enum_data : (D : ED.Declared) (L : EL.Laws D) → Few (ED.shape D) → Plainss (ED.variants D) → ((x : D.D) → Last ((ED.row D).exit yes) x) → ((x : D.D) (w : Last ((ED.row D).exit yes) x) → left ((ED.row D).exit yes) x w ≡ ftrue) → Data 𝓛 (ED.row D)
  enum_data D L few pl last silent = record { mach = EL.val D L; one = refl; tells = EL.tells D L; makes = EL.makes D pl 𝓛; typed = λ x is. ((EL.lawful D L 𝓛 few).typed x _ is).0; last = last; silent = silent }

  abbrev pub uint_data : (w : Width) → Data 𝓛 (UInt w)
  uint_data w = record { mach = vint w; one = refl; tells = uint_Tells w; makes = uint_Makes 𝓛 w; typed = λ x is. ((uint_Lawful 𝓛 w).typed x _ is).0; last = λ x. tt; silent = λ x f. refl }

  abbrev pub bool_data : Data 𝓛 Boolean
  bool_data = record { mach = vbool; one = refl; tells = bool_Tells; makes = bool_Makes 𝓛; typed = λ x is. ((bool_Lawful 𝓛).typed x _ is).0; last = λ x. tt; silent = λ x f. refl }

-- the result of a by-value call: a struct of the answer and the state
pub record Pair {M : Type 1} {𝓤 : Ura M} (𝓛 : Logic 𝓤) {S P : RattleType} (D : Data 𝓛 S) (E : Data 𝓛 P) (G : RattleType) : Type 1 where
  pub name : Sym
  pub answer : G.Denot → P.Denot
  pub state : G.Denot → S.Denot
  pub laid : (r : G.Denot) (v : Val) → Is G r (v ∷ []) → v ≡ vstruct (vcons (E.mach (answer r)) (vcons (D.mach (state r)) vnil))
  pub answer_is : (r : G.Denot) (v : Val) → Is G r (v ∷ []) → Is P (answer r) (E.mach (answer r) ∷ [])
  pub state_is : (r : G.Denot) (v : Val) → Is G r (v ∷ []) → Is S (state r) (D.mach (state r) ∷ [])
  pub typed : (r : G.Denot) (v : Val) → Is G r (v ∷ []) → T (has_ty (ty_struct name (tcons (lone P.mir) (tcons (lone S.mir) tnil))) v) × WT v

-- a share of the whole value's cell, with its relation in hand; and back
module _ {M : Type 1} {𝓤 : Ura M} (𝓛 : Logic 𝓤) (R : RattleType) (D : Data 𝓛 R) (q : Share) (y : R.Denot) (b o : ℕ) where
  pub cell_of : ent 𝓤 (sem 𝓛 (part_at R q y b o)) (guard 𝓤 (Is R y (D.mach y ∷ [])) (sem 𝓛 (fat q (lone R.mir) b o (D.mach y))))
  cell_of = qed 𝓛 (‵ (part_at R q y b o) ∷ []) {P = guard 𝓤 (Is R y (D.mach y ∷ [])) (sem 𝓛 (fat q (lone R.mir) b o (D.mach y)))} (
      use1 𝓛 (some (λ (w : Val). ‵ (fat q (lone R.mir) b o w) ⊛ ‵ (R.own_val y (w ∷ [])))) (part_out 𝓛 R D.one q y b o) $ pick ! (λ w. split ! $ move ! (1 ∷ []) $
      peeks ! R (Is R) (shows 𝓛 R) y (w ∷ []) (λ is. check ! (subst (λ (ws : List Val). Is R y ws) (D.tells y (w ∷ []) is) is) $
      rewrite ! 1 (λ (cv : Val). ‵ (fat q (lone R.mir) b o cv)) (ap only (D.tells y (w ∷ []) is)) refl $ keep ! (1 ∷ []) $ done !)))

  pub of_cell : Is R y (D.mach y ∷ []) → ent 𝓤 (sem 𝓛 (fat q (lone R.mir) b o (D.mach y))) (sem 𝓛 (part_at R q y b o))
  of_cell is = qed 𝓛 (‵ (fat q (lone R.mir) b o (D.mach y)) ∷ []) {P = sem 𝓛 (part_at R q y b o)} (
      owned ! R (Is R) D.makes y (D.mach y ∷ []) is $ move ! (1 ∷ 0 ∷ []) $ use2 𝓛 (‵ (part_at R q y b o)) (part_in 𝓛 R D.one q y b o (D.mach y)) $ done !)

-- a machine value that it relates is its own
module _ {M : Type 1} {𝓤 : Ura M} (𝓛 : Logic 𝓤) (R : RattleType) (D : Data 𝓛 R) (y : R.Denot) where
  told : (v : Val) → Is R y (v ∷ []) → Is R y (D.mach y ∷ [])
  told v gs = subst (λ (vs : List Val). Is R y vs) (D.tells y (v ∷ []) gs) gs

  pub told_typed : (v : Val) → Is R y (v ∷ []) → T (has_ty (lone R.mir) v) × WT v
  told_typed v gs = subst (λ (u : Val). T (has_ty (lone R.mir) u) × WT u) (sym (ap only (D.tells y (v ∷ []) gs))) (D.typed y (told v gs))

-- ---- 0 arguments, and no answer
abbrev pub done₀_fn : (ref state : Ty) (f : Callee) → Fn
done₀_fn ref state f = record {
  lifetimes = 1;
  outlives = [];
  ty_params = [];
  givens = 0;
  params = 1;
  locals = local ty_unit value_local ∷ local ref value_local ∷ local state value_local ∷ local state value_local ∷ [];
  body = seq (assign (place 3 []) (rv_opd (copy (place 1 (deref state ∷ []))))) (seq (call f (copy (place 3 []) ∷ []) (place 2 [])) (seq (assign (place 1 (deref state ∷ [])) (rv_opd (copy (place 2 [])))) (seq (assign (place 0 []) (rv_opd opd_unit)) return)));
}

module _ (S : RattleType) where
  abbrev pub done₀_ended : Ended
  done₀_ended = record { signature = record { lifetimes = 1; outlives = []; params = mut_ref_to (0 ∷ []) tt (plain (λ κs. S)) ∷ []; result = plain (λ κs. Nothing) }; kept = (yes, tt) }

  abbrev pub done₀_value_ended : Ended
  done₀_value_ended = record { signature = record { lifetimes = 0; outlives = []; params = plain (λ κs. S) ∷ []; result = plain (λ κs. S) }; kept = (yes, tt) }

module _ (S : RattleType) {M : Type 1} {𝓤 : Ura M} (𝓛 : Logic 𝓤) (D : Data 𝓛 S) (Req : S.Denot → SProp 𝓤) (Ens : S.Denot → S.Denot → Type 0) where
  -- the contract of the lent call, and of the by-value one
  open 𝓛 use {H, A}

  abbrev pub done₀_clauses : Clauses 𝓤 (done₀_ended S)
  done₀_clauses κs a = record { ghost = Unit {0}; requires = λ g. Req a.0.now; ensures = λ g r end. fact 𝓤 (Ens a.0.now end.0.now) }

  abbrev pub done₀_value_clauses : Clauses 𝓤 (done₀_value_ended S)
  done₀_value_clauses κs a = record { ghost = Unit {0}; requires = λ g. Req a.0; ensures = λ g r end. fact 𝓤 (Ens a.0 r) }

  abbrev done₀_value : Contract 𝓤
  done₀_value = triple_of 𝓛 (done₀_value_ended S).signature (closing 𝓛 (done₀_value_ended S) done₀_value_clauses)

  module _ where
    abbrev done₀_stayed : Stays (done₀_ended S).signature.params (done₀_ended S).kept
    done₀_stayed = (stay_ref (0 ∷ []) tt (plain (λ κs. S)), tt)

    module _ (κ : Lft) (q : Share) (b o : ℕ) (γ : GName) (h : S.Denot) where
      abbrev done₀_passed : MutBor S.Denot × Unit {0}
      done₀_passed = (record { ref_ptr = (b, o); ghost_name = γ; now = h }, tt)

      abbrev done₀_at : List Val × Unit {0}
      done₀_at = (vptr b o ∷ [], tt)

      abbrev done₀_post : Val → SProp 𝓤
      done₀_post = (walk_of 𝓛 (done₀_ended S) done₀_stayed done₀_clauses).post (((κ, tt), (q, tt), tt, done₀_passed, done₀_at), tt)

      done₀_exits : (r : S.Denot) → Ens h r → ent 𝓤 (sep 𝓤 (A.obs γ (S.coded.code r)) (sep 𝓤 (A.bor κ (Body (mem S) b o γ)) (A.lft κ q))) (done₀_post vunit)
      done₀_exits r e =
          qed 𝓛 (‵ (fobs γ (S.coded.code r)) ∷ ‵ (fbor κ (Body (mem S) b o γ)) ∷ ‵ (flft κ q) ∷ []) ∵
          suffices ! _ (ends_at 𝓛 (done₀_ended S) done₀_stayed done₀_clauses (((κ, tt), (q, tt), tt, done₀_passed, done₀_at), tt) vunit tt (r, tt) (tt, tt)) $
          says ! e $ nothing ! $ move ! (3 ∷ 0 ∷ []) $ join ! $ frame ! $ feq_i ! (List Val) (vptr b o ∷ []) (vptr b o ∷ []) refl $ fjoin3 ! $
          nothing ! $ move ! (1 ∷ 0 ∷ []) $ fjoin ! $ owned ! Nothing (Is Nothing) (Nothing-Makes 𝓛) tt _ refl $ move ! (1 ∷ 0 ∷ []) $ done !

      abbrev done₀_called : done₀_value.Ghost
      done₀_called = ((tt, tt, tt, (h, tt), (D.mach h ∷ [], tt)), tt)

      done₀_calls : Is S h (D.mach h ∷ []) → ent 𝓤 (Req h) (done₀_value.pre done₀_called)
      done₀_calls is = qed 𝓛 (raw (Req h) ∷ []) ∵ nothing ! $ owned ! S (Is S) D.makes h _ is $ fjoin ! $ nothing ! $ join ! $ frame ! $ done !

      done₀_hears : (r : S.Denot) → ent 𝓤 (ensured 𝓛 (done₀_value_ended S) done₀_value_clauses tt (h, tt) tt r) (fact 𝓤 (Ens h r))
      done₀_hears r = ex_e 𝓤 _ (λ ws. snd∗ 𝓤 (sem 𝓛 (lasts (done₀_value_ended S) tt (h, tt) ws)) (fact 𝓤 (Ens h r)))

      module _ (C : Calls 𝓤 H) (Λ : Loops 𝓤 H) (fm : FmC 𝓤 H 𝓛.laws C) (f : Callee) (known : Triple 𝓤 (C f) done₀_value) where
        done₀_walk : ent 𝓤 (sep 𝓤 (on_entry 𝓛 (done₀_ended S).signature (κ, tt) (q, tt) done₀_passed done₀_at) (Req h)) (WpFn 𝓤 H C Λ (done₀_fn (ty_ref (named 0) mut (pointee S.written)) (lone S.mir) f) (vptr b o ∷ []) done₀_post)
        done₀_walk =
            qed 𝓛 (((‵ (flft κ q) ⊛ ‵ ftrue) ⊛ ‵ (owns (MutRef (named 0) κ S ∷ []) done₀_passed done₀_at)) ∷ raw (Req h) ∷ []) ∵ split ! $ split ! $ move ! (2 ∷ []) $ fsplit ! $ fsplit3 ! $ drop ! $ keep ! (0 ∷ 1 ∷ 3 ∷ 5 ∷ []) $
            enter ! C Λ (done₀_fn (ty_ref (named 0) mut (pointee S.written)) (lone S.mir) f) (vptr b o ∷ []) _ $
            alloc1 ! (λ l₀. alloc1 ! (λ l₁. alloc1 ! (λ l₂. alloc1 ! (λ l₃. alloc0 ! $ params1 ! $ pass1 ! (init ! 4 refl (tt, tt)) $ pass0 ! $
            move ! (8 ∷ 9 ∷ 10 ∷ []) $ open_ref ! tt (mem S) {b = b} {o = o} $
            use1 𝓛 (given (Is S h (D.mach h ∷ [])) (‵ (fat full_share (lone S.mir) b o (D.mach h)))) (cell_of 𝓛 S D full_share h b o) $ learn ! (λ is.
            -- [the cell; the open borrow; obs; auth; the locals, the last first; the requires]
            assigns ! (of_opd ! (load ! (from ! (hop ! (look ! 8 refl) (stop !))) (look ! 0 refl))) (from ! (stop !)) (init ! 4 refl (D.typed h is)) $
            move ! (12 ∷ []) $ use1 𝓛 (raw (done₀_value.pre done₀_called)) (done₀_calls is) $
            calls_from ! fm (raw (done₀_value.pre done₀_called)) (D.mach h ∷ []) (done₀_value.post done₀_called) (known done₀_called) (and_then ! (load ! (from ! (stop !)) (look ! 5 refl)) (no_more !)) (λ v.
            use1 𝓛 (later (some (λ (r : S.Denot). (‵ ftrue ⊛ ‵ (S.own_val r (v ∷ []))) ⊛ raw (ensured 𝓛 (done₀_value_ended S) done₀_value_clauses tt (h, tt) tt r)))) (id⊢ 𝓤 _) $ await ! tt $ pick ! (λ r.
            split ! $ move ! (1 ∷ []) $ use1 𝓛 (raw (fact 𝓤 (Ens h r))) (done₀_hears r) $ heard ! (Ens h r) (λ e. split ! $ drop ! $
            peeks ! S (Is S) (shows 𝓛 S) r (v ∷ []) (λ gs.
            land ! (from ! (stop !)) (init ! 7 refl (told_typed 𝓛 S D r v gs)) $ drop ! $
            rewrite ! 6 (λ (w : Val). ‵ (fat full_share (lone S.mir) l₂ 0 w)) (ap only (D.tells r (v ∷ []) gs)) refl $
            assigns ! (of_opd ! (load ! (from ! (stop !)) (look ! 6 refl))) (from ! (hop ! (look ! 8 refl) (stop !))) (store ! 0 refl (D.typed r (told 𝓛 S D r v gs))) $
            assigns ! (of_opd ! (unit_lit !)) (from ! (stop !)) (init ! 10 refl (tt, tt)) $
            use1 𝓛 (‵ (part_at S full_share r b o)) (of_cell 𝓛 S D full_share r b o (told 𝓛 S D r v gs)) $ close_ref ! tt (mem S) r {b = b} {o = o} $
            -- [obs; the borrow; the token; the locals]
            returns ! (look ! 9 refl) $ forget ! 9 refl $ forget ! 7 refl $ forget ! 5 refl $ forget ! 3 refl $
            move ! (9 ∷ 10 ∷ []) $ free1 ! $ move ! (7 ∷ 8 ∷ []) $ free1 ! $ move ! (5 ∷ 6 ∷ []) $ free1 ! $ move ! (3 ∷ 4 ∷ []) $ free1 ! $ free0 ! $
            keep ! (0 ∷ 1 ∷ 2 ∷ []) $ by ! (done₀_exits r e))))))))))

    done₀_goes : AllGo 𝓛 1 (done₀_ended S).signature.params (done₀_ended S).kept done₀_stayed
    done₀_goes = (Goes-ref 𝓛 1 0 tt (plain (λ κs. S)), tt)

    done₀_walks : (C : Calls 𝓤 H) (Λ : Loops 𝓤 H) → FmC 𝓤 H 𝓛.laws C → (f : Callee) → Triple 𝓤 (C f) done₀_value → Walks 𝓛 (done₀_ended S) done₀_stayed (WpFn 𝓤 H C Λ (done₀_fn (ty_ref (named 0) mut (pointee S.written)) (lone S.mir) f)) done₀_clauses
    done₀_walks C Λ fm f known = walked 𝓛 (done₀_ended S) done₀_stayed done₀_clauses (WpFn 𝓤 H C Λ (done₀_fn (ty_ref (named 0) mut (pointee S.written)) (lone S.mir) f)) (λ κs. (mut_vals, tt)) (λ κs. (mut_Tells (named 0) κs.0 S, tt))
        (λ κs qs bounds a g are. done₀_walk κs.0 qs.0 a.0.ref_ptr.0 a.0.ref_ptr.1 a.0.ghost_name a.0.now C Λ fm f known)

    pub done₀ : (𝓣 : Tables 𝓤 H) (f : Callee) → Triple 𝓤 (𝓣.C f) done₀_value
        → Meets 𝓛 (done₀_ended S).signature (WpFn 𝓤 H 𝓣.C 𝓣.Λ (done₀_fn (ty_ref (named 0) mut (pointee S.written)) (lone S.mir) f)) (closing 𝓛 (done₀_ended S) done₀_clauses)
    done₀ 𝓣 f known = walk_Meets 𝓛 (done₀_ended S) done₀_stayed done₀_goes done₀_clauses (WpFn 𝓤 H 𝓣.C 𝓣.Λ (done₀_fn (ty_ref (named 0) mut (pointee S.written)) (lone S.mir) f)) (WpFn-mono 𝓤 H 𝓛.laws 𝓣 (done₀_fn (ty_ref (named 0) mut (pointee S.written)) (lone S.mir) f)) (done₀_walks 𝓣.C 𝓣.Λ (fm_of 𝓤 H 𝓛.laws 𝓣) f known)

-- ---- 0 arguments
abbrev pub answers₀_fn : (ref state result answer : Ty) (f : Callee) → Fn
answers₀_fn ref state result answer f = record {
  lifetimes = 1;
  outlives = [];
  ty_params = [];
  givens = 0;
  params = 1;
  locals = local answer value_local ∷ local ref value_local ∷ local result value_local ∷ local state value_local ∷ local state value_local ∷ [];
  body = seq (assign (place 3 []) (rv_opd (copy (place 1 (deref state ∷ []))))) (seq (call f (copy (place 3 []) ∷ []) (place 2 [])) (seq (assign (place 4 []) (rv_opd (copy (place 2 (field 1 ∷ []))))) (seq (assign (place 1 (deref state ∷ [])) (rv_opd (copy (place 4 [])))) (seq (assign (place 0 []) (rv_opd (copy (place 2 (field 0 ∷ []))))) return))));
}

module _ (S P G : RattleType) where
  abbrev pub answers₀_ended : Ended
  answers₀_ended = record { signature = record { lifetimes = 1; outlives = []; params = mut_ref_to (0 ∷ []) tt (plain (λ κs. S)) ∷ []; result = plain (λ κs. P) }; kept = (yes, tt) }

  abbrev pub answers₀_value_ended : Ended
  answers₀_value_ended = record { signature = record { lifetimes = 0; outlives = []; params = plain (λ κs. S) ∷ []; result = plain (λ κs. G) }; kept = (yes, tt) }

module _ (S P G : RattleType) {M : Type 1} {𝓤 : Ura M} (𝓛 : Logic 𝓤) (D : Data 𝓛 S) (E : Data 𝓛 P) (pr : Pair 𝓛 D E G) (Req : S.Denot → SProp 𝓤) (Ens : S.Denot → S.Denot → P.Denot → Type 0) where
  -- the contract of the lent call, and of the by-value one
  open 𝓛 use {H, A}

  abbrev pub answers₀_clauses : Clauses 𝓤 (answers₀_ended S P G)
  answers₀_clauses κs a = record { ghost = Unit {0}; requires = λ g. Req a.0.now; ensures = λ g r end. fact 𝓤 (Ens a.0.now end.0.now r) }

  abbrev pub answers₀_value_clauses : Clauses 𝓤 (answers₀_value_ended S P G)
  answers₀_value_clauses κs a = record { ghost = Unit {0}; requires = λ g. Req a.0; ensures = λ g r end. fact 𝓤 (Ens a.0 (pr.state r) (pr.answer r)) }

  abbrev answers₀_value : Contract 𝓤
  answers₀_value = triple_of 𝓛 (answers₀_value_ended S P G).signature (closing 𝓛 (answers₀_value_ended S P G) answers₀_value_clauses)

  module _ where
    abbrev answers₀_stayed : Stays (answers₀_ended S P G).signature.params (answers₀_ended S P G).kept
    answers₀_stayed = (stay_ref (0 ∷ []) tt (plain (λ κs. S)), tt)

    module _ (κ : Lft) (q : Share) (b o : ℕ) (γ : GName) (h : S.Denot) where
      abbrev answers₀_passed : MutBor S.Denot × Unit {0}
      answers₀_passed = (record { ref_ptr = (b, o); ghost_name = γ; now = h }, tt)

      abbrev answers₀_at : List Val × Unit {0}
      answers₀_at = (vptr b o ∷ [], tt)

      abbrev answers₀_post : Val → SProp 𝓤
      answers₀_post = (walk_of 𝓛 (answers₀_ended S P G) answers₀_stayed answers₀_clauses).post (((κ, tt), (q, tt), tt, answers₀_passed, answers₀_at), tt)

      answers₀_exits : (r : G.Denot) → Ens h (pr.state r) (pr.answer r) → Is P (pr.answer r) (E.mach (pr.answer r) ∷ []) → ent 𝓤 (sep 𝓤 (A.obs γ (S.coded.code (pr.state r))) (sep 𝓤 (A.bor κ (Body (mem S) b o γ)) (A.lft κ q))) (answers₀_post (E.mach (pr.answer r)))
      answers₀_exits r e ps =
          qed 𝓛 (‵ (fobs γ (S.coded.code (pr.state r))) ∷ ‵ (fbor κ (Body (mem S) b o γ)) ∷ ‵ (flft κ q) ∷ []) ∵
          suffices ! _ (ends_at 𝓛 (answers₀_ended S P G) answers₀_stayed answers₀_clauses (((κ, tt), (q, tt), tt, answers₀_passed, answers₀_at), tt) (E.mach (pr.answer r)) (pr.answer r) ((pr.state r), tt) (tt, tt)) $
          says ! e $ nothing ! $ move ! (3 ∷ 0 ∷ []) $ join ! $ frame ! $ feq_i ! (List Val) (vptr b o ∷ []) (vptr b o ∷ []) refl $ fjoin3 ! $
          nothing ! $ move ! (1 ∷ 0 ∷ []) $ fjoin ! $ owned ! P (Is P) E.makes (pr.answer r) _ ps $ move ! (1 ∷ 0 ∷ []) $ done !

      abbrev answers₀_called : answers₀_value.Ghost
      answers₀_called = ((tt, tt, tt, (h, tt), (D.mach h ∷ [], tt)), tt)

      answers₀_calls : Is S h (D.mach h ∷ []) → ent 𝓤 (Req h) (answers₀_value.pre answers₀_called)
      answers₀_calls is = qed 𝓛 (raw (Req h) ∷ []) ∵ nothing ! $ owned ! S (Is S) D.makes h _ is $ fjoin ! $ nothing ! $ join ! $ frame ! $ done !

      answers₀_hears : (r : G.Denot) → ent 𝓤 (ensured 𝓛 (answers₀_value_ended S P G) answers₀_value_clauses tt (h, tt) tt r) (fact 𝓤 (Ens h (pr.state r) (pr.answer r)))
      answers₀_hears r = ex_e 𝓤 _ (λ ws. snd∗ 𝓤 (sem 𝓛 (lasts (answers₀_value_ended S P G) tt (h, tt) ws)) (fact 𝓤 (Ens h (pr.state r) (pr.answer r))))

      module _ (C : Calls 𝓤 H) (Λ : Loops 𝓤 H) (fm : FmC 𝓤 H 𝓛.laws C) (f : Callee) (known : Triple 𝓤 (C f) answers₀_value) where
        answers₀_walk : ent 𝓤 (sep 𝓤 (on_entry 𝓛 (answers₀_ended S P G).signature (κ, tt) (q, tt) answers₀_passed answers₀_at) (Req h)) (WpFn 𝓤 H C Λ (answers₀_fn (ty_ref (named 0) mut (pointee S.written)) (lone S.mir) (ty_struct pr.name (tcons (lone P.mir) (tcons (lone S.mir) tnil))) (lone P.mir) f) (vptr b o ∷ []) answers₀_post)
        answers₀_walk =
            qed 𝓛 (((‵ (flft κ q) ⊛ ‵ ftrue) ⊛ ‵ (owns (MutRef (named 0) κ S ∷ []) answers₀_passed answers₀_at)) ∷ raw (Req h) ∷ []) ∵ split ! $ split ! $ move ! (2 ∷ []) $ fsplit ! $ fsplit3 ! $ drop ! $ keep ! (0 ∷ 1 ∷ 3 ∷ 5 ∷ []) $
            enter ! C Λ (answers₀_fn (ty_ref (named 0) mut (pointee S.written)) (lone S.mir) (ty_struct pr.name (tcons (lone P.mir) (tcons (lone S.mir) tnil))) (lone P.mir) f) (vptr b o ∷ []) _ $
            alloc1 ! (λ l₀. alloc1 ! (λ l₁. alloc1 ! (λ l₂. alloc1 ! (λ l₃. alloc1 ! (λ l₄. alloc0 ! $ params1 ! $ pass1 ! (init ! 6 refl (tt, tt)) $ pass0 ! $
            move ! (10 ∷ 11 ∷ 12 ∷ []) $ open_ref ! tt (mem S) {b = b} {o = o} $
            use1 𝓛 (given (Is S h (D.mach h ∷ [])) (‵ (fat full_share (lone S.mir) b o (D.mach h)))) (cell_of 𝓛 S D full_share h b o) $ learn ! (λ is.
            -- [the cell; the open borrow; obs; auth; the locals, the last first; the requires]
            assigns ! (of_opd ! (load ! (from ! (hop ! (look ! 10 refl) (stop !))) (look ! 0 refl))) (from ! (stop !)) (init ! 6 refl (D.typed h is)) $
            move ! (14 ∷ []) $ use1 𝓛 (raw (answers₀_value.pre answers₀_called)) (answers₀_calls is) $
            calls_from ! fm (raw (answers₀_value.pre answers₀_called)) (D.mach h ∷ []) (answers₀_value.post answers₀_called) (known answers₀_called) (and_then ! (load ! (from ! (stop !)) (look ! 7 refl)) (no_more !)) (λ v.
            use1 𝓛 (later (some (λ (r : G.Denot). (‵ ftrue ⊛ ‵ (G.own_val r (v ∷ []))) ⊛ raw (ensured 𝓛 (answers₀_value_ended S P G) answers₀_value_clauses tt (h, tt) tt r)))) (id⊢ 𝓤 _) $ await ! tt $ pick ! (λ r.
            split ! $ move ! (1 ∷ []) $ use1 𝓛 (raw (fact 𝓤 (Ens h (pr.state r) (pr.answer r)))) (answers₀_hears r) $ heard ! (Ens h (pr.state r) (pr.answer r)) (λ e. split ! $ drop ! $
            peeks ! G (Is G) (shows 𝓛 G) r (v ∷ []) (λ gs.
            land ! (from ! (stop !)) (init ! 9 refl (pr.typed r v gs)) $ drop ! $
            rewrite ! 8 (λ (w : Val). ‵ (fat full_share (ty_struct pr.name (tcons (lone P.mir) (tcons (lone S.mir) tnil))) l₂ 0 w)) (pr.laid r v gs) refl $
            assigns ! (of_opd ! (load ! (from ! (fld ! refl (stop !))) (look_in ! 8 (sub ! 1 refl (whole !))))) (from ! (stop !)) (init ! 4 refl (D.typed (pr.state r) (pr.state_is r v gs))) $
            assigns ! (of_opd ! (load ! (from ! (stop !)) (look ! 4 refl))) (from ! (hop ! (look ! 10 refl) (stop !))) (store ! 0 refl (D.typed (pr.state r) (pr.state_is r v gs))) $
            assigns ! (of_opd ! (load ! (from ! (fld ! refl (stop !))) (look_in ! 8 (sub ! 0 refl (whole !))))) (from ! (stop !)) (init ! 12 refl (E.typed (pr.answer r) (pr.answer_is r v gs))) $
            use1 𝓛 (‵ (part_at S full_share (pr.state r) b o)) (of_cell 𝓛 S D full_share (pr.state r) b o (pr.state_is r v gs)) $ close_ref ! tt (mem S) (pr.state r) {b = b} {o = o} $
            -- [obs; the borrow; the token; the locals]
            returns ! (look ! 11 refl) $ forget ! 11 refl $ forget ! 9 refl $ forget ! 7 refl $ forget ! 5 refl $ forget ! 3 refl $
            move ! (11 ∷ 12 ∷ []) $ free1 ! $ move ! (9 ∷ 10 ∷ []) $ free1 ! $ move ! (7 ∷ 8 ∷ []) $ free1 ! $ move ! (5 ∷ 6 ∷ []) $ free1 ! $ move ! (3 ∷ 4 ∷ []) $ free1 ! $ free0 ! $
            keep ! (0 ∷ 1 ∷ 2 ∷ []) $ by ! (answers₀_exits r e (pr.answer_is r v gs))))))))))))

    answers₀_goes : AllGo 𝓛 1 (answers₀_ended S P G).signature.params (answers₀_ended S P G).kept answers₀_stayed
    answers₀_goes = (Goes-ref 𝓛 1 0 tt (plain (λ κs. S)), tt)

    answers₀_walks : (C : Calls 𝓤 H) (Λ : Loops 𝓤 H) → FmC 𝓤 H 𝓛.laws C → (f : Callee) → Triple 𝓤 (C f) answers₀_value → Walks 𝓛 (answers₀_ended S P G) answers₀_stayed (WpFn 𝓤 H C Λ (answers₀_fn (ty_ref (named 0) mut (pointee S.written)) (lone S.mir) (ty_struct pr.name (tcons (lone P.mir) (tcons (lone S.mir) tnil))) (lone P.mir) f)) answers₀_clauses
    answers₀_walks C Λ fm f known = walked 𝓛 (answers₀_ended S P G) answers₀_stayed answers₀_clauses (WpFn 𝓤 H C Λ (answers₀_fn (ty_ref (named 0) mut (pointee S.written)) (lone S.mir) (ty_struct pr.name (tcons (lone P.mir) (tcons (lone S.mir) tnil))) (lone P.mir) f)) (λ κs. (mut_vals, tt)) (λ κs. (mut_Tells (named 0) κs.0 S, tt))
        (λ κs qs bounds a g are. answers₀_walk κs.0 qs.0 a.0.ref_ptr.0 a.0.ref_ptr.1 a.0.ghost_name a.0.now C Λ fm f known)

    pub answers₀ : (𝓣 : Tables 𝓤 H) (f : Callee) → Triple 𝓤 (𝓣.C f) answers₀_value
        → Meets 𝓛 (answers₀_ended S P G).signature (WpFn 𝓤 H 𝓣.C 𝓣.Λ (answers₀_fn (ty_ref (named 0) mut (pointee S.written)) (lone S.mir) (ty_struct pr.name (tcons (lone P.mir) (tcons (lone S.mir) tnil))) (lone P.mir) f)) (closing 𝓛 (answers₀_ended S P G) answers₀_clauses)
    answers₀ 𝓣 f known = walk_Meets 𝓛 (answers₀_ended S P G) answers₀_stayed answers₀_goes answers₀_clauses (WpFn 𝓤 H 𝓣.C 𝓣.Λ (answers₀_fn (ty_ref (named 0) mut (pointee S.written)) (lone S.mir) (ty_struct pr.name (tcons (lone P.mir) (tcons (lone S.mir) tnil))) (lone P.mir) f)) (WpFn-mono 𝓤 H 𝓛.laws 𝓣 (answers₀_fn (ty_ref (named 0) mut (pointee S.written)) (lone S.mir) (ty_struct pr.name (tcons (lone P.mir) (tcons (lone S.mir) tnil))) (lone P.mir) f)) (answers₀_walks 𝓣.C 𝓣.Λ (fm_of 𝓤 H 𝓛.laws 𝓣) f known)

-- ---- 1 argument
abbrev pub answers₁_fn : (ref state result answer τ₁ : Ty) (f : Callee) → Fn
answers₁_fn ref state result answer τ₁ f = record {
  lifetimes = 1;
  outlives = [];
  ty_params = [];
  givens = 0;
  params = 2;
  locals = local answer value_local ∷ local ref value_local ∷ local τ₁ value_local ∷ local result value_local ∷ local state value_local ∷ local state value_local ∷ [];
  body = seq (assign (place 4 []) (rv_opd (copy (place 1 (deref state ∷ []))))) (seq (call f (copy (place 4 []) ∷ copy (place 2 []) ∷ []) (place 3 [])) (seq (assign (place 5 []) (rv_opd (copy (place 3 (field 1 ∷ []))))) (seq (assign (place 1 (deref state ∷ [])) (rv_opd (copy (place 5 [])))) (seq (assign (place 0 []) (rv_opd (copy (place 3 (field 0 ∷ []))))) return))));
}

module _ (S P G X₁ : RattleType) where
  abbrev pub answers₁_ended : Ended
  answers₁_ended = record { signature = record { lifetimes = 1; outlives = []; params = mut_ref_to (0 ∷ []) tt (plain (λ κs. S)) ∷ plain (λ κs. X₁) ∷ []; result = plain (λ κs. P) }; kept = (yes, (yes, tt)) }

  abbrev pub answers₁_value_ended : Ended
  answers₁_value_ended = record { signature = record { lifetimes = 0; outlives = []; params = plain (λ κs. S) ∷ plain (λ κs. X₁) ∷ []; result = plain (λ κs. G) }; kept = (yes, (yes, tt)) }

module _ (S P G X₁ : RattleType) {M : Type 1} {𝓤 : Ura M} (𝓛 : Logic 𝓤) (D : Data 𝓛 S) (E : Data 𝓛 P) (D₁ : Data 𝓛 X₁) (pr : Pair 𝓛 D E G) (Req : S.Denot → X₁.Denot → SProp 𝓤) (Ens : S.Denot → X₁.Denot → S.Denot → P.Denot → Type 0) where
  -- the contract of the lent call, and of the by-value one
  open 𝓛 use {H, A}

  abbrev pub answers₁_clauses : Clauses 𝓤 (answers₁_ended S P G X₁)
  answers₁_clauses κs a = record { ghost = Unit {0}; requires = λ g. Req a.0.now a.1.0; ensures = λ g r end. fact 𝓤 (Ens a.0.now a.1.0 end.0.now r) }

  abbrev pub answers₁_value_clauses : Clauses 𝓤 (answers₁_value_ended S P G X₁)
  answers₁_value_clauses κs a = record { ghost = Unit {0}; requires = λ g. Req a.0 a.1.0; ensures = λ g r end. fact 𝓤 (Ens a.0 a.1.0 (pr.state r) (pr.answer r)) }

  abbrev answers₁_value : Contract 𝓤
  answers₁_value = triple_of 𝓛 (answers₁_value_ended S P G X₁).signature (closing 𝓛 (answers₁_value_ended S P G X₁) answers₁_value_clauses)

  module _ where
    abbrev answers₁_stayed : Stays (answers₁_ended S P G X₁).signature.params (answers₁_ended S P G X₁).kept
    answers₁_stayed = (stay_ref (0 ∷ []) tt (plain (λ κs. S)), (stay_none (λ κs. X₁) yes, tt))

    module _ (κ : Lft) (q : Share) (b o : ℕ) (γ : GName) (h : S.Denot) (x₁ : X₁.Denot) (x₁-is : Is X₁ x₁ (D₁.mach x₁ ∷ [])) where
      abbrev answers₁_passed : MutBor S.Denot × (X₁.Denot × Unit {0})
      answers₁_passed = (record { ref_ptr = (b, o); ghost_name = γ; now = h }, (x₁, tt))

      abbrev answers₁_at : List Val × (List Val × Unit {0})
      answers₁_at = (vptr b o ∷ [], (D₁.mach x₁ ∷ [], tt))

      abbrev answers₁_post : Val → SProp 𝓤
      answers₁_post = (walk_of 𝓛 (answers₁_ended S P G X₁) answers₁_stayed answers₁_clauses).post (((κ, tt), (q, tt), tt, answers₁_passed, answers₁_at), tt)

      answers₁_exits : (r : G.Denot) → Ens h x₁ (pr.state r) (pr.answer r) → Is P (pr.answer r) (E.mach (pr.answer r) ∷ []) → ent 𝓤 (sep 𝓤 (A.obs γ (S.coded.code (pr.state r))) (sep 𝓤 (A.bor κ (Body (mem S) b o γ)) (A.lft κ q))) (answers₁_post (E.mach (pr.answer r)))
      answers₁_exits r e ps =
          qed 𝓛 (‵ (fobs γ (S.coded.code (pr.state r))) ∷ ‵ (fbor κ (Body (mem S) b o γ)) ∷ ‵ (flft κ q) ∷ []) ∵
          suffices ! _ (ends_at 𝓛 (answers₁_ended S P G X₁) answers₁_stayed answers₁_clauses (((κ, tt), (q, tt), tt, answers₁_passed, answers₁_at), tt) (E.mach (pr.answer r)) (pr.answer r) ((pr.state r), (D₁.last x₁, tt)) (tt, (tt, tt))) $
          says ! e $ nothing ! $ move ! (3 ∷ 0 ∷ []) $ join ! $ frame ! $ feq_i ! (List Val) (vptr b o ∷ []) (vptr b o ∷ []) refl $ fjoin3 ! $
          nothing ! $ owned ! X₁ (Is X₁) D₁.makes x₁ _ x₁-is $ fjoin ! $ move ! (1 ∷ 0 ∷ []) $ fjoin ! $ owned ! P (Is P) E.makes (pr.answer r) _ ps $ move ! (1 ∷ 0 ∷ []) $ done !

      abbrev answers₁_called : answers₁_value.Ghost
      answers₁_called = ((tt, tt, tt, (h, (x₁, tt)), (D.mach h ∷ [], (D₁.mach x₁ ∷ [], tt))), tt)

      answers₁_calls : Is S h (D.mach h ∷ []) → ent 𝓤 (Req h x₁) (answers₁_value.pre answers₁_called)
      answers₁_calls is = qed 𝓛 (raw (Req h x₁) ∷ []) ∵ nothing ! $ owned ! X₁ (Is X₁) D₁.makes x₁ _ x₁-is $ fjoin ! $ owned ! S (Is S) D.makes h _ is $ fjoin ! $ nothing ! $ join ! $ frame ! $ done !

      answers₁_hears : (r : G.Denot) → ent 𝓤 (ensured 𝓛 (answers₁_value_ended S P G X₁) answers₁_value_clauses tt (h, (x₁, tt)) tt r) (fact 𝓤 (Ens h x₁ (pr.state r) (pr.answer r)))
      answers₁_hears r = ex_e 𝓤 _ (λ ws. snd∗ 𝓤 (sem 𝓛 (lasts (answers₁_value_ended S P G X₁) tt (h, (x₁, tt)) ws)) (fact 𝓤 (Ens h x₁ (pr.state r) (pr.answer r))))

      module _ (C : Calls 𝓤 H) (Λ : Loops 𝓤 H) (fm : FmC 𝓤 H 𝓛.laws C) (f : Callee) (known : Triple 𝓤 (C f) answers₁_value) where
        answers₁_walk : ent 𝓤 (sep 𝓤 (on_entry 𝓛 (answers₁_ended S P G X₁).signature (κ, tt) (q, tt) answers₁_passed answers₁_at) (Req h x₁)) (WpFn 𝓤 H C Λ (answers₁_fn (ty_ref (named 0) mut (pointee S.written)) (lone S.mir) (ty_struct pr.name (tcons (lone P.mir) (tcons (lone S.mir) tnil))) (lone P.mir) (lone X₁.mir) f) (vptr b o ∷ D₁.mach x₁ ∷ []) answers₁_post)
        answers₁_walk =
            qed 𝓛 (((‵ (flft κ q) ⊛ ‵ ftrue) ⊛ ‵ (owns (MutRef (named 0) κ S ∷ X₁ ∷ []) answers₁_passed answers₁_at)) ∷ raw (Req h x₁) ∷ []) ∵ split ! $ split ! $ move ! (2 ∷ []) $ fsplit ! $ fsplit3 ! $ drop ! $ keep ! (0 ∷ 1 ∷ 3 ∷ 5 ∷ []) $
            enter ! C Λ (answers₁_fn (ty_ref (named 0) mut (pointee S.written)) (lone S.mir) (ty_struct pr.name (tcons (lone P.mir) (tcons (lone S.mir) tnil))) (lone P.mir) (lone X₁.mir) f) (vptr b o ∷ D₁.mach x₁ ∷ []) _ $
            alloc1 ! (λ l₀. alloc1 ! (λ l₁. alloc1 ! (λ l₂. alloc1 ! (λ l₃. alloc1 ! (λ l₄. alloc1 ! (λ l₅. alloc0 ! $ params1 ! $ pass1 ! (init ! 8 refl (tt, tt)) $ pass1 ! (init ! 6 refl (D₁.typed x₁ x₁-is)) $ pass0 ! $
            move ! (12 ∷ 13 ∷ 14 ∷ []) $ open_ref ! tt (mem S) {b = b} {o = o} $
            use1 𝓛 (given (Is S h (D.mach h ∷ [])) (‵ (fat full_share (lone S.mir) b o (D.mach h)))) (cell_of 𝓛 S D full_share h b o) $ learn ! (λ is.
            -- [the cell; the open borrow; obs; auth; the locals, the last first; the requires]
            assigns ! (of_opd ! (load ! (from ! (hop ! (look ! 12 refl) (stop !))) (look ! 0 refl))) (from ! (stop !)) (init ! 6 refl (D.typed h is)) $
            move ! (16 ∷ []) $ use1 𝓛 (raw (answers₁_value.pre answers₁_called)) (answers₁_calls is) $
            calls_from ! fm (raw (answers₁_value.pre answers₁_called)) (D.mach h ∷ D₁.mach x₁ ∷ []) (answers₁_value.post answers₁_called) (known answers₁_called) (and_then ! (load ! (from ! (stop !)) (look ! 7 refl)) (and_then ! (load ! (from ! (stop !)) (look ! 11 refl)) (no_more !))) (λ v.
            use1 𝓛 (later (some (λ (r : G.Denot). (‵ ftrue ⊛ ‵ (G.own_val r (v ∷ []))) ⊛ raw (ensured 𝓛 (answers₁_value_ended S P G X₁) answers₁_value_clauses tt (h, (x₁, tt)) tt r)))) (id⊢ 𝓤 _) $ await ! tt $ pick ! (λ r.
            split ! $ move ! (1 ∷ []) $ use1 𝓛 (raw (fact 𝓤 (Ens h x₁ (pr.state r) (pr.answer r)))) (answers₁_hears r) $ heard ! (Ens h x₁ (pr.state r) (pr.answer r)) (λ e. split ! $ drop ! $
            peeks ! G (Is G) (shows 𝓛 G) r (v ∷ []) (λ gs.
            land ! (from ! (stop !)) (init ! 9 refl (pr.typed r v gs)) $ drop ! $
            rewrite ! 8 (λ (w : Val). ‵ (fat full_share (ty_struct pr.name (tcons (lone P.mir) (tcons (lone S.mir) tnil))) l₃ 0 w)) (pr.laid r v gs) refl $
            assigns ! (of_opd ! (load ! (from ! (fld ! refl (stop !))) (look_in ! 8 (sub ! 1 refl (whole !))))) (from ! (stop !)) (init ! 4 refl (D.typed (pr.state r) (pr.state_is r v gs))) $
            assigns ! (of_opd ! (load ! (from ! (stop !)) (look ! 4 refl))) (from ! (hop ! (look ! 12 refl) (stop !))) (store ! 0 refl (D.typed (pr.state r) (pr.state_is r v gs))) $
            assigns ! (of_opd ! (load ! (from ! (fld ! refl (stop !))) (look_in ! 8 (sub ! 0 refl (whole !))))) (from ! (stop !)) (init ! 14 refl (E.typed (pr.answer r) (pr.answer_is r v gs))) $
            use1 𝓛 (‵ (part_at S full_share (pr.state r) b o)) (of_cell 𝓛 S D full_share (pr.state r) b o (pr.state_is r v gs)) $ close_ref ! tt (mem S) (pr.state r) {b = b} {o = o} $
            -- [obs; the borrow; the token; the locals]
            returns ! (look ! 13 refl) $ forget ! 13 refl $ forget ! 11 refl $ forget ! 9 refl $ forget ! 7 refl $ forget ! 5 refl $ forget ! 3 refl $
            move ! (13 ∷ 14 ∷ []) $ free1 ! $ move ! (11 ∷ 12 ∷ []) $ free1 ! $ move ! (9 ∷ 10 ∷ []) $ free1 ! $ move ! (7 ∷ 8 ∷ []) $ free1 ! $ move ! (5 ∷ 6 ∷ []) $ free1 ! $ move ! (3 ∷ 4 ∷ []) $ free1 ! $ free0 ! $
            keep ! (0 ∷ 1 ∷ 2 ∷ []) $ by ! (answers₁_exits r e (pr.answer_is r v gs)))))))))))))

    answers₁_goes : AllGo 𝓛 1 (answers₁_ended S P G X₁).signature.params (answers₁_ended S P G X₁).kept answers₁_stayed
    answers₁_goes = (Goes-ref 𝓛 1 0 tt (plain (λ κs. S)), (Goes-none 𝓛 1 (λ κs. X₁) yes (λ κs. D₁.silent), tt))

    answers₁_walks : (C : Calls 𝓤 H) (Λ : Loops 𝓤 H) → FmC 𝓤 H 𝓛.laws C → (f : Callee) → Triple 𝓤 (C f) answers₁_value → Walks 𝓛 (answers₁_ended S P G X₁) answers₁_stayed (WpFn 𝓤 H C Λ (answers₁_fn (ty_ref (named 0) mut (pointee S.written)) (lone S.mir) (ty_struct pr.name (tcons (lone P.mir) (tcons (lone S.mir) tnil))) (lone P.mir) (lone X₁.mir) f)) answers₁_clauses
    answers₁_walks C Λ fm f known = walked 𝓛 (answers₁_ended S P G X₁) answers₁_stayed answers₁_clauses (WpFn 𝓤 H C Λ (answers₁_fn (ty_ref (named 0) mut (pointee S.written)) (lone S.mir) (ty_struct pr.name (tcons (lone P.mir) (tcons (lone S.mir) tnil))) (lone P.mir) (lone X₁.mir) f)) (λ κs. (mut_vals, (λ y. D₁.mach y ∷ [], tt))) (λ κs. (mut_Tells (named 0) κs.0 S, (D₁.tells, tt)))
        (λ κs qs bounds a g are. answers₁_walk κs.0 qs.0 a.0.ref_ptr.0 a.0.ref_ptr.1 a.0.ghost_name a.0.now a.1.0 are.1.0 C Λ fm f known)

    pub answers₁ : (𝓣 : Tables 𝓤 H) (f : Callee) → Triple 𝓤 (𝓣.C f) answers₁_value
        → Meets 𝓛 (answers₁_ended S P G X₁).signature (WpFn 𝓤 H 𝓣.C 𝓣.Λ (answers₁_fn (ty_ref (named 0) mut (pointee S.written)) (lone S.mir) (ty_struct pr.name (tcons (lone P.mir) (tcons (lone S.mir) tnil))) (lone P.mir) (lone X₁.mir) f)) (closing 𝓛 (answers₁_ended S P G X₁) answers₁_clauses)
    answers₁ 𝓣 f known = walk_Meets 𝓛 (answers₁_ended S P G X₁) answers₁_stayed answers₁_goes answers₁_clauses (WpFn 𝓤 H 𝓣.C 𝓣.Λ (answers₁_fn (ty_ref (named 0) mut (pointee S.written)) (lone S.mir) (ty_struct pr.name (tcons (lone P.mir) (tcons (lone S.mir) tnil))) (lone P.mir) (lone X₁.mir) f)) (WpFn-mono 𝓤 H 𝓛.laws 𝓣 (answers₁_fn (ty_ref (named 0) mut (pointee S.written)) (lone S.mir) (ty_struct pr.name (tcons (lone P.mir) (tcons (lone S.mir) tnil))) (lone P.mir) (lone X₁.mir) f)) (answers₁_walks 𝓣.C 𝓣.Λ (fm_of 𝓤 H 𝓛.laws 𝓣) f known)

-- ---- 2 arguments
abbrev pub answers₂_fn : (ref state result answer τ₁ τ₂ : Ty) (f : Callee) → Fn
answers₂_fn ref state result answer τ₁ τ₂ f = record {
  lifetimes = 1;
  outlives = [];
  ty_params = [];
  givens = 0;
  params = 3;
  locals = local answer value_local ∷ local ref value_local ∷ local τ₁ value_local ∷ local τ₂ value_local ∷ local result value_local ∷ local state value_local ∷ local state value_local ∷ [];
  body = seq (assign (place 5 []) (rv_opd (copy (place 1 (deref state ∷ []))))) (seq (call f (copy (place 5 []) ∷ copy (place 2 []) ∷ copy (place 3 []) ∷ []) (place 4 [])) (seq (assign (place 6 []) (rv_opd (copy (place 4 (field 1 ∷ []))))) (seq (assign (place 1 (deref state ∷ [])) (rv_opd (copy (place 6 [])))) (seq (assign (place 0 []) (rv_opd (copy (place 4 (field 0 ∷ []))))) return))));
}

module _ (S P G X₁ X₂ : RattleType) where
  abbrev pub answers₂_ended : Ended
  answers₂_ended = record { signature = record { lifetimes = 1; outlives = []; params = mut_ref_to (0 ∷ []) tt (plain (λ κs. S)) ∷ plain (λ κs. X₁) ∷ plain (λ κs. X₂) ∷ []; result = plain (λ κs. P) }; kept = (yes, (yes, (yes, tt))) }

  abbrev pub answers₂_value_ended : Ended
  answers₂_value_ended = record { signature = record { lifetimes = 0; outlives = []; params = plain (λ κs. S) ∷ plain (λ κs. X₁) ∷ plain (λ κs. X₂) ∷ []; result = plain (λ κs. G) }; kept = (yes, (yes, (yes, tt))) }

module _ (S P G X₁ X₂ : RattleType) {M : Type 1} {𝓤 : Ura M} (𝓛 : Logic 𝓤) (D : Data 𝓛 S) (E : Data 𝓛 P) (D₁ : Data 𝓛 X₁) (D₂ : Data 𝓛 X₂) (pr : Pair 𝓛 D E G) (Req : S.Denot → X₁.Denot → X₂.Denot → SProp 𝓤) (Ens : S.Denot → X₁.Denot → X₂.Denot → S.Denot → P.Denot → Type 0) where
  -- the contract of the lent call, and of the by-value one
  open 𝓛 use {H, A}

  abbrev pub answers₂_clauses : Clauses 𝓤 (answers₂_ended S P G X₁ X₂)
  answers₂_clauses κs a = record { ghost = Unit {0}; requires = λ g. Req a.0.now a.1.0 a.1.1.0; ensures = λ g r end. fact 𝓤 (Ens a.0.now a.1.0 a.1.1.0 end.0.now r) }

  abbrev pub answers₂_value_clauses : Clauses 𝓤 (answers₂_value_ended S P G X₁ X₂)
  answers₂_value_clauses κs a = record { ghost = Unit {0}; requires = λ g. Req a.0 a.1.0 a.1.1.0; ensures = λ g r end. fact 𝓤 (Ens a.0 a.1.0 a.1.1.0 (pr.state r) (pr.answer r)) }

  abbrev answers₂_value : Contract 𝓤
  answers₂_value = triple_of 𝓛 (answers₂_value_ended S P G X₁ X₂).signature (closing 𝓛 (answers₂_value_ended S P G X₁ X₂) answers₂_value_clauses)

  module _ where
    abbrev answers₂_stayed : Stays (answers₂_ended S P G X₁ X₂).signature.params (answers₂_ended S P G X₁ X₂).kept
    answers₂_stayed = (stay_ref (0 ∷ []) tt (plain (λ κs. S)), (stay_none (λ κs. X₁) yes, (stay_none (λ κs. X₂) yes, tt)))

    module _ (κ : Lft) (q : Share) (b o : ℕ) (γ : GName) (h : S.Denot) (x₁ : X₁.Denot) (x₂ : X₂.Denot) (x₁-is : Is X₁ x₁ (D₁.mach x₁ ∷ [])) (x₂-is : Is X₂ x₂ (D₂.mach x₂ ∷ [])) where
      abbrev answers₂_passed : MutBor S.Denot × (X₁.Denot × (X₂.Denot × Unit {0}))
      answers₂_passed = (record { ref_ptr = (b, o); ghost_name = γ; now = h }, (x₁, (x₂, tt)))

      abbrev answers₂_at : List Val × (List Val × (List Val × Unit {0}))
      answers₂_at = (vptr b o ∷ [], (D₁.mach x₁ ∷ [], (D₂.mach x₂ ∷ [], tt)))

      abbrev answers₂_post : Val → SProp 𝓤
      answers₂_post = (walk_of 𝓛 (answers₂_ended S P G X₁ X₂) answers₂_stayed answers₂_clauses).post (((κ, tt), (q, tt), tt, answers₂_passed, answers₂_at), tt)

      answers₂_exits : (r : G.Denot) → Ens h x₁ x₂ (pr.state r) (pr.answer r) → Is P (pr.answer r) (E.mach (pr.answer r) ∷ []) → ent 𝓤 (sep 𝓤 (A.obs γ (S.coded.code (pr.state r))) (sep 𝓤 (A.bor κ (Body (mem S) b o γ)) (A.lft κ q))) (answers₂_post (E.mach (pr.answer r)))
      answers₂_exits r e ps =
          qed 𝓛 (‵ (fobs γ (S.coded.code (pr.state r))) ∷ ‵ (fbor κ (Body (mem S) b o γ)) ∷ ‵ (flft κ q) ∷ []) ∵
          suffices ! _ (ends_at 𝓛 (answers₂_ended S P G X₁ X₂) answers₂_stayed answers₂_clauses (((κ, tt), (q, tt), tt, answers₂_passed, answers₂_at), tt) (E.mach (pr.answer r)) (pr.answer r) ((pr.state r), (D₁.last x₁, (D₂.last x₂, tt))) (tt, (tt, (tt, tt)))) $
          says ! e $ nothing ! $ move ! (3 ∷ 0 ∷ []) $ join ! $ frame ! $ feq_i ! (List Val) (vptr b o ∷ []) (vptr b o ∷ []) refl $ fjoin3 ! $
          nothing ! $ owned ! X₂ (Is X₂) D₂.makes x₂ _ x₂-is $ fjoin ! $ owned ! X₁ (Is X₁) D₁.makes x₁ _ x₁-is $ fjoin ! $ move ! (1 ∷ 0 ∷ []) $ fjoin ! $ owned ! P (Is P) E.makes (pr.answer r) _ ps $ move ! (1 ∷ 0 ∷ []) $ done !

      abbrev answers₂_called : answers₂_value.Ghost
      answers₂_called = ((tt, tt, tt, (h, (x₁, (x₂, tt))), (D.mach h ∷ [], (D₁.mach x₁ ∷ [], (D₂.mach x₂ ∷ [], tt)))), tt)

      answers₂_calls : Is S h (D.mach h ∷ []) → ent 𝓤 (Req h x₁ x₂) (answers₂_value.pre answers₂_called)
      answers₂_calls is = qed 𝓛 (raw (Req h x₁ x₂) ∷ []) ∵ nothing ! $ owned ! X₂ (Is X₂) D₂.makes x₂ _ x₂-is $ fjoin ! $ owned ! X₁ (Is X₁) D₁.makes x₁ _ x₁-is $ fjoin ! $ owned ! S (Is S) D.makes h _ is $ fjoin ! $ nothing ! $ join ! $ frame ! $ done !

      answers₂_hears : (r : G.Denot) → ent 𝓤 (ensured 𝓛 (answers₂_value_ended S P G X₁ X₂) answers₂_value_clauses tt (h, (x₁, (x₂, tt))) tt r) (fact 𝓤 (Ens h x₁ x₂ (pr.state r) (pr.answer r)))
      answers₂_hears r = ex_e 𝓤 _ (λ ws. snd∗ 𝓤 (sem 𝓛 (lasts (answers₂_value_ended S P G X₁ X₂) tt (h, (x₁, (x₂, tt))) ws)) (fact 𝓤 (Ens h x₁ x₂ (pr.state r) (pr.answer r))))

      module _ (C : Calls 𝓤 H) (Λ : Loops 𝓤 H) (fm : FmC 𝓤 H 𝓛.laws C) (f : Callee) (known : Triple 𝓤 (C f) answers₂_value) where
        answers₂_walk : ent 𝓤 (sep 𝓤 (on_entry 𝓛 (answers₂_ended S P G X₁ X₂).signature (κ, tt) (q, tt) answers₂_passed answers₂_at) (Req h x₁ x₂)) (WpFn 𝓤 H C Λ (answers₂_fn (ty_ref (named 0) mut (pointee S.written)) (lone S.mir) (ty_struct pr.name (tcons (lone P.mir) (tcons (lone S.mir) tnil))) (lone P.mir) (lone X₁.mir) (lone X₂.mir) f) (vptr b o ∷ D₁.mach x₁ ∷ D₂.mach x₂ ∷ []) answers₂_post)
        answers₂_walk =
            qed 𝓛 (((‵ (flft κ q) ⊛ ‵ ftrue) ⊛ ‵ (owns (MutRef (named 0) κ S ∷ X₁ ∷ X₂ ∷ []) answers₂_passed answers₂_at)) ∷ raw (Req h x₁ x₂) ∷ []) ∵ split ! $ split ! $ move ! (2 ∷ []) $ fsplit ! $ fsplit3 ! $ drop ! $ keep ! (0 ∷ 1 ∷ 3 ∷ 5 ∷ []) $
            enter ! C Λ (answers₂_fn (ty_ref (named 0) mut (pointee S.written)) (lone S.mir) (ty_struct pr.name (tcons (lone P.mir) (tcons (lone S.mir) tnil))) (lone P.mir) (lone X₁.mir) (lone X₂.mir) f) (vptr b o ∷ D₁.mach x₁ ∷ D₂.mach x₂ ∷ []) _ $
            alloc1 ! (λ l₀. alloc1 ! (λ l₁. alloc1 ! (λ l₂. alloc1 ! (λ l₃. alloc1 ! (λ l₄. alloc1 ! (λ l₅. alloc1 ! (λ l₆. alloc0 ! $ params1 ! $ pass1 ! (init ! 10 refl (tt, tt)) $ pass1 ! (init ! 8 refl (D₁.typed x₁ x₁-is)) $ pass1 ! (init ! 6 refl (D₂.typed x₂ x₂-is)) $ pass0 ! $
            move ! (14 ∷ 15 ∷ 16 ∷ []) $ open_ref ! tt (mem S) {b = b} {o = o} $
            use1 𝓛 (given (Is S h (D.mach h ∷ [])) (‵ (fat full_share (lone S.mir) b o (D.mach h)))) (cell_of 𝓛 S D full_share h b o) $ learn ! (λ is.
            -- [the cell; the open borrow; obs; auth; the locals, the last first; the requires]
            assigns ! (of_opd ! (load ! (from ! (hop ! (look ! 14 refl) (stop !))) (look ! 0 refl))) (from ! (stop !)) (init ! 6 refl (D.typed h is)) $
            move ! (18 ∷ []) $ use1 𝓛 (raw (answers₂_value.pre answers₂_called)) (answers₂_calls is) $
            calls_from ! fm (raw (answers₂_value.pre answers₂_called)) (D.mach h ∷ D₁.mach x₁ ∷ D₂.mach x₂ ∷ []) (answers₂_value.post answers₂_called) (known answers₂_called) (and_then ! (load ! (from ! (stop !)) (look ! 7 refl)) (and_then ! (load ! (from ! (stop !)) (look ! 13 refl)) (and_then ! (load ! (from ! (stop !)) (look ! 11 refl)) (no_more !)))) (λ v.
            use1 𝓛 (later (some (λ (r : G.Denot). (‵ ftrue ⊛ ‵ (G.own_val r (v ∷ []))) ⊛ raw (ensured 𝓛 (answers₂_value_ended S P G X₁ X₂) answers₂_value_clauses tt (h, (x₁, (x₂, tt))) tt r)))) (id⊢ 𝓤 _) $ await ! tt $ pick ! (λ r.
            split ! $ move ! (1 ∷ []) $ use1 𝓛 (raw (fact 𝓤 (Ens h x₁ x₂ (pr.state r) (pr.answer r)))) (answers₂_hears r) $ heard ! (Ens h x₁ x₂ (pr.state r) (pr.answer r)) (λ e. split ! $ drop ! $
            peeks ! G (Is G) (shows 𝓛 G) r (v ∷ []) (λ gs.
            land ! (from ! (stop !)) (init ! 9 refl (pr.typed r v gs)) $ drop ! $
            rewrite ! 8 (λ (w : Val). ‵ (fat full_share (ty_struct pr.name (tcons (lone P.mir) (tcons (lone S.mir) tnil))) l₄ 0 w)) (pr.laid r v gs) refl $
            assigns ! (of_opd ! (load ! (from ! (fld ! refl (stop !))) (look_in ! 8 (sub ! 1 refl (whole !))))) (from ! (stop !)) (init ! 4 refl (D.typed (pr.state r) (pr.state_is r v gs))) $
            assigns ! (of_opd ! (load ! (from ! (stop !)) (look ! 4 refl))) (from ! (hop ! (look ! 14 refl) (stop !))) (store ! 0 refl (D.typed (pr.state r) (pr.state_is r v gs))) $
            assigns ! (of_opd ! (load ! (from ! (fld ! refl (stop !))) (look_in ! 8 (sub ! 0 refl (whole !))))) (from ! (stop !)) (init ! 16 refl (E.typed (pr.answer r) (pr.answer_is r v gs))) $
            use1 𝓛 (‵ (part_at S full_share (pr.state r) b o)) (of_cell 𝓛 S D full_share (pr.state r) b o (pr.state_is r v gs)) $ close_ref ! tt (mem S) (pr.state r) {b = b} {o = o} $
            -- [obs; the borrow; the token; the locals]
            returns ! (look ! 15 refl) $ forget ! 15 refl $ forget ! 13 refl $ forget ! 11 refl $ forget ! 9 refl $ forget ! 7 refl $ forget ! 5 refl $ forget ! 3 refl $
            move ! (15 ∷ 16 ∷ []) $ free1 ! $ move ! (13 ∷ 14 ∷ []) $ free1 ! $ move ! (11 ∷ 12 ∷ []) $ free1 ! $ move ! (9 ∷ 10 ∷ []) $ free1 ! $ move ! (7 ∷ 8 ∷ []) $ free1 ! $ move ! (5 ∷ 6 ∷ []) $ free1 ! $ move ! (3 ∷ 4 ∷ []) $ free1 ! $ free0 ! $
            keep ! (0 ∷ 1 ∷ 2 ∷ []) $ by ! (answers₂_exits r e (pr.answer_is r v gs))))))))))))))

    answers₂_goes : AllGo 𝓛 1 (answers₂_ended S P G X₁ X₂).signature.params (answers₂_ended S P G X₁ X₂).kept answers₂_stayed
    answers₂_goes = (Goes-ref 𝓛 1 0 tt (plain (λ κs. S)), (Goes-none 𝓛 1 (λ κs. X₁) yes (λ κs. D₁.silent), (Goes-none 𝓛 1 (λ κs. X₂) yes (λ κs. D₂.silent), tt)))

    answers₂_walks : (C : Calls 𝓤 H) (Λ : Loops 𝓤 H) → FmC 𝓤 H 𝓛.laws C → (f : Callee) → Triple 𝓤 (C f) answers₂_value → Walks 𝓛 (answers₂_ended S P G X₁ X₂) answers₂_stayed (WpFn 𝓤 H C Λ (answers₂_fn (ty_ref (named 0) mut (pointee S.written)) (lone S.mir) (ty_struct pr.name (tcons (lone P.mir) (tcons (lone S.mir) tnil))) (lone P.mir) (lone X₁.mir) (lone X₂.mir) f)) answers₂_clauses
    answers₂_walks C Λ fm f known = walked 𝓛 (answers₂_ended S P G X₁ X₂) answers₂_stayed answers₂_clauses (WpFn 𝓤 H C Λ (answers₂_fn (ty_ref (named 0) mut (pointee S.written)) (lone S.mir) (ty_struct pr.name (tcons (lone P.mir) (tcons (lone S.mir) tnil))) (lone P.mir) (lone X₁.mir) (lone X₂.mir) f)) (λ κs. (mut_vals, (λ y. D₁.mach y ∷ [], (λ y. D₂.mach y ∷ [], tt)))) (λ κs. (mut_Tells (named 0) κs.0 S, (D₁.tells, (D₂.tells, tt))))
        (λ κs qs bounds a g are. answers₂_walk κs.0 qs.0 a.0.ref_ptr.0 a.0.ref_ptr.1 a.0.ghost_name a.0.now a.1.0 a.1.1.0 are.1.0 are.1.1.0 C Λ fm f known)

    pub answers₂ : (𝓣 : Tables 𝓤 H) (f : Callee) → Triple 𝓤 (𝓣.C f) answers₂_value
        → Meets 𝓛 (answers₂_ended S P G X₁ X₂).signature (WpFn 𝓤 H 𝓣.C 𝓣.Λ (answers₂_fn (ty_ref (named 0) mut (pointee S.written)) (lone S.mir) (ty_struct pr.name (tcons (lone P.mir) (tcons (lone S.mir) tnil))) (lone P.mir) (lone X₁.mir) (lone X₂.mir) f)) (closing 𝓛 (answers₂_ended S P G X₁ X₂) answers₂_clauses)
    answers₂ 𝓣 f known = walk_Meets 𝓛 (answers₂_ended S P G X₁ X₂) answers₂_stayed answers₂_goes answers₂_clauses (WpFn 𝓤 H 𝓣.C 𝓣.Λ (answers₂_fn (ty_ref (named 0) mut (pointee S.written)) (lone S.mir) (ty_struct pr.name (tcons (lone P.mir) (tcons (lone S.mir) tnil))) (lone P.mir) (lone X₁.mir) (lone X₂.mir) f)) (WpFn-mono 𝓤 H 𝓛.laws 𝓣 (answers₂_fn (ty_ref (named 0) mut (pointee S.written)) (lone S.mir) (ty_struct pr.name (tcons (lone P.mir) (tcons (lone S.mir) tnil))) (lone P.mir) (lone X₁.mir) (lone X₂.mir) f)) (answers₂_walks 𝓣.C 𝓣.Λ (fm_of 𝓤 H 𝓛.laws 𝓣) f known)

-- ---- a call that only reads, with 1 argument
abbrev pub reads₁_fn : (ref state answer τ₁ : Ty) (f : Callee) → Fn
reads₁_fn ref state answer τ₁ f = record {
  lifetimes = 1;
  outlives = [];
  ty_params = [];
  givens = 0;
  params = 2;
  locals = local answer value_local ∷ local ref value_local ∷ local τ₁ value_local ∷ local state value_local ∷ [];
  body = seq (assign (place 3 []) (rv_opd (copy (place 1 (deref state ∷ []))))) (seq (call f (copy (place 3 []) ∷ copy (place 2 []) ∷ []) (place 0 [])) return);
}

module _ (S P X₁ : RattleType) where
  abbrev pub reads₁_ended : Ended
  reads₁_ended = record { signature = record { lifetimes = 1; outlives = []; params = shr_ref_to (0 ∷ []) tt (plain (λ κs. S)) ∷ plain (λ κs. X₁) ∷ []; result = plain (λ κs. P) }; kept = (yes, (yes, tt)) }

  abbrev pub reads₁_value_ended : Ended
  reads₁_value_ended = record { signature = record { lifetimes = 0; outlives = []; params = plain (λ κs. S) ∷ plain (λ κs. X₁) ∷ []; result = plain (λ κs. P) }; kept = (yes, (yes, tt)) }

module _ (S P X₁ : RattleType) {M : Type 1} {𝓤 : Ura M} (𝓛 : Logic 𝓤) (D : Data 𝓛 S) (op : Opens 𝓛 S) (E : Data 𝓛 P) (D₁ : Data 𝓛 X₁) (Req : S.Denot → X₁.Denot → SProp 𝓤) (Ens : S.Denot → X₁.Denot → P.Denot → Type 0) where
  open 𝓛 use {H, A}

  abbrev pub reads₁_clauses : Clauses 𝓤 (reads₁_ended S P X₁)
  reads₁_clauses κs a = record { ghost = Unit {0}; requires = λ g. Req a.0.now a.1.0; ensures = λ g r end. fact 𝓤 (Ens a.0.now a.1.0 r) }

  abbrev pub reads₁_value_clauses : Clauses 𝓤 (reads₁_value_ended S P X₁)
  reads₁_value_clauses κs a = record { ghost = Unit {0}; requires = λ g. Req a.0 a.1.0; ensures = λ g r end. fact 𝓤 (Ens a.0 a.1.0 r) }

  abbrev reads₁_value : Contract 𝓤
  reads₁_value = triple_of 𝓛 (reads₁_value_ended S P X₁).signature (closing 𝓛 (reads₁_value_ended S P X₁) reads₁_value_clauses)

  module _ where
    abbrev reads₁_stayed : Stays (reads₁_ended S P X₁).signature.params (reads₁_ended S P X₁).kept
    reads₁_stayed = (stay_none_ref (0 ∷ []) tt (plain (λ κs. S)) yes, (stay_none (λ κs. X₁) yes, tt))

    module _ (κ : Lft) (q : Share) (b o : ℕ) (h : S.Denot) (x₁ : X₁.Denot) (x₁-is : Is X₁ x₁ (D₁.mach x₁ ∷ [])) where
      abbrev reads₁_passed : Bor S.Denot × (X₁.Denot × Unit {0})
      reads₁_passed = (record { ref_ptr = (b, o); now = h }, (x₁, tt))

      abbrev reads₁_at : List Val × (List Val × Unit {0})
      reads₁_at = (vptr b o ∷ [], (D₁.mach x₁ ∷ [], tt))

      abbrev reads₁_post : Val → SProp 𝓤
      reads₁_post = (walk_of 𝓛 (reads₁_ended S P X₁) reads₁_stayed reads₁_clauses).post (((κ, tt), (q, tt), tt, reads₁_passed, reads₁_at), tt)

      reads₁_exits : (r : P.Denot) → Ens h x₁ r → Is P r (E.mach r ∷ []) → ent 𝓤 (sep 𝓤 (A.lft κ q) (sem 𝓛 (hidden_shr S κ h b o))) (reads₁_post (E.mach r))
      reads₁_exits r e ps =
          qed 𝓛 (‵ (flft κ q) ∷ ‵ (hidden_shr S κ h b o) ∷ []) ∵
          suffices ! _ (ends_at 𝓛 (reads₁_ended S P X₁) reads₁_stayed reads₁_clauses (((κ, tt), (q, tt), tt, reads₁_passed, reads₁_at), tt) (E.mach r) r (tt, (D₁.last x₁, tt)) (tt, (tt, tt))) $
          says ! e $ nothing ! $ move ! (1 ∷ 0 ∷ []) $ join ! $ frame ! $ feq_i ! (List Val) (vptr b o ∷ []) (vptr b o ∷ []) refl $ fjoin ! $
          nothing ! $ owned ! X₁ (Is X₁) D₁.makes x₁ _ x₁-is $ fjoin ! $ move ! (1 ∷ 0 ∷ []) $ fjoin ! $ frame ! $ owned ! P (Is P) E.makes r _ ps $ done !

      abbrev reads₁_called : reads₁_value.Ghost
      reads₁_called = ((tt, tt, tt, (h, (x₁, tt)), (D.mach h ∷ [], (D₁.mach x₁ ∷ [], tt))), tt)

      reads₁_calls : Is S h (D.mach h ∷ []) → ent 𝓤 (Req h x₁) (reads₁_value.pre reads₁_called)
      reads₁_calls is = qed 𝓛 (raw (Req h x₁) ∷ []) ∵ nothing ! $ owned ! X₁ (Is X₁) D₁.makes x₁ _ x₁-is $ fjoin ! $ owned ! S (Is S) D.makes h _ is $ fjoin ! $ nothing ! $ join ! $ frame ! $ done !

      reads₁_hears : (r : P.Denot) → ent 𝓤 (ensured 𝓛 (reads₁_value_ended S P X₁) reads₁_value_clauses tt (h, (x₁, tt)) tt r) (fact 𝓤 (Ens h x₁ r))
      reads₁_hears r = ex_e 𝓤 _ (λ ws. snd∗ 𝓤 (sem 𝓛 (lasts (reads₁_value_ended S P X₁) tt (h, (x₁, tt)) ws)) (fact 𝓤 (Ens h x₁ r)))

      module _ (C : Calls 𝓤 H) (Λ : Loops 𝓤 H) (fm : FmC 𝓤 H 𝓛.laws C) (f : Callee) (known : Triple 𝓤 (C f) reads₁_value) where
        reads₁_walk : ent 𝓤 (sep 𝓤 (on_entry 𝓛 (reads₁_ended S P X₁).signature (κ, tt) (q, tt) reads₁_passed reads₁_at) (Req h x₁)) (WpFn 𝓤 H C Λ (reads₁_fn (ty_ref (named 0) imm (pointee S.written)) (lone S.mir) (lone P.mir) (lone X₁.mir) f) (vptr b o ∷ D₁.mach x₁ ∷ []) reads₁_post)
        reads₁_walk =
            qed 𝓛 (((‵ (flft κ q) ⊛ ‵ ftrue) ⊛ ‵ (owns (ShrRef (named 0) κ S ∷ X₁ ∷ []) reads₁_passed reads₁_at)) ∷ raw (Req h x₁) ∷ []) ∵ split ! $ split ! $ move ! (2 ∷ []) $ fsplit ! $ fsplit ! $ drop ! $ keep ! (0 ∷ 2 ∷ 4 ∷ []) $
            enter ! C Λ (reads₁_fn (ty_ref (named 0) imm (pointee S.written)) (lone S.mir) (lone P.mir) (lone X₁.mir) f) (vptr b o ∷ D₁.mach x₁ ∷ []) _ $
            alloc1 ! (λ l₀. alloc1 ! (λ l₁. alloc1 ! (λ l₂. alloc1 ! (λ l₃. alloc0 ! $ params1 ! $ pass1 ! (init ! 4 refl (tt, tt)) $ pass1 ! (init ! 2 refl (D₁.typed x₁ x₁-is)) $ pass0 ! $
            move ! (8 ∷ 9 ∷ []) $ twice_dup ! (shared_of S h b o) (op h b o).1 κ $ move ! (0 ∷ 2 ∷ []) $ shr_open ! tt (λ s. part_at S s h b o) (shared_of S h b o) (op h b o).0 (λ q'. move ! (1 ∷ []) $
            use1 𝓛 (given (Is S h (D.mach h ∷ [])) (‵ (fat q' (lone S.mir) b o (D.mach h)))) (cell_of 𝓛 S D q' h b o) $ learn ! (λ is.
            -- [a share of the cell; what shuts it; what the `&` holds; the locals, the last first; the requires]
            assigns ! (of_opd ! (load ! (from ! (hop ! (look ! 7 refl) (stop !))) (look ! 0 refl))) (from ! (stop !)) (init ! 3 refl (D.typed h is)) $
            use1 𝓛 (‵ (part_at S q' h b o)) (of_cell 𝓛 S D q' h b o is) $ move ! (1 ∷ []) $ shr_Shut ! tt $
            -- [the token; what the `&` holds; the locals; the requires]
            move ! (10 ∷ []) $ use1 𝓛 (raw (reads₁_value.pre reads₁_called)) (reads₁_calls is) $
            calls_from ! fm (raw (reads₁_value.pre reads₁_called)) (D.mach h ∷ D₁.mach x₁ ∷ []) (reads₁_value.post reads₁_called) (known reads₁_called) (and_then ! (load ! (from ! (stop !)) (look ! 3 refl)) (and_then ! (load ! (from ! (stop !)) (look ! 5 refl)) (no_more !))) (λ v.
            use1 𝓛 (later (some (λ (r : P.Denot). (‵ ftrue ⊛ ‵ (P.own_val r (v ∷ []))) ⊛ raw (ensured 𝓛 (reads₁_value_ended S P X₁) reads₁_value_clauses tt (h, (x₁, tt)) tt r)))) (id⊢ 𝓤 _) $ await ! tt $ pick ! (λ r.
            split ! $ move ! (1 ∷ []) $ use1 𝓛 (raw (fact 𝓤 (Ens h x₁ r))) (reads₁_hears r) $ heard ! (Ens h x₁ r) (λ e. split ! $ drop ! $
            peeks ! P (Is P) (shows 𝓛 P) r (v ∷ []) (λ gs.
            land ! (from ! (stop !)) (init ! 9 refl (told_typed 𝓛 P E r v gs)) $ drop ! $
            rewrite ! 8 (λ (w : Val). ‵ (fat full_share (lone P.mir) l₀ 0 w)) (ap only (E.tells r (v ∷ []) gs)) refl $
            returns ! (look ! 8 refl) $ forget ! 8 refl $ forget ! 6 refl $ forget ! 4 refl $ forget ! 2 refl $
            move ! (8 ∷ 9 ∷ []) $ free1 ! $ move ! (6 ∷ 7 ∷ []) $ free1 ! $ move ! (4 ∷ 5 ∷ []) $ free1 ! $ move ! (2 ∷ 3 ∷ []) $ free1 ! $ free0 ! $
            keep ! (0 ∷ 1 ∷ []) $ by ! (reads₁_exits r e (told 𝓛 P E r v gs))))))))))))

    reads₁_goes : AllGo 𝓛 1 (reads₁_ended S P X₁).signature.params (reads₁_ended S P X₁).kept reads₁_stayed
    reads₁_goes = (Goes-none_ref 𝓛 1 (0 ∷ []) tt (plain (λ κs. S)) yes, (Goes-none 𝓛 1 (λ κs. X₁) yes (λ κs. D₁.silent), tt))

    reads₁_walks : (C : Calls 𝓤 H) (Λ : Loops 𝓤 H) → FmC 𝓤 H 𝓛.laws C → (f : Callee) → Triple 𝓤 (C f) reads₁_value → Walks 𝓛 (reads₁_ended S P X₁) reads₁_stayed (WpFn 𝓤 H C Λ (reads₁_fn (ty_ref (named 0) imm (pointee S.written)) (lone S.mir) (lone P.mir) (lone X₁.mir) f)) reads₁_clauses
    reads₁_walks C Λ fm f known = walked 𝓛 (reads₁_ended S P X₁) reads₁_stayed reads₁_clauses (WpFn 𝓤 H C Λ (reads₁_fn (ty_ref (named 0) imm (pointee S.written)) (lone S.mir) (lone P.mir) (lone X₁.mir) f)) (λ κs. (shr_vals, (λ y. D₁.mach y ∷ [], tt))) (λ κs. (shr_Tells (named 0) κs.0 S, (D₁.tells, tt)))
        (λ κs qs bounds a g are. reads₁_walk κs.0 qs.0 a.0.ref_ptr.0 a.0.ref_ptr.1 a.0.now a.1.0 are.1.0 C Λ fm f known)

    pub reads₁ : (𝓣 : Tables 𝓤 H) (f : Callee) → Triple 𝓤 (𝓣.C f) reads₁_value
        → Meets 𝓛 (reads₁_ended S P X₁).signature (WpFn 𝓤 H 𝓣.C 𝓣.Λ (reads₁_fn (ty_ref (named 0) imm (pointee S.written)) (lone S.mir) (lone P.mir) (lone X₁.mir) f)) (closing 𝓛 (reads₁_ended S P X₁) reads₁_clauses)
    reads₁ 𝓣 f known = walk_Meets 𝓛 (reads₁_ended S P X₁) reads₁_stayed reads₁_goes reads₁_clauses (WpFn 𝓤 H 𝓣.C 𝓣.Λ (reads₁_fn (ty_ref (named 0) imm (pointee S.written)) (lone S.mir) (lone P.mir) (lone X₁.mir) f)) (WpFn-mono 𝓤 H 𝓛.laws 𝓣 (reads₁_fn (ty_ref (named 0) imm (pointee S.written)) (lone S.mir) (lone P.mir) (lone X₁.mir) f)) (reads₁_walks 𝓣.C 𝓣.Λ (fm_of 𝓤 H 𝓛.laws 𝓣) f known)
