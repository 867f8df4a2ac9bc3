-- Sums over the objects of a desk: for any weight that does not read an object's life, no call but an add makes the sum larger.
use mathlib.Core.Path.{◌≡◌, refl, sym, ap, ◌∙◌}
use mathlib.Core.Bool.{Bool, true, false, not, ◌&&◌}
use Rattle.std.specs.Prelude.{Option, None, Some}
use mathlib.Core.List.{List, [], ◌∷◌, ◌++◌, map}
use Prim.Native.Nat.{ℕ, zero, suc, ◌+◌, ◌≤◌}
use native.Mathlib.Omega.{arith}
use lib.Dec.{eqb}
use lib.ListN.{length, set}
use Rattle.sizes.specs.Words.{when◌then◌else◌, maybe, given, keep, at, find, drop_first, times, one_if, collect}
use Rattle.sizes.specs.declared.refusal.Refusal.TheVariants as Because
use Rattle.sizes.proofs.Tests.{none≢some}
use Rattle.lifecycle.specs.Lifecycle.{Life, announced, expired, finished, started}
use Rattle.lifecycle.specs.Setup.{Setup}
use Rattle.definition.specs.FdtSession.{fdt_published, fdt_run}
use Rattle.definition.specs.Session.{Object, Hand, Session, living, startable, begin, put_back, Turn, sent, file_run}
use Rattle.definition.specs.Desk.{Desk, Request, Call, Answer, opening, in_hands, objects, moved, numbered, with_fdt, in_hand, marked, marked_hand, all_published, reserved, toi_for, made, admitted, reserve_refusal, release_refusal, add_refusal, publish_refusal, draft_refusal, draft_of, ran, fdt_queued, fdt_ran, step, Touch, touched_waiting, touched_hand, touched}
use Rattle.definition.specs.Apart.{adding}
use Rattle.definition.proofs.Refused.{either, kept}
use Rattle.definition.proofs.Touches.{Waiting, gone, lives, touched_kept, touched_hand_kept}
use Rattle.definition.proofs.Runs.{run_goes}

-- ---- sums over lists

module _ {A : Type 0} where
  -- the sum of a weight over a list
  abbrev pub total : (A → ℕ) → List A → ℕ
  total w [] = 0
  total w (a ∷ l) = w a + total w l

module _ {A : Type 0} (w : A → ℕ) where
  pub total_append : (a b : List A) → total w (a ++ b) ≡ total w a + total w b
  total_append [] b = omega arith
  total_append (x ∷ a) b = let h = total_append a b in omega arith

  pub total_keep : (ok : A → Bool) (l : List A) → total w (keep ok l) ≤ total w l
  total_keep ok [] = omega arith
  total_keep ok (a ∷ l) = elim (ok a) as (λ t. total w (when t then a ∷ keep ok l else keep ok l) ≤ w a + total w l)
      [ true ↦ (let h = total_keep ok l in omega arith) | false ↦ (let h = total_keep ok l in omega arith) ]

  pub total_map : (f : A → A) → ((a : A) → w (f a) ≡ w a) → (l : List A) → total w (map f l) ≡ total w l
  total_map f h [] = refl
  total_map f h (a ∷ l) = let e = h a in let r = total_map f h l in omega arith

  -- the first that passes is taken out
  pub total_take : (ok : A → Bool) (l : List A) (a : A) → find ok l ≡ Some a → total w (drop_first ok l) + w a ≡ total w l
  total_take ok [] a e = absurd (none≢some e)
  total_take ok (b ∷ l) a e = (elim (ok b) as (λ t. (when t then Some b else find ok l) ≡ Some a → total w (when t then l else b ∷ drop_first ok l) + w a ≡ w b + total w l) [
    | true ↦ λ e. (let s : b ≡ a = cc in let z = ap w s in omega arith)
    | false ↦ λ e. (let h = total_take ok l a e in omega arith)
  ]) e

-- a weight of what a map gives
pub total_over : {A B : Type 0} (v : B → ℕ) (f : A → B) (l : List A) → total v (map f l) ≡ total (λ a. v (f a)) l
total_over v f [] = refl
total_over v f (a ∷ l) = let h = total_over v f l in omega arith

-- how often a number stands in a list, and how many elements there are, are sums
pub total_times : (n : ℕ) (l : List ℕ) → total (λ m. one_if (eqb m n)) l ≡ times n l
total_times n [] = refl
total_times n (a ∷ l) = let h = total_times n l in omega arith

pub total_length : {A : Type 0} (l : List A) → total (λ a. 1) l ≡ length l
total_length [] = refl
total_length (a ∷ l) = let h = total_length l in omega arith

-- ---- sums over the objects of a desk

-- a call is an add, or it is none
pub data Sort (c : Call) : Type 0 where
  an_add : (named : Option ℕ) (q : Request) → c ≡ Call.add named q → Sort c
  another : adding c ≡ None → Sort c

pub sort_of : (c : Call) → Sort c
sort_of (Call.add named q) = an_add named q refl
sort_of Call.reserve = another refl
sort_of (Call.release t) = another refl
sort_of (Call.touch t x) = another refl
sort_of (Call.ask q) = another refl
sort_of Call.complete = another refl
sort_of (Call.publish now c) = another refl
sort_of (Call.run_fdt now draft) = another refl
sort_of (Call.run_file i now) = another refl

-- at set-up there is none
pub none_yet : (s : Setup) → objects (opening s) ≡ []
unfolding opening objects in_hands
none_yet s = empty s.priorities
  where
    empty : (l : List ℕ) → in_hands (map (λ p. record { priority = p; hand = None }) l) ≡ []
    empty [] = refl
    empty (p ∷ l) = empty l

module _ (w : Object → ℕ) where
  -- the weight of what a session has in hand
  abbrev load : Option Hand → ℕ
  load None = 0
  load (Some h) = w h.object

  -- of a queue and one session
  abbrev weight : Turn → ℕ
  weight r = total w r.queue + load r.hand

  hands_cons : (x : Session) (l : List Session) → total w (in_hands (x ∷ l)) ≡ load x.hand + total w (in_hands l)
  unfolding in_hands
  hands_cons x l =
      elim x.hand as (λ (h : Option Hand). total w (maybe (in_hands l) (λ b. b ∷ in_hands l) (maybe None (λ (h : Hand). Some h.object) h)) ≡ load h + total w (in_hands l))
      [ None ↦ omega arith | Some h ↦ refl ]

  hands_set : (l : List Session) (i : ℕ) (x y : Session) → at l i ≡ Some x
      → total w (in_hands (set l i y)) + load x.hand ≡ total w (in_hands l) + load y.hand
  hands_set [] i x y e = absurd (none≢some e)
  hands_set (z ∷ l) zero x y e =
      let q : z ≡ x = cc in
      let a = hands_cons y l in
      let b = hands_cons z l in
      let c = ap (λ (u : Session). load u.hand) q in omega arith
  hands_set (z ∷ l) (suc i) x y e =
      let a = hands_cons z (set l i y) in
      let b = hands_cons z l in
      let c = hands_set l i x y e in omega arith

  hands_map : (f : Hand → Hand) → ((h : Hand) → w (f h).object ≡ w h.object) → (l : List Session) → total w (in_hands (map (in_hand f) l)) ≡ total w (in_hands l)
  unfolding in_hand
  hands_map f k [] = refl
  hands_map f k (x ∷ l) =
      let a = hands_cons (in_hand f x) (map (in_hand f) l) in
      let b = hands_cons x l in
      let c = hands_map f k l in
      let e = same x.hand in omega arith
    where
      same : (h : Option Hand) → load (maybe None (λ h. Some (f h)) h) ≡ load h
      same None = refl
      same (Some h) = k h

  pub total_objects : (d : Desk) → total w (objects d) ≡ total w d.queue + total w (in_hands d.sessions)
  unfolding objects
  total_objects d = total_append w d.queue (in_hands d.sessions)

  -- an add brings its object
  pub total_admitted : (s : Setup) (t : ℕ) (q : Request) (d : Desk) → total w (objects (admitted s t q d)) ≡ total w (objects d) + w (made s t q)
  unfolding admitted
  total_admitted s t q d =
      let a = total_objects (admitted s t q d) in
      let b = total_objects d in
      let c = total_append w d.queue (made s t q ∷ []) in omega arith

  -- whether it names a reservation or not
  pub total_reserved : (s : Setup) (d : Desk) (named : Option ℕ) → total w (objects (when given named then d else reserved s d)) ≡ total w (objects d)
  unfolding reserved numbered objects
  total_reserved s d None = refl
  total_reserved s d (Some t) = refl

  moved_lighter : (d : Desk) (q : List Object) (l : List Session)
      → total w q + total w (in_hands l) ≤ total w d.queue + total w (in_hands d.sessions) → total w (objects (moved d q l)) ≤ total w (objects d)
  unfolding moved
  moved_lighter d q l h = let a = total_objects d in let b = total_objects (moved d q l) in omega arith

  module _ (stable : (x : Life) (o : Object) → w (living x o) ≡ w o) where
    back_weight : (now : ℕ) (h : Hand) (q : List Object) → total w (put_back now h q) ≤ total w q + w h.object
    unfolding put_back
    back_weight now h q =
        let o = living (finished now h.object.life) h.object in
        either (λ x. total w x ≤ total w q + w h.object) (h.listed && not (expired o.plan o.life)) (q ++ (o ∷ [])) q
        (let a = total_append w q (o ∷ []) in let b = stable (finished now h.object.life) h.object in omega arith) (omega arith)

    -- a turn keeps or drops objects, and makes none
    file_run_weight : (s : Setup) (p now : ℕ) (b : Bool) (q : List Object) (h : Option Hand) → weight (file_run s p now b q h) ≤ total w q + load h
    unfolding sent begin
    file_run_weight s p now b q₀ h₀ = run_goes s p now b (λ q h. total w q + load h ≤ total w q₀ + load h₀) (λ t. weight t ≤ total w q₀ + load h₀) (record {
      rests = λ q h i. i;
      sends = λ q h y i. i;
      ends = λ q h i. (let a = back_weight now h q in omega arith);
      takes = λ q o e i. (let c = total_take w (startable p now) q o e in let k = stable (started o.plan now o.life) o in omega arith);
    }) q₀ h₀ (omega arith)

    published_lighter : (d : Desk) → total w (objects (all_published d)) ≤ total w (objects d)
    unfolding all_published marked marked_hand
    published_lighter d = moved_lighter d (map marked d.queue) (map (in_hand marked_hand) d.sessions) (
        let a = total_map w marked (λ o. stable (announced o.life) o) d.queue in
        let b = hands_map marked_hand same d.sessions in omega arith)
      where
        same : (h : Hand) → w (marked_hand h).object ≡ w h.object
        same h = either (λ (x : Hand). w x.object ≡ w h.object) h.listed _ h (stable (announced h.object.life) h.object) refl

    touched_same : (t : ℕ) (x : Touch) (h : Hand) → w (touched_hand t x h).object ≡ w h.object
    touched_same t x h = let k = touched_hand_kept t x h in ap w k.object ∙ stable k.life h.object

    touched_lighter : (g : Object → Option Object) → ((o : Object) → Waiting o (g o)) → (q : List Object) → total w (collect g q) ≤ total w q
    touched_lighter g k [] = omega arith
    touched_lighter g k (o ∷ q) = go (g o) (k o) (touched_lighter g k q)
      where
        go : (y : Option Object) → Waiting o y → total w (collect g q) ≤ total w q → total w (maybe (collect g q) (λ z. z ∷ collect g q) y) ≤ w o + total w q
        go y gone r = omega arith
        go y (lives l) r = let h = stable l o in omega arith

    -- a call that is no add makes no sum larger
    pub lighter : (s : Setup) (d : Desk) (c : Call) → adding c ≡ None → total w (objects (step s d c).1) ≤ total w (objects d)
    unfolding step reserved numbered touched ran fdt_ran with_fdt objects
    lighter s d Call.reserve k = kept (λ e. total w (objects e) ≤ total w (objects d)) (reserve_refusal d) d _ (omega arith) (λ e. omega arith)
    lighter s d (Call.release t) k = kept (λ e. total w (objects e) ≤ total w (objects d)) (release_refusal d t) d _ (omega arith) (λ e. omega arith)
    lighter s d (Call.add named q) k = absurd (none≢some (sym k))
    lighter s d (Call.touch t x) k = moved_lighter d (collect (touched_waiting t x) d.queue) (map (in_hand (touched_hand t x)) d.sessions) (
        let a = touched_lighter (touched_waiting t x) (touched_kept t x) d.queue in
        let b = hands_map (touched_hand t x) (touched_same t x) d.sessions in omega arith)
    lighter s d (Call.ask q) k = omega arith
    lighter s d Call.complete k = omega arith
    lighter s d (Call.publish now c) k = kept (λ e. total w (objects e) ≤ total w (objects d)) (publish_refusal s d.fdt c) d _ (omega arith)
        (λ e. published_lighter (with_fdt d (fdt_published now c d.fdt)))
    lighter s d (Call.run_fdt now draft) k =
        let r = fdt_run s now (draft_of draft) d.fdt in
        kept (λ e. total w (objects e) ≤ total w (objects d)) (draft_refusal s d.fdt draft) d _ (omega arith)
        (λ e. either (λ (x : Desk). total w (objects x) ≤ total w (objects d)) r.taken (all_published (with_fdt d r.fdt)) (with_fdt d r.fdt) (published_lighter (with_fdt d r.fdt)) (omega arith))
    lighter s d (Call.run_file i now) k = go (at d.sessions i) refl
      where
        go : (x : Option Session) → at d.sessions i ≡ x → total w (objects (maybe (Answer.refused Because.NoSession, d) (ran s now i d) x).1) ≤ total w (objects d)
        go None e = omega arith
        go (Some x) e =
            let r = file_run s x.priority now (fdt_queued d) d.queue x.hand in
            let y : Session = record { priority = x.priority; hand = r.hand } in
            moved_lighter d r.queue (set d.sessions i y) (
            let a = file_run_weight s x.priority now (fdt_queued d) d.queue x.hand in
            let b = hands_set d.sessions i x y e in omega arith)

    -- so a bound is kept, if what an add admits keeps it
    pub bound_step : (b : ℕ) (s : Setup) (d : Desk) (c : Call)
        → ((named : Option ℕ) (q : Request) → add_refusal s d named q ≡ None → total w (objects d) + w (made s (toi_for d named) q) ≤ b)
        → total w (objects d) ≤ b → total w (objects (step s d c).1) ≤ b
    unfolding step
    bound_step b s d c k u = go c (sort_of c)
      where
        add_bound : (named : Option ℕ) (q : Request) → total w (objects (step s d (Call.add named q)).1) ≤ b
        add_bound named q = kept (λ e. total w (objects e) ≤ b) (add_refusal s d named q) d _ u
            (λ e. let m = k named q e in let a = total_admitted s (toi_for d named) q (when given named then d else reserved s d) in let c = total_reserved s d named in omega arith)

        go : (c : Call) → Sort c → total w (objects (step s d c).1) ≤ b
        go c (an_add named q e) = rw e (add_bound named q)
        go c (another e) = let h = lighter s d c e in omega arith
