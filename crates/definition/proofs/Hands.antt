-- What sessions have in hand: at most a window of open blocks, and an object of the session's priority. The sessions stay those of the set-up.
use mathlib.Core.Path.{◌≡◌, refl, ap, subst, sym, ◌∙◌}
use mathlib.Core.Bool.{Bool, not, ◌||◌}
use Rattle.std.specs.Prelude.{Option, None, Some}
use mathlib.Core.List.{List, [], ◌∷◌, map}
use Prim.Native.Nat.{ℕ, zero, suc, ◌-◌, ◌≤◌, min}
use native.Mathlib.Omega.{arith}
use lib.Dec.{eqb}
use borrow.Author.Tests.{eqb-true}
use lib.ListN.{length, length-append, length-set}
use Rattle.sizes.specs.Words.{when◌then◌else◌, maybe, given, at, cut, Each}
use Rattle.sizes.specs.declared.refusal.Refusal.TheVariants as Because
use Rattle.sizes.specs.Partition.{blocks_of}
use Rattle.sizes.specs.declared.partition.Sizes.{Sizes}
use Rattle.sizes.specs.declared.partition.Partition.{Partition}
use Rattle.sizes.proofs.Tests.{and_left}
use Rattle.sizes.proofs.Lists.{each_map, each_set, each_at, found, map_hidden, map_set_same, each_all}
use Rattle.lifecycle.specs.declared.parts.Part.{Part}
use Rattle.lifecycle.specs.Lifecycle.{may_start}
use Rattle.lifecycle.specs.Setup.{Setup}
use Rattle.definition.specs.Encoder.{Open, Encoder, Symbol, opened, drained, fill, wrapped, emptied, without, advanced, symbol_of, visit, stopping, read}
use Rattle.definition.specs.FdtSession.{fdt_published, fdt_run}
use Rattle.definition.specs.Session.{Object, Hand, Session, startable, begin, forced, Turn, sent, file_run}
use Rattle.definition.specs.Desk.{Desk, Call, Answer, opening, moved, numbered, with_fdt, in_hand, marked, marked_hand, all_published, reserved, admitted, reserve_refusal, release_refusal, add_refusal, publish_refusal, draft_refusal, draft_of, ran, fdt_queued, fdt_ran, step, Touch, touched_hand, touched}
use Rattle.definition.specs.TotalPromises.{IfGiven, InHands}
use Rattle.definition.proofs.Refused.{either, kept}
use Rattle.definition.proofs.Touches.{touched_hand_kept}
use Rattle.definition.proofs.Runs.{run_goes}

-- ---- the window of an encoder

length_opened : (k n : ℕ) → length (opened k n) ≡ n
length_opened k zero = refl
length_opened k (suc n) = ap suc (length_opened (suc k) n)

length_cut : {A : Type 0} (l : List A) (i : ℕ) → length (cut l i) ≤ length l
length_cut [] i = omega arith
length_cut (a ∷ l) zero = omega arith
length_cut (a ∷ l) (suc i) = let h = length_cut l i in omega arith

fill_window : (w : ℕ) (p : Partition) (x : Encoder) → length x.window ≤ w → length (fill w p x).window ≤ w
unfolding fill
fill_window w p x h =
    let n = min (w - length x.window) (p.blocks - x.next.0) in
    let a = length-append x.window (opened x.next.0 n) in
    let b = length_opened x.next.0 n in omega arith

emptied_window : (w : ℕ) (c : Part) (x : Encoder) → length x.window ≤ w → length (emptied c x).1.window ≤ w
unfolding emptied
emptied_window w c x h = either (λ (r : Option Symbol × Encoder). length r.1.window ≤ w) (x.begun || not (eqb c.size 0)) (None, x) _ h h

advanced_window : (w : ℕ) (x : Encoder) (i : ℕ) (o : Open) → length x.window ≤ w → length (advanced x i o).window ≤ w
unfolding advanced
advanced_window w x i o h = rw length-set h

visit_window : (k w : ℕ) (c : Part) (z : Sizes) (force : Bool) (x : Encoder) → length x.window ≤ w → length (visit k w c z force x).1.window ≤ w
unfolding visit without
visit_window zero w c z force x h = h
visit_window (suc k) w c z force x h =
    let p = blocks_of z c.size in
    let y = fill w p x in
    let i = wrapped y in
    let g = fill_window w p x h in
    let again = visit_window k w c z force (without y i) (let a = length_cut y.window i in omega arith) in
    elim (at y.window i) as (λ (o : Option Open). length (maybe (emptied c y) (λ o. when drained p o then visit k w c z force (without y i) else (Some (symbol_of c z force o (advanced y i o)), advanced y i o)) o).1.window ≤ w) [
      | None ↦ emptied_window w c y g
      | Some o ↦ either (λ (r : Option Symbol × Encoder). length r.1.window ≤ w) (drained p o) (visit k w c z force (without y i)) _ again (advanced_window w y i o g)
    ]

-- a read keeps it
pub read_window : (w : ℕ) (c : Part) (z : Sizes) (force : Bool) (x : Encoder) → length x.window ≤ w → length (read w c z force x).1.window ≤ w
unfolding read stopping
read_window w c z force x h = either (λ (r : Option Symbol × Encoder). length r.1.window ≤ w) x.stopped (None, x) _
    h (visit_window (suc (length x.window)) w c z force (stopping force x) h)

-- ---- a file session's run

file_run_hand : (s : Setup) (p now : ℕ) (b : Bool) (q : List Object) (h : Option Hand) → IfGiven (InHands s p) h → IfGiven (InHands s p) (file_run s p now b q h).hand
unfolding sent begin startable
file_run_hand s p now b q h u = run_goes s p now b (λ q h. IfGiven (InHands s p) h) (λ (t : Turn). IfGiven (InHands s p) t.hand) (record {
  rests = λ q h i. i;
  sends = λ q h y i. record { priority = i.priority; window = read_window s.window h.object.part h.object.sizes (forced h) h.encoder i.window };
  ends = λ q h i. tt;
  takes = λ q o e i. record {
    priority = eqb-true o.priority p (and_left (eqb o.priority p) (may_start o.plan now o.life) (found (startable p now) q o e));
    window = omega arith;
  };
}) q h u

-- ---- every call

abbrev pub HandsKept : Setup → List Session → Type 0
HandsKept s = Each (λ (x : Session). IfGiven (InHands s x.priority) x.hand)

abbrev pub priority_of : Session → ℕ
priority_of x = x.priority

record Served (s : Setup) (l m : List Session) : Type 0 where
  hands : HandsKept s m
  same : map priority_of m ≡ map priority_of l

-- a change of what sessions have in hand that leaves its priority and its window
in_hand_served : (s : Setup) (f : Hand → Hand) → ((p : ℕ) (h : Hand) → InHands s p h → InHands s p (f h)) → (l : List Session) → HandsKept s l → Served s l (map (in_hand f) l)
unfolding in_hand
in_hand_served s f k l u = record {
  hands = each_map (λ (x : Session). IfGiven (InHands s x.priority) x.hand) (in_hand f) (λ x v. go x.priority x.hand v) l u;
  same = map_hidden priority_of (in_hand f) l (each_all (λ x. (in_hand f x).priority ≡ x.priority) (λ x. refl) l);
}
  where
    go : (p : ℕ) (h : Option Hand) → IfGiven (InHands s p) h → IfGiven (InHands s p) (maybe None (λ y. Some (f y)) h)
    go p None v = tt
    go p (Some h) v = k p h v

published_served : (s : Setup) (d : Desk) → HandsKept s d.sessions → Served s d.sessions (all_published d).sessions
unfolding all_published moved marked_hand marked
published_served s d u = in_hand_served s marked_hand one d.sessions u
  where
    one : (p : ℕ) (h : Hand) → InHands s p h → InHands s p (marked_hand h)
    one p h v = either (InHands s p) h.listed _ h (record { priority = v.priority; window = v.window }) v

touched_in_hand : (s : Setup) (t : ℕ) (x : Touch) (p : ℕ) (h : Hand) → InHands s p h → InHands s p (touched_hand t x h)
touched_in_hand s t x p h v =
    let k = touched_hand_kept t x h in
    record { priority = ap (λ (o : Object). o.priority) k.object ∙ v.priority; window = subst (λ (e : Encoder). length e.window ≤ s.window) (sym k.encoder) v.window }

stays : (s : Setup) (l : List Session) → HandsKept s l → Served s l l
stays s l u = record { hands = u; same = refl }

served_step : (s : Setup) (d : Desk) (c : Call) → HandsKept s d.sessions → Served s d.sessions (step s d c).1.sessions
unfolding step reserved numbered moved touched admitted with_fdt ran fdt_ran
served_step s d Call.reserve u = kept (λ e. Served s d.sessions e.sessions) (reserve_refusal d) d _ (stays s d.sessions u) (λ e. stays s d.sessions u)
served_step s d (Call.release t) u = kept (λ e. Served s d.sessions e.sessions) (release_refusal d t) d _ (stays s d.sessions u) (λ e. stays s d.sessions u)
served_step s d (Call.add named q) u = kept (λ e. Served s d.sessions e.sessions) (add_refusal s d named q) d _ (stays s d.sessions u)
    (λ e. either (λ (x : Desk). Served s d.sessions x.sessions) (given named) d (reserved s d) (stays s d.sessions u) (stays s d.sessions u))
served_step s d (Call.touch t x) u = in_hand_served s (touched_hand t x) (touched_in_hand s t x) d.sessions u
served_step s d (Call.ask q) u = stays s d.sessions u
served_step s d Call.complete u = stays s d.sessions u
served_step s d (Call.publish now c) u = kept (λ e. Served s d.sessions e.sessions) (publish_refusal s d.fdt c) d _ (stays s d.sessions u)
    (λ e. published_served s (with_fdt d (fdt_published now c d.fdt)) u)
served_step s d (Call.run_fdt now draft) u =
    let r = fdt_run s now (draft_of draft) d.fdt in
    kept (λ e. Served s d.sessions e.sessions) (draft_refusal s d.fdt draft) d _ (stays s d.sessions u)
    (λ e. either (λ (x : Desk). Served s d.sessions x.sessions) r.taken (all_published (with_fdt d r.fdt)) (with_fdt d r.fdt)
    (published_served s (with_fdt d r.fdt) u) (stays s d.sessions u))
served_step s d (Call.run_file i now) u = go (at d.sessions i) refl
  where
    go : (x : Option Session) → at d.sessions i ≡ x → Served s d.sessions (maybe (Answer.refused Because.NoSession, d) (ran s now i d) x).1.sessions
    go None e = stays s d.sessions u
    go (Some x) e =
        let P : Session → Type 0 = λ (y : Session). IfGiven (InHands s y.priority) y.hand in
        let r = file_run s x.priority now (fdt_queued d) d.queue x.hand in
        record {
          hands = each_set P d.sessions i _ u (file_run_hand s x.priority now (fdt_queued d) d.queue x.hand (each_at P d.sessions i x e u));
          same = map_set_same priority_of d.sessions i _ x e refl;
        }

pub hands_step : (s : Setup) (d : Desk) (c : Call) → HandsKept s d.sessions → HandsKept s (step s d c).1.sessions
hands_step s d c u = (served_step s d c u).hands

pub priorities_step : (s : Setup) (d : Desk) (c : Call) → HandsKept s d.sessions → map priority_of (step s d c).1.sessions ≡ map priority_of d.sessions
priorities_step s d c u = (served_step s d c u).same

-- set-up begins so
pub hands_opening : (s : Setup) → HandsKept s (opening s).sessions
unfolding opening
hands_opening s = empty s.priorities
  where
    empty : (l : List ℕ) → HandsKept s (map (λ p. record { priority = p; hand = None }) l)
    empty [] = tt
    empty (p ∷ l) = (tt, empty l)

pub priorities_opening : (s : Setup) → map priority_of (opening s).sessions ≡ s.priorities
unfolding opening
priorities_opening s = same s.priorities
  where
    same : (l : List ℕ) → map priority_of (map (λ p. record { priority = p; hand = None }) l) ≡ l
    same [] = refl
    same (p ∷ l) = ap (λ r. p ∷ r) (same l)
