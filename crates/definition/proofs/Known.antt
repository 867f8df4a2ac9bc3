-- What a run keeps: a session sends its own priority's objects, and the numbers of the priority's objects are among those that its admissions got.
use mathlib.Core.Path.{◌≡◌, refl, sym, ◌∙◌, ap, subst}
use mathlib.Core.Bool.{Bool, true, false, not, ◌&&◌, ◌||◌, true≢false}
use Rattle.std.specs.Prelude.{Option, None, Some}
use mathlib.Core.List.{List, [], ◌∷◌, ◌++◌, map, append-nil}
use Prim.Native.Nat.{ℕ}
use lib.Dec.{eqb}
use borrow.Author.Tests.{eqb-true, eq-eqb}
use lib.ListN.{length}
use Rattle.sizes.specs.Words.{when◌then◌else◌, maybe, given, keep, at, has, drop_first}
use Rattle.sizes.specs.declared.refusal.Refusal.TheVariants as Because
use Rattle.sizes.specs.declared.refusal.Refusal.{Refusal}
use Rattle.lifecycle.specs.Lifecycle.{expired, finished, may_start}
use Rattle.lifecycle.specs.Setup.{Setup}
use Rattle.definition.specs.FdtSession.{Fdt, FdtTurn, Packet, fdt_published, fdt_run}
use Rattle.definition.specs.Session.{Object, Hand, Session, living, startable, begin, put_back, Turn, sent, file_run}
use Rattle.definition.specs.Desk.{Desk, Request, Call, Answer, opening, moved, numbered, with_fdt, in_hand, marked, marked_hand, all_published, reserved, toi_for, made, admitted, reserve_refusal, release_refusal, add_refusal, publish_refusal, draft_refusal, draft_of, unless, ran, step, unloosed, fdt_queued, fdt_ran, Touch, touched_waiting, touched_hand, touched}
use Rattle.definition.specs.Apart.{mine, got_after}
use Rattle.definition.proofs.View.{retag, seen, seen_append, seen_other}
use Rattle.sizes.specs.Words.{Each}
use Rattle.sizes.proofs.Tests.{and_left}
use Rattle.sizes.proofs.Lists.{each_append, each_drop_first, each_map, each_set, each_find, each_at, each_imp, found}
use Rattle.definition.proofs.Touches.{touched_kept, touched_hand_kept, each_touched}
use Rattle.definition.proofs.Runs.{run_goes}

-- the number of the priority's object is among those that admissions got
abbrev pub Noted : ℕ → List ℕ → Object → Type 0
Noted p j o = mine p o ≡ true → has o.toi j ≡ true

abbrev pub HeldFits : ℕ → List ℕ → ℕ → Option Hand → Type 0
HeldFits p j r None = Unit {0}
HeldFits p j r (Some h) = (h.object.priority ≡ r) × Noted p j h.object

abbrev pub Fits : ℕ → List ℕ → Session → Type 0
Fits p j x = HeldFits p j x.priority x.hand

pub record Known (p : ℕ) (j : List ℕ) (d : Desk) : Type 0 where
  pub waiting : Each (Noted p j) d.queue
  pub serving : Each (Fits p j) d.sessions

-- the number of a packet of the priority is among them
abbrev pub PacketNoted : ℕ → List ℕ → ℕ → Option Packet → Type 0
PacketNoted p j r None = Unit {0}
PacketNoted p j r (Some k) = eqb r p ≡ true → has k.toi j ≡ true

-- a turn of a session of priority r
abbrev pub TurnFits : ℕ → List ℕ → ℕ → Turn → Type 0
TurnFits p j r x = Each (Noted p j) x.queue × HeldFits p j r x.hand × PacketNoted p j r x.packet

module _ (p : ℕ) (j : List ℕ) where
  back_known : (now : ℕ) (h : Hand) (q : List Object) → Each (Noted p j) q → Noted p j h.object → Each (Noted p j) (put_back now h q)
  unfolding put_back
  back_known now h q u v =
      let o = living (finished now h.object.life) h.object in
      elim (h.listed && not (expired o.plan o.life)) as (λ t. Each (Noted p j) (when t then q ++ (o ∷ []) else q))
      [ true ↦ each_append (Noted p j) q (o ∷ []) u (v, tt) | false ↦ u ]

  pub file_run_known : (r : ℕ) (s : Setup) (now : ℕ) (b : Bool) (q : List Object) (h : Option Hand) → Each (Noted p j) q → HeldFits p j r h
      → TurnFits p j r (file_run s r now b q h)
  unfolding sent begin startable
  file_run_known r s now b q h u v = run_goes s r now b (λ q h. Each (Noted p j) q × HeldFits p j r h) (TurnFits p j r) (record {
    rests = λ q h i. (i.0, i.1, tt);
    sends = λ q h y i. (i.0, i.1, λ e. i.1.1 (ap (λ n. eqb n p) i.1.0 ∙ e));
    ends = λ q h i. (back_known now h q i.0 i.1.1, tt);
    takes = λ q o e i. (let k = each_find (Noted p j) (startable r now) q o e i.0 in
        (each_drop_first (Noted p j) (startable r now) q i.0, (eqb-true o.priority r (and_left (eqb o.priority r) (may_start o.plan now o.life) k.1), k.0)));
  }) q h (u, v)

-- a run of another priority's session leaves what is seen of the queue
module _ (p : ℕ) (f : ℕ → ℕ) where
  back_other : (now : ℕ) (h : Hand) (q : List Object) → mine p h.object ≡ false → seen p f (put_back now h q) ≡ seen p f q
  unfolding put_back
  back_other now h q e =
      let o = living (finished now h.object.life) h.object in
      elim (h.listed && not (expired o.plan o.life)) as (λ t. seen p f (when t then q ++ (o ∷ []) else q) ≡ seen p f q)
      [ true ↦ seen_append p f q (o ∷ []) ∙ ap (λ l. seen p f q ++ l) (seen_other p f o e) ∙ append-nil (seen p f q) | false ↦ refl ]

  seen_dropped : (ok : Object → Bool) (q : List Object) → ((o : Object) → ok o ≡ true → mine p o ≡ false) → seen p f (drop_first ok q) ≡ seen p f q
  seen_dropped ok [] u = refl
  seen_dropped ok (o ∷ q) u = (elim (ok o) as (λ b. ok o ≡ b → seen p f (when b then q else o ∷ drop_first ok q) ≡ (when mine p o then retag f o ∷ seen p f q else seen p f q)) [
    | true ↦ λ e. rw (u o e)
    | false ↦ λ e. elim (mine p o) as (λ t. (when t then retag f o ∷ seen p f (drop_first ok q) else seen p f (drop_first ok q)) ≡ (when t then retag f o ∷ seen p f q else seen p f q))
        [ true ↦ ap (λ l. retag f o ∷ l) (seen_dropped ok q u) | false ↦ seen_dropped ok q u ]
  ]) refl

  -- what another priority's session has in hand
  abbrev Other : Option Hand → Type 0
  Other None = Unit {0}
  Other (Some h) = mine p h.object ≡ false

  held_other : (r : ℕ) → eqb r p ≡ false → (j : List ℕ) (h : Option Hand) → HeldFits p j r h → Other h
  held_other r k j None v = tt
  held_other r k j (Some h) v = ap (λ n. eqb n p) v.0 ∙ k

  pub file_run_other : (r : ℕ) → eqb r p ≡ false → (s : Setup) (now : ℕ) (b : Bool) (q : List Object) (j : List ℕ) (h : Option Hand) → HeldFits p j r h
      → seen p f (file_run s r now b q h).queue ≡ seen p f q
  unfolding sent begin startable
  file_run_other r k s now b q₀ j h₀ v = run_goes s r now b (λ q h. (seen p f q ≡ seen p f q₀) × Other h) (λ (t : Turn). seen p f t.queue ≡ seen p f q₀) (record {
    rests = λ q h i. i.0;
    sends = λ q h y i. i.0;
    ends = λ q h i. (back_other now h q i.1 ∙ i.0, tt);
    takes = λ q o e i. (seen_dropped (startable r now) q other ∙ i.0, other o (found (startable r now) q o e));
  }) q₀ h₀ (refl, held_other r k j h₀ v)
    where
      other : (o : Object) → startable r now o ≡ true → mine p o ≡ false
      other o e = ap (λ n. eqb n p) (eqb-true o.priority r (and_left (eqb o.priority r) (may_start o.plan now o.life) e)) ∙ k

-- a change to held objects that keeps their numbers and priorities
in_hand_known : (p : ℕ) (j : List ℕ) (g : Hand → Hand) → ((h : Hand) → ((g h).object.priority ≡ h.object.priority) × ((g h).object.toi ≡ h.object.toi))
    → (x : Session) → Fits p j x → Fits p j (in_hand g x)
unfolding in_hand
in_hand_known p j g k x u = go x.hand u
  where
    go : (h : Option Hand) → HeldFits p j x.priority h → HeldFits p j x.priority (maybe None (λ y. Some (g y)) h)
    go None v = tt
    go (Some h) v = ((k h).0 ∙ v.0, λ e. subst (λ t. has t j ≡ true) (sym (k h).1) (v.1 (ap (λ n. eqb n p) (sym (k h).0) ∙ e)))

pub marked_held_same : (h : Hand) → ((marked_hand h).object.priority ≡ h.object.priority) × ((marked_hand h).object.toi ≡ h.object.toi)
unfolding marked_hand marked
marked_held_same h = elim h.listed as (λ t. (((when t then record { object = marked h.object; listed = true; encoder = h.encoder; pace = h.pace } else h).object.priority ≡ h.object.priority)
    × ((when t then record { object = marked h.object; listed = true; encoder = h.encoder; pace = h.pace } else h).object.toi ≡ h.object.toi)))
    [ true ↦ (refl, refl) | false ↦ (refl, refl) ]

touched_same : (t : ℕ) (x : Touch) (h : Hand) → ((touched_hand t x h).object.priority ≡ h.object.priority) × ((touched_hand t x h).object.toi ≡ h.object.toi)
touched_same t x h = let k = touched_hand_kept t x h in (ap (λ (o : Object). o.priority) k.object, ap (λ (o : Object). o.toi) k.object)

published_known : (p : ℕ) (j : List ℕ) (d : Desk) → Known p j d → Known p j (all_published d)
unfolding all_published moved marked
published_known p j d u = record {
  waiting = each_map (Noted p j) marked (λ o v. v) d.queue u.waiting;
  serving = each_map (Fits p j) (in_hand marked_hand) (in_hand_known p j marked_hand marked_held_same) d.sessions u.serving;
}

with_fdt_known : (p : ℕ) (j : List ℕ) (d : Desk) (f : Fdt) → Known p j d → Known p j (with_fdt d f)
unfolding with_fdt
with_fdt_known p j d f u = record { waiting = u.waiting; serving = u.serving }

-- one more number noted
more_noted : (p t : ℕ) (j : List ℕ) (o : Object) → Noted p j o → Noted p (t ∷ j) o
more_noted p t j o u e = elim (eqb t o.toi) as (λ b. (b || has o.toi j) ≡ true) [ true ↦ refl | false ↦ u e ]

more_fits : (p t : ℕ) (j : List ℕ) (x : Session) → Fits p j x → Fits p (t ∷ j) x
more_fits p t j x u = go x.hand u
  where
    go : (h : Option Hand) → HeldFits p j x.priority h → HeldFits p (t ∷ j) x.priority h
    go None v = tt
    go (Some h) v = (v.0, more_noted p t j h.object v.1)

pub more_known : (p t : ℕ) (j : List ℕ) (d : Desk) → Known p j d → Known p (t ∷ j) d
more_known p t j d u = record {
  waiting = each_imp (Noted p j) (Noted p (t ∷ j)) (more_noted p t j) d.queue u.waiting;
  serving = each_imp (Fits p j) (Fits p (t ∷ j)) (more_fits p t j) d.sessions u.serving;
}

-- an admitted object, whose number is noted if it is the priority's
admitted_known : (p : ℕ) (j : List ℕ) (s : Setup) (t : ℕ) (q : Request) (d : Desk) → (eqb q.priority p ≡ true → has t j ≡ true) → Known p j d → Known p j (admitted s t q d)
unfolding admitted made unloosed
admitted_known p j s t q d k u = record { waiting = each_append (Noted p j) d.queue (made s t q ∷ []) u.waiting (k, tt); serving = u.serving }

reserved_known : (p : ℕ) (j : List ℕ) (s : Setup) (d : Desk) (named : Option ℕ) → Known p j d → Known p j (when given named then d else reserved s d)
unfolding reserved numbered
reserved_known p j s d None u = record { waiting = u.waiting; serving = u.serving }
reserved_known p j s d (Some t) u = u

has_first : (t : ℕ) (j : List ℕ) → has t (t ∷ j) ≡ true
has_first t j = rw (eq-eqb t t refl)

pub add_known : (p : ℕ) (j : List ℕ) (s : Setup) (t : ℕ) (q : Request) (d : Desk) (named : Option ℕ) → Known p j d
    → Known p (got_after p (Call.add named q) (Answer.number t) j) (admitted s t q (when given named then d else reserved s d))
add_known p j s t q d named u = (elim (eqb q.priority p) as (λ b. eqb q.priority p ≡ b → Known p (when b then t ∷ j else j) (admitted s t q (when given named then d else reserved s d))) [
  | true ↦ λ e. admitted_known p (t ∷ j) s t q (when given named then d else reserved s d) (λ k. has_first t j) (more_known p t j (when given named then d else reserved s d) (reserved_known p j s d named u))
  | false ↦ λ e. admitted_known p j s t q (when given named then d else reserved s d) (λ k. absurd (true≢false (sym k ∙ e))) (reserved_known p j s d named u)
]) refl

ran_known : (p : ℕ) (j : List ℕ) (s : Setup) (now i : ℕ) (d : Desk) (x : Session) → at d.sessions i ≡ Some x → Known p j d → Known p j (ran s now i d x).1
unfolding ran moved fdt_queued
ran_known p j s now i d x e u =
    let k = file_run_known p j x.priority s now (not (eqb (length d.fdt.state.waiting) 0)) d.queue x.hand u.waiting (each_at (Fits p j) d.sessions i x e u.serving) in
    record { waiting = k.0; serving = each_set (Fits p j) d.sessions i _ u.serving k.1 }

-- every call keeps it
pub known_step : (p : ℕ) (j : List ℕ) (s : Setup) (d : Desk) (c : Call) → Known p j d → Known p (got_after p c (step s d c).0 j) (step s d c).1
unfolding step numbered moved touched unloosed fdt_ran
known_step p j s d Call.reserve u = go (reserve_refusal d)
  where
    go : (x : Option Refusal) → Known p j (unless x d (Answer.number d.next, reserved s d)).1
    go None = reserved_known p j s d None u
    go (Some n) = u
known_step p j s d (Call.release t) u = go (release_refusal d t)
  where
    go : (x : Option Refusal) → Known p j (unless x d (Answer.done, numbered d d.next (keep (λ v. not (eqb v t)) d.loose))).1
    go None = record { waiting = u.waiting; serving = u.serving }
    go (Some n) = u
known_step p j s d (Call.add named q) u = go (add_refusal s d named q)
  where
    go : (x : Option Refusal) → Known p (got_after p (Call.add named q) (unless x d (Answer.number (toi_for d named), admitted s (toi_for d named) q (when given named then d else reserved s d))).0 j)
        (unless x d (Answer.number (toi_for d named), admitted s (toi_for d named) q (when given named then d else reserved s d))).1
    go None = add_known p j s (toi_for d named) q d named u
    go (Some n) = u
known_step p j s d (Call.touch t x) u = record {
  waiting = each_touched (touched_waiting t x) (touched_kept t x) (Noted p j) (λ l o v. v) d.queue u.waiting;
  serving = each_map (Fits p j) (in_hand (touched_hand t x)) (in_hand_known p j (touched_hand t x) (touched_same t x)) d.sessions u.serving;
}
known_step p j s d (Call.ask q) u = u
known_step p j s d Call.complete u = record { waiting = u.waiting; serving = u.serving }
known_step p j s d (Call.publish now c) u = go (publish_refusal s d.fdt c)
  where
    go : (x : Option Refusal) → Known p j (unless x d (Answer.done, all_published (with_fdt d (fdt_published now c d.fdt)))).1
    go None = published_known p j (with_fdt d (fdt_published now c d.fdt)) (with_fdt_known p j d (fdt_published now c d.fdt) u)
    go (Some n) = u
known_step p j s d (Call.run_fdt now draft) u = go (draft_refusal s d.fdt draft) (fdt_run s now (draft_of draft) d.fdt)
  where
    go : (x : Option Refusal) (r : FdtTurn) → Known p j (unless x d (Answer.fdt_output r.taken r.packet, when r.taken then all_published (with_fdt d r.fdt) else with_fdt d r.fdt)).1
    go None r = elim r.taken as (λ t. Known p j (when t then all_published (with_fdt d r.fdt) else with_fdt d r.fdt))
        [ true ↦ published_known p j (with_fdt d r.fdt) (with_fdt_known p j d r.fdt u) | false ↦ with_fdt_known p j d r.fdt u ]
    go (Some n) r = u
known_step p j s d (Call.run_file i now) u = go (at d.sessions i) refl
  where
    go : (x : Option Session) → at d.sessions i ≡ x → Known p j (maybe (Answer.refused Because.NoSession, d) (ran s now i d) x).1
    go None e = u
    go (Some x) e = ran_known p j s now i d x e u

pub known_opening : (p : ℕ) (s : Setup) → Known p [] (opening s)
unfolding opening
known_opening p s = record { waiting = tt; serving = empty s.priorities }
  where
    empty : (l : List ℕ) → Each (Fits p []) (map (λ r. record { priority = r; hand = None }) l)
    empty [] = tt
    empty (r ∷ l) = (tt, empty l)
