-- A priority's calls are answered as on a desk that has only them; so two runs with the same of them are answered alike, and the numbers in the answers are those that its admissions got.
use mathlib.Core.Path.{◌≡◌, refl, sym, ◌∙◌, ap, subst}
use mathlib.Core.Bool.{Bool, true, false, not, ◌&&◌, ◌||◌, true≢false, false≢true}
use Rattle.std.specs.Prelude.{Option, None, Some}
use mathlib.Core.List.{List, [], ◌∷◌, ◌++◌, map, append-nil}
use Prim.Native.Nat.{ℕ, suc, ◌+◌, ◌≤◌}
use native.Mathlib.Omega.{arith}
use lib.Dec.{eqb}
use borrow.Author.Tests.{eqb-true, eqb-false, eq-eqb, ne_eqb, not-false, not-true}
use lib.ListN.{length, set}
use Rattle.sizes.specs.Words.{when◌then◌else◌, maybe, given, any, at, has, find, first_of, over, Each, times, one_if}
use Rattle.sizes.specs.declared.refusal.Refusal.{Refusal}
use Rattle.sizes.specs.declared.refusal.Refusal.TheVariants as Because
use Rattle.lifecycle.specs.declared.parts.Part.{Part}
use Rattle.lifecycle.specs.Setup.{Setup, bad_blocks}
use Rattle.definition.specs.FdtSession.{Fdt, FdtTurn, Packet, fdt_published, fdt_run, fdt_sent}
use Rattle.definition.specs.Session.{Object, Hand, Session, Turn, file_run}
use Rattle.definition.specs.Desk.{Desk, Request, Call, Answer, opening, in_hands, objects, numbers, is, listed_in_hands, listed_as, moved, numbered, with_fdt, in_hand, marked, marked_hand, all_published, reserved, toi_for, made, admitted, own_sizes, no_session, not_loose, reserve_refusal, release_refusal, add_refusal, publish_refusal, draft_refusal, draft_of, Result, unless, ran, step, unloosed, fdt_queued, fdt_ran, Touch, Question, waiting_after, hand_after, touched_waiting, touched_hand, touched, answer_to}
use Rattle.definition.specs.Apart.{mine, owns, about, got_after, key, call_by, packet_by, answer_by, is_barred, turned_away, calls, answers, smooth, Alike as AlikeRuns, PacketOf, NumberOf, OwnNumbers, about_question, question_by}
use Rattle.definition.proofs.Numbers.{Unique, unique_step, unique_opening, tois, admissible}
use Rattle.definition.proofs.RefusalTables.{early_refusal, late_no, add_early}
use Rattle.definition.proofs.View.{retag, retag_held, seen, see, seen_append, seen_mine, seen_other, Alike, seen_find, seen_map, see_turn, Sends, file_run_seen}
use Rattle.definition.proofs.Known.{Noted, HeldFits, Fits, PacketNoted, Known, file_run_known, file_run_other, known_step, known_opening}
use Rattle.sizes.proofs.Tests.{Tested, pass, fail, tested, and_left, and_right, or_left, or_right}
use Rattle.sizes.proofs.Lists.{each_append, each_imp, each_at, map_set, map_set_same, at_map, times_append, has_times, each_left, each_right, each_both, each_all, map_comm, map_hidden}
use Rattle.definition.proofs.Touches.{touched_kept, renumbered_after, seen_touched, seen_still}
use Rattle.definition.proofs.Runs.{fdt_run_goes}

-- the number that an admission got, the last of them first
unfoldable pub got : List ℕ → ℕ → ℕ
got [] k = 0
got (u ∷ j) k = when eqb (suc (length j)) k then u else got j k

-- the key of a number that an admission got is below the count, and the number is found again by it
pub key_below : (j : List ℕ) (t : ℕ) → has t j ≡ true → key j t ≤ length j
key_below [] t e = absurd (false≢true e)
key_below (u ∷ j) t e = (elim (eqb u t) as (λ b. (b || has t j) ≡ true → (when b then suc (length j) else key j t) ≤ suc (length j))
    [ true ↦ λ e. omega arith | false ↦ λ e. (let h = key_below j t e in omega arith) ]) e

pub got_key : (j : List ℕ) (t : ℕ) → has t j ≡ true → got j (key j t) ≡ t
unfolding got
got_key [] t e = absurd (false≢true e)
got_key (u ∷ j) t e = (elim (eqb u t) as (λ b. eqb u t ≡ b → (b || has t j) ≡ true → (when eqb (suc (length j)) (when b then suc (length j) else key j t) then u else got j (when b then suc (length j) else key j t)) ≡ t) [
  | true ↦ λ q e. rw (eq-eqb (suc (length j)) (suc (length j)) refl) (eqb-true u t q)
  | false ↦ λ q e. (let h = key_below j t e in rw (ne_eqb (suc (length j)) (key j t) (λ z. absurd (omega arith))) (got_key j t e))
]) refl e

-- two noted numbers are equal where their keys are
key_eqb : (j : List ℕ) (t u : ℕ) → has t j ≡ true → has u j ≡ true → eqb (key j u) (key j t) ≡ eqb u t
key_eqb j t u h k = go (tested (eqb u t))
  where
    go : Tested (eqb u t) → eqb (key j u) (key j t) ≡ eqb u t
    go (pass e) = eq-eqb (key j u) (key j t) (ap (key j) (eqb-true u t e)) ∙ sym e
    go (fail e) = ne_eqb (key j u) (key j t) (λ z. eqb-false u t e (sym (got_key j u k) ∙ ap (got j) z ∙ got_key j t h)) ∙ sym e

-- the desk as the priority sees it, with keys for numbers
abbrev pub view : ℕ → List ℕ → Desk → Desk
view p j d = record {
  complete = d.complete;
  next = suc (length j);
  loose = [];
  queue = seen p (key j) d.queue;
  sessions = map (see p (key j)) d.sessions;
  fdt = d.fdt;
}

-- the desk with one more object, under the next key
abbrev pub one_more : Setup → Request → Desk → Desk
one_more s q d = record {
  complete = d.complete;
  next = suc d.next;
  loose = d.loose;
  queue = d.queue ++ (made s d.next q ∷ []);
  sessions = d.sessions;
  fdt = d.fdt;
}

-- a call on a desk that numbers its objects by their admissions, and refuses no add but by 2, 3 and 4
abbrev pub own_step : Setup → Desk → Call → Result
own_step s d (Call.add named q) = unless (early_refusal s d q) d (Answer.number d.next, one_more s q d)
own_step s d Call.reserve = step s d Call.reserve
own_step s d (Call.release t) = step s d (Call.release t)
own_step s d (Call.touch t x) = step s d (Call.touch t x)
own_step s d (Call.ask q) = step s d (Call.ask q)
own_step s d Call.complete = step s d Call.complete
own_step s d (Call.publish now c) = step s d (Call.publish now c)
own_step s d (Call.run_fdt now draft) = step s d (Call.run_fdt now draft)
own_step s d (Call.run_file i now) = step s d (Call.run_file i now)

abbrev pub own_run : Setup → Desk → List Call → List Answer
own_run s d [] = []
own_run s d (c ∷ l) = let r = own_step s d c in r.0 ∷ own_run s r.1 l

-- the listed object that a session sends
abbrev pick : Option Hand → Option Object
pick = maybe None (λ (h : Hand). when h.listed then Some h.object else None)

-- what a session sends is the priority's exactly where the session is
abbrev pub Same_mine : ℕ → Bool → Option Hand → Type 0
Same_mine p t None = Unit {0}
Same_mine p t (Some h) = mine p h.object ≡ t

pub same_mine : (p r : ℕ) (j : List ℕ) (h : Option Hand) → HeldFits p j r h → Same_mine p (eqb r p) h
same_mine p r j None v = tt
same_mine p r j (Some h) v = ap (λ n. eqb n p) v.0

module _ (p : ℕ) (f : ℕ → ℕ) where
  sent_one : (t : Bool) (h : Option Hand) (A B : List Object) → Same_mine p t h → A ≡ seen p f B
      → maybe A (λ o. o ∷ A) (pick (when t then over (retag_held f) h else None)) ≡ seen p f (maybe B (λ o. o ∷ B) (pick h))
  sent_one true None A B e k = k
  sent_one false None A B e k = k
  sent_one true (Some h) A B e k = elim h.listed
      as (λ b. maybe A (λ o. o ∷ A) (when b then Some (retag f h.object) else None) ≡ seen p f (maybe B (λ o. o ∷ B) (when b then Some h.object else None)))
      [ true ↦ rw e (ap (λ l. retag f h.object ∷ l) k) | false ↦ k ]
  sent_one false (Some h) A B e k = elim h.listed
      as (λ b. A ≡ seen p f (maybe B (λ o. o ∷ B) (when b then Some h.object else None)))
      [ true ↦ rw e k | false ↦ k ]

-- objects that sessions send, as they are seen
sent_seen : (p : ℕ) (j : List ℕ) (l : List Session) → Each (Fits p j) l → listed_in_hands (map (see p (key j)) l) ≡ seen p (key j) (listed_in_hands l)
unfolding listed_in_hands
sent_seen p j [] u = refl
sent_seen p j (x ∷ l) u = sent_one p (key j) (eqb x.priority p) x.hand (listed_in_hands (map (see p (key j)) l)) (listed_in_hands l)
    (same_mine p x.priority j x.hand u.0) (sent_seen p j l u.1)

-- all objects that sessions send are noted
sending_noted : (p : ℕ) (j : List ℕ) (l : List Session) → Each (Fits p j) l → Each (Noted p j) (in_hands l)
unfolding in_hands
sending_noted p j [] u = tt
sending_noted p j (x ∷ l) u = go x.hand u.0 (sending_noted p j l u.1)
  where
    go : (h : Option Hand) → HeldFits p j x.priority h → Each (Noted p j) (in_hands l)
        → Each (Noted p j) (maybe (in_hands l) (λ o. o ∷ in_hands l) (maybe None (λ (h : Hand). Some h.object) h))
    go None v w = w
    go (Some h) v w = (v.1, w)

-- and all objects
pub objects_noted : (p : ℕ) (j : List ℕ) (d : Desk) → Known p j d → Each (Noted p j) (objects d)
unfolding objects
objects_noted p j d k = each_append (Noted p j) d.queue (in_hands d.sessions) k.waiting (sending_noted p j d.sessions k.serving)

-- a number that does not stand among the objects'
pub none_has : (t : ℕ) (q : List Object) → times t (tois q) ≡ 0 → Each (λ o. is t o ≡ false) q
unfolding is
none_has t [] h = tt
none_has t (o ∷ q) h = (elim (eqb o.toi t) as (λ c. one_if c + times t (tois q) ≡ 0 → (c ≡ false) × Each (λ o. is t o ≡ false) q)
    [ true ↦ λ h. absurd (omega arith) | false ↦ λ h. (refl, none_has t q (omega arith)) ]) h

pub any_times : (p t : ℕ) (q : List Object) → any (λ o. mine p o && is t o) q ≡ true → 1 ≤ times t (tois q)
unfolding is
any_times p t [] e = absurd (false≢true e)
any_times p t (o ∷ q) e = (elim (mine p o) as (λ b. ((b && eqb o.toi t) || any (λ o. mine p o && is t o) q) ≡ true → 1 ≤ one_if (eqb o.toi t) + times t (tois q)) [
  | true ↦ elim (eqb o.toi t) as (λ c. (c || any (λ o. mine p o && is t o) q) ≡ true → 1 ≤ one_if c + times t (tois q))
      [ true ↦ λ e. omega arith | false ↦ λ e. (let h = any_times p t q e in omega arith) ]
  | false ↦ λ e. (let h = any_times p t q e in omega arith)
]) e

-- if the priority owns a number that is held once, whatever has the number is the priority's
owner : (p t : ℕ) (q : List Object) → any (λ o. mine p o && is t o) q ≡ true → times t (tois q) ≤ 1 → Each (λ o. is t o ≡ true → mine p o ≡ true) q
unfolding is
owner p t [] e h = tt
owner p t (o ∷ q) e h = (elim (eqb o.toi t) as (λ c. eqb o.toi t ≡ c → ((mine p o && c) || any (λ o. mine p o && is t o) q) ≡ true → one_if c + times t (tois q) ≤ 1
    → (eqb o.toi t ≡ true → mine p o ≡ true) × Each (λ o. is t o ≡ true → mine p o ≡ true) q) [
      | true ↦ λ k e h. (
        λ z. (elim (mine p o) as (λ b. ((b && true) || any (λ o. mine p o && is t o) q) ≡ true → b ≡ true)
            [ true ↦ λ e. refl | false ↦ λ e. absurd (let m = any_times p t q e in omega arith) ]) e,
        each_imp (λ o. is t o ≡ false) (λ o. is t o ≡ true → mine p o ≡ true) (λ o n y. absurd (true≢false (sym y ∙ n))) q (none_has t q (omega arith)),
      )
      | false ↦ λ k e h. (
        λ z. absurd (true≢false (sym z ∙ k)),
        owner p t q ((elim (mine p o) as (λ b. ((b && false) || any (λ o. mine p o && is t o) q) ≡ true → any (λ o. mine p o && is t o) q ≡ true) [ true ↦ λ e. e | false ↦ λ e. e ]) e) (omega arith),
      )
    ]) refl e h

-- and it is noted
pub owned_noted : (p t : ℕ) (j : List ℕ) (q : List Object) → any (λ o. mine p o && is t o) q ≡ true → Each (Noted p j) q → has t j ≡ true
unfolding is
owned_noted p t j [] e u = absurd (false≢true e)
owned_noted p t j (o ∷ q) e u = (elim (mine p o) as (λ b. mine p o ≡ b → ((b && eqb o.toi t) || any (λ o. mine p o && is t o) q) ≡ true → has t j ≡ true) [
  | true ↦ λ k. (elim (eqb o.toi t) as (λ c. eqb o.toi t ≡ c → (c || any (λ o. mine p o && is t o) q) ≡ true → has t j ≡ true)
      [ true ↦ λ c e. subst (λ n. has n j ≡ true) (eqb-true o.toi t c) (u.0 k) | false ↦ λ c e. owned_noted p t j q e u.1 ]) refl
  | false ↦ λ k e. owned_noted p t j q e u.1
]) refl e

pub owns_noted : (p : ℕ) (j : List ℕ) (d : Desk) (t : ℕ) → Known p j d → owns p d t ≡ true → has t j ≡ true
unfolding owns
owns_noted p j d t k e = owned_noted p t j (objects d) e (objects_noted p j d k)

-- the numbers of all held objects stand once
held_once : (s : Setup) (d : Desk) → Unique s d → (t : ℕ) → times t (tois (objects d)) ≤ 1
unfolding numbers
held_once s d u t = let a = u.once t in let b = times_append t d.loose (tois (objects d)) in omega arith

-- what sessions send and is listed is among what they send
pub listed_of : (P : Object → Type 0) (l : List Session) → Each P (in_hands l) → Each P (listed_in_hands l)
unfolding in_hands listed_in_hands
listed_of P [] u = tt
listed_of P (x ∷ l) u = go (listed_of P l) x.hand u
  where
    go : (Each P (in_hands l) → Each P (listed_in_hands l)) → (h : Option Hand)
        → Each P (maybe (in_hands l) (λ o. o ∷ in_hands l) (maybe None (λ (h : Hand). Some h.object) h)) → Each P (maybe (listed_in_hands l) (λ o. o ∷ listed_in_hands l) (pick h))
    go back None v = back v
    go back (Some h) v = elim h.listed as (λ b. Each P (maybe (listed_in_hands l) (λ o. o ∷ listed_in_hands l) (when b then Some h.object else None)))
        [ true ↦ (v.0, back v.1) | false ↦ back v.1 ]

-- the listed object of an owned number, as it is seen
listed_as_seen : (p : ℕ) (j : List ℕ) (s : Setup) (d : Desk) (t : ℕ) → Unique s d → Known p j d → owns p d t ≡ true
    → listed_as (view p j d) (key j t) ≡ over (retag (key j)) (listed_as d t)
unfolding listed_as owns objects is
listed_as_seen p j s d t u k e =
    ap (λ l. find (is (key j t)) (seen p (key j) d.queue ++ l)) (sent_seen p j d.sessions k.serving)
    ∙ ap (find (is (key j t))) (sym (seen_append p (key j) d.queue (listed_in_hands d.sessions)))
    ∙ seen_find p (key j) (is t) (is (key j t)) (d.queue ++ listed_in_hands d.sessions) alike
  where
    owners : Each (λ o. is t o ≡ true → mine p o ≡ true) (d.queue ++ in_hands d.sessions)
    owners = owner p t (d.queue ++ in_hands d.sessions) e (held_once s d u t)

    listed_owners : Each (λ o. is t o ≡ true → mine p o ≡ true) (d.queue ++ listed_in_hands d.sessions)
    listed_owners = each_append (λ o. is t o ≡ true → mine p o ≡ true) d.queue (listed_in_hands d.sessions)
        (each_left (λ o. is t o ≡ true → mine p o ≡ true) d.queue (in_hands d.sessions) owners)
        (listed_of (λ o. is t o ≡ true → mine p o ≡ true) d.sessions (each_right (λ o. is t o ≡ true → mine p o ≡ true) d.queue (in_hands d.sessions) owners))

    noted_all : Each (Noted p j) (d.queue ++ listed_in_hands d.sessions)
    noted_all = each_append (Noted p j) d.queue (listed_in_hands d.sessions) k.waiting (listed_of (Noted p j) d.sessions (sending_noted p j d.sessions k.serving))

    alike : Each (Alike p (key j) (is t) (is (key j t))) (d.queue ++ listed_in_hands d.sessions)
    alike = each_both (Noted p j) (λ o. is t o ≡ true → mine p o ≡ true) (Alike p (key j) (is t) (is (key j t)))
        (λ o n w. (λ m. key_eqb j t o.toi (owns_noted p j d t k e) (n m), w)) (d.queue ++ listed_in_hands d.sessions) noted_all listed_owners

given_seen : (p : ℕ) (j : List ℕ) (s : Setup) (d : Desk) (t : ℕ) → Unique s d → Known p j d → owns p d t ≡ true → given (listed_as (view p j d) (key j t)) ≡ given (listed_as d t)
given_seen p j s d t u k e = ap given (listed_as_seen p j s d t u k e) ∙ go (listed_as d t)
  where
    go : (x : Option Object) → given (over (retag (key j)) x) ≡ given x
    go None = refl
    go (Some o) = refl

total_seen : (p : ℕ) (j : List ℕ) (s : Setup) (d : Desk) (t : ℕ) → Unique s d → Known p j d → owns p d t ≡ true
    → maybe None (λ (o : Object). Some o.life.total) (listed_as (view p j d) (key j t)) ≡ maybe None (λ (o : Object). Some o.life.total) (listed_as d t)
total_seen p j s d t u k e = ap (maybe None (λ (o : Object). Some o.life.total)) (listed_as_seen p j s d t u k e) ∙ go (listed_as d t)
  where
    go : (x : Option Object) → maybe None (λ (o : Object). Some o.life.total) (over (retag (key j)) x) ≡ maybe None (λ (o : Object). Some o.life.total) x
    go None = refl
    go (Some o) = refl

-- a change to what sessions hold, as it is seen
module _ (p : ℕ) (f : ℕ → ℕ) (g g' : Hand → Hand) where
  abbrev Commutes : Option Hand → Type 0
  Commutes None = Unit {0}
  Commutes (Some h) = mine p h.object ≡ true → retag_held f (g h) ≡ g' (retag_held f h)

  see_in_hand : (j : List ℕ) (x : Session) → Fits p j x → Commutes x.hand → see p f (in_hand g x) ≡ in_hand g' (see p f x)
  unfolding in_hand
  see_in_hand j x u c = λ i. record { priority = x.priority; hand = go (eqb x.priority p) x.hand (same_mine p x.priority j x.hand u) c i }
    where
      go : (b : Bool) (h : Option Hand) → Same_mine p b h → Commutes h
          → (when b then over (retag_held f) (maybe None (λ y. Some (g y)) h) else None) ≡ maybe None (λ y. Some (g' y)) (when b then over (retag_held f) h else None)
      go true None m c = refl
      go true (Some h) m c = ap Some (c m)
      go false None m c = refl
      go false (Some h) m c = refl

  abbrev Idle : Option Hand → Type 0
  Idle None = Unit {0}
  Idle (Some h) = mine p h.object ≡ true → g h ≡ h

  see_unmoved : (j : List ℕ) (x : Session) → Fits p j x → Idle x.hand → see p f (in_hand g x) ≡ see p f x
  unfolding in_hand
  see_unmoved j x u c = λ i. record { priority = x.priority; hand = go (eqb x.priority p) x.hand (same_mine p x.priority j x.hand u) c i }
    where
      go : (b : Bool) (h : Option Hand) → Same_mine p b h → Idle h
          → (when b then over (retag_held f) (maybe None (λ y. Some (g y)) h) else None) ≡ (when b then over (retag_held f) h else None)
      go true None m c = refl
      go true (Some h) m c = ap (λ y. Some (retag_held f y)) (c m)
      go false None m c = refl
      go false (Some h) m c = refl

-- publish, as it is seen
published_seen : (p : ℕ) (j : List ℕ) (d : Desk) → Known p j d → all_published (view p j d) ≡ view p j (all_published d)
unfolding all_published moved marked marked_hand
published_seen p j d k = λ i. record {
  complete = d.complete;
  next = suc (length j);
  loose = [];
  fdt = d.fdt;
  queue = sym (seen_map p (key j) marked marked d.queue (each_all (λ o. (mine p (marked o) ≡ mine p o) × (mine p o ≡ true → retag (key j) (marked o) ≡ marked (retag (key j) o))) (λ o. (refl, λ e. refl)) d.queue)) i;
  sessions = sym (map_comm (see p (key j)) (in_hand marked_hand) (in_hand marked_hand) d.sessions
      (each_imp (Fits p j) (λ x. see p (key j) (in_hand marked_hand x) ≡ in_hand marked_hand (see p (key j) x)) (λ x u. see_in_hand p (key j) marked_hand marked_hand j x u (commute x.hand)) d.sessions k.serving)) i;
}
  where
    commute : (h : Option Hand) → Commutes p (key j) marked_hand marked_hand h
    commute None = tt
    commute (Some h) = λ e. elim h.listed as (λ b. retag_held (key j) (when b then record { object = marked h.object; listed = true; encoder = h.encoder; pace = h.pace } else h)
        ≡ (when b then record { object = marked (retag (key j) h.object); listed = true; encoder = h.encoder; pace = h.pace } else retag_held (key j) h)) [ true ↦ refl | false ↦ refl ]

-- a touch of an owned number, as it is seen
touched_seen : (p : ℕ) (j : List ℕ) (d : Desk) (t : ℕ) (x : Touch) → Known p j d → has t j ≡ true → touched (key j t) x (view p j d) ≡ view p j (touched t x d)
unfolding touched moved is touched_waiting touched_hand
touched_seen p j d t x k e = λ i. record {
  complete = d.complete;
  next = suc (length j);
  loose = [];
  fdt = d.fdt;
  queue = sym (seen_touched (touched_waiting t x) (touched_kept t x) p (key j) (touched_waiting (key j t) x) d.queue (each_imp (Noted p j) Commute waits d.queue k.waiting)) i;
  sessions = sym (map_comm (see p (key j)) (in_hand (touched_hand t x)) (in_hand (touched_hand (key j t) x)) d.sessions
      (each_imp (Fits p j) (λ y. see p (key j) (in_hand (touched_hand t x) y) ≡ in_hand (touched_hand (key j t) x) (see p (key j) y))
      (λ y u. see_in_hand p (key j) (touched_hand t x) (touched_hand (key j t) x) j y u (commute y.priority y.hand u)) d.sessions k.serving)) i;
}
  where
    Commute : Object → Type 0
    Commute o = mine p o ≡ true → touched_waiting (key j t) x (retag (key j) o) ≡ over (retag (key j)) (touched_waiting t x o)

    waits : (o : Object) → Noted p j o → Commute o
    waits o n m = rw (key_eqb j t o.toi e (n m))
        (elim (eqb o.toi t) as (λ b. (when b then waiting_after x (retag (key j) o) else Some (retag (key j) o)) ≡ over (retag (key j)) (when b then waiting_after x o else Some o))
        [ true ↦ (renumbered_after (key j) x).0 o | false ↦ refl ])

    commute : (r : ℕ) (h : Option Hand) → HeldFits p j r h → Commutes p (key j) (touched_hand t x) (touched_hand (key j t) x) h
    commute r None u = tt
    commute r (Some h) u = λ m. rw (key_eqb j t h.object.toi e (u.1 m))
        (elim (eqb h.object.toi t) as (λ b. retag_held (key j) (when b then hand_after x h else h) ≡ (when b then hand_after x (retag_held (key j) h) else retag_held (key j) h))
        [ true ↦ sym ((renumbered_after (key j) x).1 h) | false ↦ refl ])

-- what a session holds has the property
abbrev pub HeldHas : (Object → Type 0) → Option Hand → Type 0
HeldHas P None = Unit {0}
HeldHas P (Some h) = P h.object

-- a number that the priority does not own: its objects do not have it
unowned : (p t : ℕ) (q : List Object) → any (λ o. mine p o && is t o) q ≡ false → Each (λ o. mine p o ≡ true → is t o ≡ false) q
unowned p t [] e = tt
unowned p t (o ∷ q) e = (elim (mine p o) as (λ b. ((b && is t o) || any (λ o. mine p o && is t o) q) ≡ false → (b ≡ true → is t o ≡ false) × Each (λ o. mine p o ≡ true → is t o ≡ false) q) [
  | true ↦ λ e. (λ m. or_left (is t o) (any (λ o. mine p o && is t o) q) e, unowned p t q (or_right (is t o) (any (λ o. mine p o && is t o) q) e))
  | false ↦ λ e. (λ m. absurd (false≢true m), unowned p t q e)
]) e

-- what holds of all that sessions send
pub each_sent : (P : Object → Type 0) (l : List Session) → Each P (in_hands l) → Each (λ (x : Session). HeldHas P x.hand) l
unfolding in_hands
each_sent P [] u = tt
each_sent P (x ∷ l) u = go (each_sent P l) x.hand u
  where
    go : (Each P (in_hands l) → Each (λ (x : Session). HeldHas P x.hand) l) → (h : Option Hand)
        → Each P (maybe (in_hands l) (λ o. o ∷ in_hands l) (maybe None (λ (h : Hand). Some h.object) h)) → HeldHas P h × Each (λ (x : Session). HeldHas P x.hand) l
    go back None v = (tt, back v)
    go back (Some h) v = (v.0, back v.1)

-- a touch of a number that is not owned does not show
touched_hidden : (p : ℕ) (j : List ℕ) (d : Desk) (t : ℕ) (x : Touch) → Known p j d → owns p d t ≡ false → view p j (touched t x d) ≡ view p j d
unfolding touched moved owns objects touched_waiting touched_hand
touched_hidden p j d t x k e = λ i. record {
  complete = d.complete;
  next = suc (length j);
  loose = [];
  fdt = d.fdt;
  queue = seen_still (touched_waiting t x) (touched_kept t x) p (key j) d.queue
      (each_imp (λ o. mine p o ≡ true → is t o ≡ false) (λ o. mine p o ≡ true → touched_waiting t x o ≡ Some o) (λ o n m. rw (n m)) d.queue
      (each_left (λ o. mine p o ≡ true → is t o ≡ false) d.queue (in_hands d.sessions) away)) i;
  sessions = map_hidden (see p (key j)) (in_hand (touched_hand t x)) d.sessions
      (each_both (Fits p j) (λ (y : Session). HeldHas (λ o. mine p o ≡ true → is t o ≡ false) y.hand) (λ y. see p (key j) (in_hand (touched_hand t x) y) ≡ see p (key j) y)
      (λ y u v. see_unmoved p (key j) (touched_hand t x) (touched_hand t x) j y u (still y.hand v)) d.sessions k.serving
      (each_sent (λ o. mine p o ≡ true → is t o ≡ false) d.sessions (each_right (λ o. mine p o ≡ true → is t o ≡ false) d.queue (in_hands d.sessions) away))) i;
}
  where
    away : Each (λ o. mine p o ≡ true → is t o ≡ false) (d.queue ++ in_hands d.sessions)
    away = unowned p t (d.queue ++ in_hands d.sessions) e

    still : (h : Option Hand) → HeldHas (λ o. mine p o ≡ true → is t o ≡ false) h → Idle p (key j) (touched_hand t x) (touched_hand t x) h
    still None v = tt
    still (Some h) v = λ m. rw (v m)

-- keys that agree on a list's numbers show the same
seen_same : (p : ℕ) (f g : ℕ → ℕ) (q : List Object) → Each (λ o. f o.toi ≡ g o.toi) q → seen p f q ≡ seen p g q
seen_same p f g [] u = refl
seen_same p f g (o ∷ q) u = elim (mine p o) as (λ b. (when b then retag f o ∷ seen p f q else seen p f q) ≡ (when b then retag g o ∷ seen p g q else seen p g q)) [
  | true ↦ (λ i. record { toi = u.0 i; priority = o.priority; part = o.part; sizes = o.sizes; plan = o.plan; life = o.life } ∷ seen_same p f g q u.1 i)
  | false ↦ seen_same p f g q u.1
]

see_same : (p : ℕ) (f g : ℕ → ℕ) (l : List Session) → Each (λ (x : Session). HeldHas (λ o. f o.toi ≡ g o.toi) x.hand) l → map (see p f) l ≡ map (see p g) l
see_same p f g [] u = refl
see_same p f g (x ∷ l) u = λ i. record { priority = x.priority; hand = go (eqb x.priority p) x.hand u.0 i } ∷ see_same p f g l u.1 i
  where
    go : (b : Bool) (h : Option Hand) → HeldHas (λ o. f o.toi ≡ g o.toi) h → (when b then over (retag_held f) h else None) ≡ (when b then over (retag_held g) h else None)
    go true None v = refl
    go true (Some h) v = λ i. Some record {
      object = record { toi = v i; priority = h.object.priority; part = h.object.part; sizes = h.object.sizes; plan = h.object.plan; life = h.object.life };
      listed = h.listed;
      encoder = h.encoder;
      pace = h.pace;
    }
    go false h v = refl

-- the number that an add gets is no object's
pub fresh_toi : (s : Setup) (d : Desk) (named : Option ℕ) → Unique s d → not_loose d named ≡ false → times (toi_for d named) (tois (objects d)) ≡ 0
unfolding toi_for not_loose numbers
fresh_toi s d None u e = let a = times_append d.next d.loose (tois (objects d)) in let b = u.free in omega arith
fresh_toi s d (Some t) u e =
    let a = times_append t d.loose (tois (objects d)) in
    let b = u.once t in
    let c = has_times t d.loose (not-false (has t d.loose) e) in omega arith

-- so the keys of the others stay
keys_stay : (j : List ℕ) (t : ℕ) (q : List Object) → times t (tois q) ≡ 0 → Each (λ o. key (t ∷ j) o.toi ≡ key j o.toi) q
unfolding is
keys_stay j t q h = each_imp (λ o. is t o ≡ false) (λ o. key (t ∷ j) o.toi ≡ key j o.toi)
    (λ o n. rw (ne_eqb t o.toi (λ z. eqb-false o.toi t n (sym z)))) q (none_has t q h)

own_key : (t : ℕ) (j : List ℕ) → key (t ∷ j) t ≡ suc (length j)
own_key t j = rw (eq-eqb t t refl)

-- an admitted object of the priority, as it is seen
admitted_seen : (p : ℕ) (j : List ℕ) (s : Setup) (t : ℕ) (q : Request) (d : Desk) → eqb q.priority p ≡ true → times t (tois (objects d)) ≡ 0
    → one_more s q (view p j d) ≡ view p (t ∷ j) (admitted s t q d)
unfolding admitted objects made
admitted_seen p j s t q d e h = λ i. record {
  complete = d.complete;
  next = suc (suc (length j));
  loose = [];
  fdt = d.fdt;
  queue = sym (seen_append p (key (t ∷ j)) d.queue (made s t q ∷ [])
      ∙ ap (λ l. l ++ seen p (key (t ∷ j)) (made s t q ∷ [])) (seen_same p (key (t ∷ j)) (key j) d.queue (each_left (λ o. key (t ∷ j) o.toi ≡ key j o.toi) d.queue (in_hands d.sessions) stay))
      ∙ ap (λ l. seen p (key j) d.queue ++ l) (seen_mine p (key (t ∷ j)) (made s t q) e)
      ∙ ap (λ k. seen p (key j) d.queue ++ (record { toi = k; priority = q.priority; part = q.part; sizes = own_sizes s q; plan = q.plan; life = (made s t q).life } ∷ [])) (own_key t j)) i;
  sessions = sym (see_same p (key (t ∷ j)) (key j) d.sessions
      (each_sent (λ o. key (t ∷ j) o.toi ≡ key j o.toi) d.sessions (each_right (λ o. key (t ∷ j) o.toi ≡ key j o.toi) d.queue (in_hands d.sessions) stay))) i;
}
  where
    stay : Each (λ o. key (t ∷ j) o.toi ≡ key j o.toi) (d.queue ++ in_hands d.sessions)
    stay = keys_stay j t (d.queue ++ in_hands d.sessions) h

-- another priority's is not seen
admitted_hidden : (p : ℕ) (j : List ℕ) (s : Setup) (t : ℕ) (q : Request) (d : Desk) → eqb q.priority p ≡ false → view p j (admitted s t q d) ≡ view p j d
unfolding admitted made
admitted_hidden p j s t q d e = λ i. record {
  complete = d.complete;
  next = suc (length j);
  loose = [];
  fdt = d.fdt;
  sessions = map (see p (key j)) d.sessions;
  queue = (seen_append p (key j) d.queue (made s t q ∷ []) ∙ ap (λ l. seen p (key j) d.queue ++ l) (seen_other p (key j) (made s t q) e) ∙ append-nil (seen p (key j) d.queue)) i;
}

-- giving a number does not show
reserved_hidden : (p : ℕ) (j : List ℕ) (s : Setup) (d : Desk) → view p j (reserved s d) ≡ view p j d
unfolding reserved numbered
reserved_hidden p j s d = refl

reserved_objects : (s : Setup) (d : Desk) (named : Option ℕ) → objects (when given named then d else reserved s d) ≡ objects d
unfolding reserved numbered objects
reserved_objects s d None = refl
reserved_objects s d (Some t) = refl

maybe_reserved_hidden : (p : ℕ) (j : List ℕ) (s : Setup) (d : Desk) (named : Option ℕ) → view p j (when given named then d else reserved s d) ≡ view p j d
maybe_reserved_hidden p j s d None = reserved_hidden p j s d
maybe_reserved_hidden p j s d (Some t) = refl

-- a priority's session is there for the view too
any_see : (p r : ℕ) (f : ℕ → ℕ) (l : List Session) → any (λ (x : Session). eqb x.priority r) (map (see p f) l) ≡ any (λ (x : Session). eqb x.priority r) l
any_see p r f [] = refl
any_see p r f (x ∷ l) = ap (λ b. eqb x.priority r || b) (any_see p r f l)

pub early_seen : (p : ℕ) (j : List ℕ) (s : Setup) (d : Desk) (q : Request) → early_refusal s (view p j d) q ≡ early_refusal s d q
unfolding early_refusal no_session
early_seen p j s d q = ap (λ b. first_of ((Because.NoPriority, not b) ∷ (Because.Complete, d.complete) ∷ (Because.Sizes, bad_blocks (own_sizes s q) q.part.size) ∷ [])) (any_see p q.priority (key j) d.sessions)

-- what an add comes to if it is not refused
abbrev pub add_result : Setup → Desk → Option ℕ → Request → Result
add_result s d named q = (Answer.number (toi_for d named), admitted s (toi_for d named) q (when given named then d else reserved s d))

-- an add of the priority
add_shown : (p : ℕ) (j : List ℕ) (s : Setup) (d : Desk) (named : Option ℕ) (q : Request) → Unique s d → eqb q.priority p ≡ true → is_barred (step s d (Call.add named q)).0 ≡ false
    → own_step s (view p j d) (Call.add None q) ≡ (
      answer_by (key (got_after p (Call.add named q) (step s d (Call.add named q)).0 j)) (step s d (Call.add named q)).0,
      view p (got_after p (Call.add named q) (step s d (Call.add named q)).0 j) (step s d (Call.add named q)).1,
    )
unfolding step
add_shown p j s d named q u e h = go (add_refusal s d named q) refl h
  where
    t : ℕ
    t = toi_for d named

    d' : Desk
    d' = when given named then d else reserved s d

    go : (x : Option Refusal) → add_refusal s d named q ≡ x → is_barred (unless x d (add_result s d named q)).0 ≡ false
        → unless (early_refusal s (view p j d) q) (view p j d) (Answer.number (suc (length j)), one_more s q (view p j d))
        ≡ (answer_by (key (got_after p (Call.add named q) (unless x d (add_result s d named q)).0 j)) (unless x d (add_result s d named q)).0, view p (got_after p (Call.add named q) (unless x d (add_result s d named q)).0 j) (unless x d (add_result s d named q)).1)
    go None r l = rw (early_seen p j s d q ∙ sym (add_early s d named q (ap late_no r)) ∙ r) (rw e (
        let same : one_more s q (view p j d) ≡ view p (t ∷ j) (admitted s t q d') =
        ap (one_more s q) (sym (maybe_reserved_hidden p j s d named))
        ∙ admitted_seen p j s t q d' e (ap (λ o. times t (tois o)) (reserved_objects s d named) ∙ fresh_toi s d named u (admissible s d named q r).is_loose) in
        λ i. (Answer.number (sym (own_key t j) i), same i)))
    go (Some n) r l = rw (early_seen p j s d q ∙ sym (add_early s d named q (ap late_no r ∙ l)) ∙ r)

-- a run of the priority's session
packet_answer : (f : ℕ → ℕ) (k : Option Packet) → Answer.output (over (packet_by f) k) ≡ answer_by f (Answer.output k)
packet_answer f None = refl
packet_answer f (Some k) = refl

sends : (p r : ℕ) (j : List ℕ) (h : Option Hand) → eqb r p ≡ true → HeldFits p j r h → Sends p h
sends p r j None e v = tt
sends p r j (Some h) e v = ap (λ n. eqb n p) v.0 ∙ e

see_mine : (p : ℕ) (f : ℕ → ℕ) (r : ℕ) (h : Option Hand) → eqb r p ≡ true
    → see p f (record { priority = r; hand = h }) ≡ record { priority = r; hand = over (retag_held f) h }
see_mine p f r h e = λ i. record { priority = r; hand = (when e i then over (retag_held f) h else None) }

ran_shown : (p : ℕ) (j : List ℕ) (s : Setup) (now i : ℕ) (d : Desk) (x : Session) → at d.sessions i ≡ Some x → Known p j d → eqb x.priority p ≡ true
    → ran s now i (view p j d) (see p (key j) x) ≡ (answer_by (key j) (ran s now i d x).0, view p j (ran s now i d x).1)
unfolding ran moved fdt_queued
ran_shown p j s now i d x a k e = λ z. (
  answer z,
  record {
    complete = d.complete;
    next = suc (length j);
    loose = [];
    fdt = d.fdt;
    queue = (turn z).queue;
    sessions = sessions z;
  },
)
  where
    f : ℕ → ℕ
    f = key j

    r : Turn
    r = file_run s x.priority now (fdt_queued d) d.queue x.hand

    fits : HeldFits p j x.priority x.hand
    fits = each_at (Fits p j) d.sessions i x a k.serving

    rr : Turn
    rr = file_run s x.priority now (fdt_queued d) (seen p f d.queue) (see p f x).hand

    at_p : (r : ℕ) → r ≡ p → (h : Option Hand) → Sends p h → file_run s r now (fdt_queued d) (seen p f d.queue) (over (retag_held f) h)
        ≡ see_turn p f (file_run s r now (fdt_queued d) d.queue h)
    at_p r q h v = subst (λ r. file_run s r now (fdt_queued d) (seen p f d.queue) (over (retag_held f) h) ≡ see_turn p f (file_run s r now (fdt_queued d) d.queue h)) (sym q)
        (file_run_seen p f s now (fdt_queued d) d.queue h v)

    turn : rr ≡ see_turn p f r
    turn = ap (λ b. file_run s x.priority now (fdt_queued d) (seen p f d.queue) (when b then over (retag_held f) x.hand else None)) e
        ∙ at_p x.priority (eqb-true x.priority p e) x.hand (sends p x.priority j x.hand e fits)

    answer : Answer.output rr.packet ≡ answer_by f (Answer.output r.packet)
    answer = ap (λ (y : Turn). Answer.output y.packet) turn ∙ packet_answer f r.packet

    sessions : set (map (see p f) d.sessions) i (record { priority = x.priority; hand = rr.hand }) ≡ map (see p f) (set d.sessions i (record { priority = x.priority; hand = r.hand }))
    sessions = ap (λ (y : Turn). set (map (see p f) d.sessions) i (record { priority = x.priority; hand = y.hand })) turn
        ∙ ap (λ y. set (map (see p f) d.sessions) i y) (sym (see_mine p f x.priority r.hand e))
        ∙ sym (map_set (see p f) d.sessions i (record { priority = x.priority; hand = r.hand }))

-- a run of another's
ran_hidden : (p : ℕ) (j : List ℕ) (s : Setup) (now i : ℕ) (d : Desk) (x : Session) → at d.sessions i ≡ Some x → Known p j d → eqb x.priority p ≡ false
    → view p j (ran s now i d x).1 ≡ view p j d
unfolding ran moved
ran_hidden p j s now i d x a k e = λ z. record {
  complete = d.complete;
  next = suc (length j);
  loose = [];
  fdt = d.fdt;
  queue = file_run_other p (key j) x.priority e s now (fdt_queued d) d.queue j x.hand (each_at (Fits p j) d.sessions i x a k.serving) z;
  sessions = map_set_same (see p (key j)) d.sessions i (record { priority = x.priority; hand = (file_run s x.priority now (fdt_queued d) d.queue x.hand).hand }) x a
      (λ w. record { priority = x.priority; hand = (both (file_run s x.priority now (fdt_queued d) d.queue x.hand).hand x.hand w) }) z;
}
  where
    both : (g h : Option Hand) → (when eqb x.priority p then over (retag_held (key j)) g else None) ≡ (when eqb x.priority p then over (retag_held (key j)) h else None)
    both g h = rw e

-- an FDT run, as it is seen
fdt_seen : (p : ℕ) (j : List ℕ) (d : Desk) (r : FdtTurn) → Known p j d
    → (when r.taken then all_published (with_fdt (view p j d) r.fdt) else with_fdt (view p j d) r.fdt) ≡ view p j (when r.taken then all_published (with_fdt d r.fdt) else with_fdt d r.fdt)
unfolding with_fdt
fdt_seen p j d r k = elim r.taken
    as (λ b. (when b then all_published (with_fdt (view p j d) r.fdt) else with_fdt (view p j d) r.fdt) ≡ view p j (when b then all_published (with_fdt d r.fdt) else with_fdt d r.fdt))
    [ true ↦ published_seen p j (with_fdt d r.fdt) (record { waiting = k.waiting; serving = k.serving }) | false ↦ refl ]

-- a packet with an id
abbrev FdtPacket : Option Packet → Type 0
FdtPacket None = Unit {0}
FdtPacket (Some k) = given k.id ≡ true

-- FDT packets have an id, so their answers stay
fdt_answer : (f : ℕ → ℕ) (b : Bool) (k : Option Packet) → FdtPacket k → Answer.fdt_output b k ≡ answer_by f (Answer.fdt_output b k)
fdt_answer f b None u = refl
fdt_answer f b (Some k) u = λ i. Answer.fdt_output b (Some record { id = k.id; toi = (when sym u i then k.toi else f k.toi); symbol = k.symbol })

fdt_run_packet : (s : Setup) (now : ℕ) (draft : Option Part) (f : Fdt) → FdtPacket (fdt_run s now draft f).packet
unfolding fdt_sent
fdt_run_packet s now draft f = fdt_run_goes s now draft (λ b f. Unit {0}) (λ (t : FdtTurn). FdtPacket t.packet) (record {
  rests = λ b f i. tt;
  sends = λ b f h y i. refl;
  ends = λ b f h i. tt;
  asks = λ b f e i. tt;
}) f tt

-- a call that is not the priority's does not show
pub hidden : (p : ℕ) (j : List ℕ) (s : Setup) (d : Desk) (c : Call) → Known p j d → about p d c ≡ false → view p (got_after p c (step s d c).0 j) (step s d c).1 ≡ view p j d
unfolding step about numbered moved
hidden p j s d Call.reserve k e = go (reserve_refusal d)
  where
    go : (x : Option Refusal) → view p j (unless x d (Answer.number d.next, reserved s d)).1 ≡ view p j d
    go None = reserved_hidden p j s d
    go (Some n) = refl
hidden p j s d (Call.release t) k e = go (release_refusal d t)
  where
    go : (x : Option Refusal) → view p j (unless x d (Answer.done, numbered d d.next (unloosed t d.loose))).1 ≡ view p j d
    go None = refl
    go (Some n) = refl
hidden p j s d (Call.add named q) k e = go (add_refusal s d named q)
  where
    go : (x : Option Refusal) → view p (got_after p (Call.add named q) (unless x d (add_result s d named q)).0 j) (unless x d (add_result s d named q)).1 ≡ view p j d
    go None = rw e (admitted_hidden p j s (toi_for d named) q (when given named then d else reserved s d) e ∙ maybe_reserved_hidden p j s d named)
    go (Some n) = refl
hidden p j s d (Call.touch t x) k e = touched_hidden p j d t x k e
hidden p j s d (Call.ask q) k e = refl
hidden p j s d Call.complete k e = absurd (true≢false e)
hidden p j s d (Call.publish now c) k e = absurd (true≢false e)
hidden p j s d (Call.run_fdt now draft) k e = absurd (true≢false e)
hidden p j s d (Call.run_file i now) k e = go (at d.sessions i) refl e
  where
    go : (x : Option Session) → at d.sessions i ≡ x → maybe false (λ (x : Session). eqb x.priority p) x ≡ false → view p j (maybe (Answer.refused Because.NoSession, d) (ran s now i d) x).1 ≡ view p j d
    go None a e = refl
    go (Some x) a e = ran_hidden p j s now i d x a k e

-- a question about the priority is answered as on its own desk
answer_seen : (p : ℕ) (j : List ℕ) (s : Setup) (d : Desk) (q : Question) → Unique s d → Known p j d → about_question p d q ≡ true
    → answer_to (view p j d) (question_by (key j) q) ≡ answer_by (key j) (answer_to d q)
answer_seen p j s d (Question.listed t) u k e = ap Answer.truth (given_seen p j s d t u k e)
answer_seen p j s d (Question.transfers t) u k e = ap Answer.transferred (total_seen p j s d t u k e)

-- one of the priority's is answered as on its own desk
pub shown : (p : ℕ) (j : List ℕ) (s : Setup) (d : Desk) (c : Call) → Unique s d → Known p j d → about p d c ≡ true → turned_away p c (step s d c).0 ≡ false
    → own_step s (view p j d) (call_by (key j) c) ≡ (answer_by (key (got_after p c (step s d c).0 j)) (step s d c).0, view p (got_after p c (step s d c).0 j) (step s d c).1)
unfolding step about numbered moved with_fdt fdt_ran
shown p j s d Call.reserve u k e h = absurd (false≢true e)
shown p j s d (Call.release t) u k e h = absurd (false≢true e)
shown p j s d (Call.add named q) u k e h = add_shown p j s d named q u e (rw e at h)
shown p j s d (Call.touch t x) u k e h = λ i. (Answer.truth (given_seen p j s d t u k e i), touched_seen p j d t x k (owns_noted p j d t k e) i)
shown p j s d (Call.ask q) u k e h = λ i. (answer_seen p j s d q u k e i, view p j d)
shown p j s d Call.complete u k e h = refl
shown p j s d (Call.publish now c) u k e h = go (publish_refusal s d.fdt c)
  where
    go : (x : Option Refusal) → unless x (view p j d) (Answer.done, all_published (with_fdt (view p j d) (fdt_published now c d.fdt)))
        ≡ (answer_by (key j) (unless x d (Answer.done, all_published (with_fdt d (fdt_published now c d.fdt)))).0, view p j (unless x d (Answer.done, all_published (with_fdt d (fdt_published now c d.fdt)))).1)
    go None = λ i. (Answer.done, published_seen p j (with_fdt d (fdt_published now c d.fdt)) (record { waiting = k.waiting; serving = k.serving }) i)
    go (Some n) = refl
shown p j s d (Call.run_fdt now draft) u k e h = go (draft_refusal s d.fdt draft) (fdt_run s now (draft_of draft) d.fdt) (fdt_run_packet s now (draft_of draft) d.fdt)
  where
    go : (x : Option Refusal) (r : FdtTurn) → FdtPacket r.packet
        → unless x (view p j d) (Answer.fdt_output r.taken r.packet, when r.taken then all_published (with_fdt (view p j d) r.fdt) else with_fdt (view p j d) r.fdt)
        ≡ (
          answer_by (key j) (unless x d (Answer.fdt_output r.taken r.packet, when r.taken then all_published (with_fdt d r.fdt) else with_fdt d r.fdt)).0,
          view p j (unless x d (Answer.fdt_output r.taken r.packet, when r.taken then all_published (with_fdt d r.fdt) else with_fdt d r.fdt)).1,
        )
    go None r v = λ i. (fdt_answer (key j) r.taken r.packet v i, fdt_seen p j d r k i)
    go (Some n) r v = refl
shown p j s d (Call.run_file i now) u k e h = rw (at_map (see p (key j)) d.sessions i) (go (at d.sessions i) refl e)
  where
    go : (x : Option Session) → at d.sessions i ≡ x → maybe false (λ (x : Session). eqb x.priority p) x ≡ true
        → maybe (Answer.refused Because.NoSession, view p j d) (ran s now i (view p j d)) (over (see p (key j)) x)
        ≡ (answer_by (key j) (maybe (Answer.refused Because.NoSession, d) (ran s now i d) x).0, view p j (maybe (Answer.refused Because.NoSession, d) (ran s now i d) x).1)
    go None a e = absurd (false≢true e)
    go (Some x) a e = ran_shown p j s now i d x a k e

-- so a run's answers to the priority are those of its calls alone
pub answered_alone : (s : Setup) (p : ℕ) → 16 ≤ s.width → (j : List ℕ) (d : Desk) (l : List Call) → Unique s d → Known p j d → smooth s p d l ≡ true
    → answers s p j d l ≡ own_run s (view p j d) (calls s p j d l)
unfolding answers calls smooth
answered_alone s p w j d [] u k h = refl
answered_alone s p w j d (c ∷ l) u k h =
    (elim (about p d c) as (λ b. about p d c ≡ b
    → (when b then answer_by (key (got_after p c (step s d c).0 j)) (step s d c).0 ∷ answers s p (got_after p c (step s d c).0 j) (step s d c).1 l else answers s p (got_after p c (step s d c).0 j) (step s d c).1 l)
    ≡ own_run s (view p j d) (when b then call_by (key j) c ∷ calls s p (got_after p c (step s d c).0 j) (step s d c).1 l else calls s p (got_after p c (step s d c).0 j) (step s d c).1 l)) [
      | true ↦ λ e. (let q = shown p j s d c u k e (not-true (turned_away p c (step s d c).0) (and_left (not (turned_away p c (step s d c).0)) (smooth s p (step s d c).1 l) h)) in
          (let rest = answered_alone s p w (got_after p c (step s d c).0 j) (step s d c).1 l (unique_step s d c w u) (known_step p j s d c k) (and_right (not (turned_away p c (step s d c).0)) (smooth s p (step s d c).1 l) h) in
          λ i. (sym q i).0 ∷ (rest ∙ ap (λ (r : Result). own_run s r.1 (calls s p (got_after p c (step s d c).0 j) (step s d c).1 l)) (sym q)) i))
      | false ↦ λ e. answered_alone s p w (got_after p c (step s d c).0 j) (step s d c).1 l (unique_step s d c w u) (known_step p j s d c k) (and_right (not (turned_away p c (step s d c).0)) (smooth s p (step s d c).1 l) h)
          ∙ ap (λ v. own_run s v (calls s p (got_after p c (step s d c).0 j) (step s d c).1 l)) (hidden p j s d c k e)
    ]) refl

-- two runs with the same calls about the priority are answered alike
pub alike : (s : Setup) (p : ℕ) → 16 ≤ s.width → AlikeRuns s p
unfolding AlikeRuns
alike s p w l m hl hm e = alone l hl ∙ ap (own_run s (view p [] (opening s))) e ∙ sym (alone m hm)
  where
    alone : (l : List Call) → smooth s p (opening s) l ≡ true → answers s p [] (opening s) l ≡ own_run s (view p [] (opening s)) (calls s p [] (opening s) l)
    alone l h = answered_alone s p w [] (opening s) l (unique_opening s w) (known_opening p s) h

packet_own : (p : ℕ) (j : List ℕ) (r : ℕ) (k : Option Packet) → eqb r p ≡ true → PacketNoted p j r k → PacketOf j k
packet_own p j r None e u = tt
packet_own p j r (Some k) e u = λ z. u e

fdt_own : (j : List ℕ) (k : Option Packet) → FdtPacket k → PacketOf j k
fdt_own j None u = tt
fdt_own j (Some k) u = λ z. absurd (true≢false (sym u ∙ z))

-- a question names no packet
answer_own : (j : List ℕ) (d : Desk) (q : Question) → NumberOf j (answer_to d q)
answer_own j d (Question.listed t) = tt
answer_own j d (Question.transfers t) = tt

-- a call of the priority
number_step : (p : ℕ) (j : List ℕ) (s : Setup) (d : Desk) (c : Call) → Known p j d → about p d c ≡ true → NumberOf (got_after p c (step s d c).0 j) (step s d c).0
unfolding step about ran fdt_ran
number_step p j s d Call.reserve k e = absurd (false≢true e)
number_step p j s d (Call.release t) k e = absurd (false≢true e)
number_step p j s d (Call.add named q) k e = go (add_refusal s d named q)
  where
    go : (x : Option Refusal) → NumberOf (got_after p (Call.add named q) (unless x d (add_result s d named q)).0 j) (unless x d (add_result s d named q)).0
    go None = tt
    go (Some n) = tt
number_step p j s d (Call.touch t x) k e = tt
number_step p j s d (Call.ask q) k e = answer_own j d q
number_step p j s d Call.complete k e = tt
number_step p j s d (Call.publish now c) k e = go (publish_refusal s d.fdt c)
  where
    go : (x : Option Refusal) → NumberOf j (unless x d (Answer.done, all_published (with_fdt d (fdt_published now c d.fdt)))).0
    go None = tt
    go (Some n) = tt
number_step p j s d (Call.run_fdt now draft) k e = go (draft_refusal s d.fdt draft)
  where
    r : FdtTurn
    r = fdt_run s now (draft_of draft) d.fdt

    go : (x : Option Refusal) → NumberOf j (unless x d (Answer.fdt_output r.taken r.packet, when r.taken then all_published (with_fdt d r.fdt) else with_fdt d r.fdt)).0
    go None = fdt_own j r.packet (fdt_run_packet s now (draft_of draft) d.fdt)
    go (Some n) = tt
number_step p j s d (Call.run_file i now) k e = go (at d.sessions i) refl e
  where
    go : (x : Option Session) → at d.sessions i ≡ x → maybe false (λ (x : Session). eqb x.priority p) x ≡ true → NumberOf j (maybe (Answer.refused Because.NoSession, d) (ran s now i d) x).0
    go None a e = tt
    go (Some x) a e = packet_own p j x.priority (file_run s x.priority now (fdt_queued d) d.queue x.hand).packet e
        (file_run_known p j x.priority s now (fdt_queued d) d.queue x.hand k.waiting (each_at (Fits p j) d.sessions i x a k.serving)).2

-- object numbers in the answers are those that the priority's admissions got
pub own_numbers : (s : Setup) (p : ℕ) (j : List ℕ) (d : Desk) (l : List Call) → Known p j d → OwnNumbers s p j d l
own_numbers s p j d [] k = tt
own_numbers s p j d (c ∷ l) k = (λ e. number_step p j s d c k e, own_numbers s p (got_after p c (step s d c).0 j) (step s d c).1 l (known_step p j s d c k))
