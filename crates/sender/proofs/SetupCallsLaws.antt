-- Set-up: which numbers are in their ranges, and that the sender which it opens is the definition's opening desk.
use mathlib.Core.Path.{◌≡◌, refl, sym, ◌∙◌, ap, subst}
use mathlib.Core.Bool.{Bool, true, false, ◌&&◌, false≢true}
use Rattle.std.specs.Prelude.{None, Some, Ok, Err}
use Rattle.sizes.specs.declared.refusal.Refusal.TheVariants as Because
use mathlib.Core.List.{List, [], ◌∷◌, map}
use Prim.Native.Nat.{ℕ, zero, suc, ◌≤◌}
use native.Mathlib.Omega.{arith}
use lib.Dec.{leb}
use lib.ListN.{length, get_or, take, replicate, length-replicate}
use lib.Seq.{length-take-le}
use borrow.Author.Tests.{le-leb, le-ltb, leb-true}
use mir.Syntax.{w32}
use mir.Val.{Fits}
use Rattle.sizes.specs.Words.{when◌then◌else◌, all, has, within, collect, one_if, times}
use Rattle.sizes.specs.Limits.{most_sessions, largest_window, largest_priority, longest_store, largest_fdt_id}
use Rattle.sizes.specs.Allocator as Alloc
use Rattle.sizes.specs.declared.toiallocator.ToiAllocator.{ToiAllocator}
use Rattle.sizes.proofs.Tests.{Tested, pass, fail, tested}
use Rattle.sizes.proofs.Widths.{a_wide}
use Rattle.sizes.proofs.AllocatorViews.{opened_view, opened_next}
use Rattle.lifecycle.specs.Lifecycle as Life
use Rattle.lifecycle.specs.Setup.{sound, sound_sizes, widths}
use Rattle.lifecycle.specs.FileDesc.{carousel_named}
use Rattle.lifecycle.specs.declared.filedesc.Carousel.{Carousel}
use Rattle.lifecycle.specs.declared.filedesc.Carousel.TheVariants as CarouselV
use Rattle.lifecycle.specs.FdtCalls.{sends, used, opening_fdt}
use Rattle.lifecycle.specs.FdtCalls.{ValidFdt}
use Rattle.lifecycle.specs.declared.slots.Slot.{Slot}
use Rattle.lifecycle.specs.declared.fdt.Fdt.{Fdt}
use Rattle.lifecycle.specs.declared.fdt.Settings.{Settings}
use Rattle.lifecycle.proofs.SetupLaws.{told, passed, sound_tests}
use Rattle.lifecycle.proofs.FdtKeeps.{OpeningList, opening_list}
use Rattle.lifecycle.proofs.PublishLaws.{valid_opened}
use Rattle.definition.specs.Desk as Def
use Rattle.sender.proofs.SessionFacts.{idle_stands}
use Rattle.sender.specs.SessionCalls.{idle_of, object_of, session_of}
use Rattle.sender.specs.SessionMeans.{Stands, fdt_carousel_of}
use Rattle.sender.specs.SenderCalls.{desk_of, Agrees, ValidSender, slot_in}
use Rattle.sender.specs.SetupCalls.{priorities_said, setup_said, is_interval, interval_in, settings_of, priority_at, opening_sender, opened_of, Opens}
use Rattle.sender.specs.declared.sendersession.SenderSession.{SenderSession}
use Rattle.sender.specs.declared.setup.Setup.{Setup}

-- ---- every number in its range

-- every priority of 32 bits is in its range
small_all : (n : ℕ) (l : List ℕ) → ((i : ℕ) → Fits w32 (get_or l i 0)) → all (λ p. leb p largest_priority) (take n l) ≡ true
small_all zero l h = refl
small_all (suc n) [] h = refl
small_all (suc n) (a ∷ l) h = rw (le-leb a largest_priority (let z = (h 0).fits in omega arith)) (small_all n l (λ i. h (suc i)))

zeros_all : (n : ℕ) → all (λ p. leb p largest_priority) (replicate n 0) ≡ true
zeros_all zero = refl
zeros_all (suc n) = zeros_all n

-- what a call's set-up names: four priorities of 32 bits
module _ (z : Setup) where
  counted : length z.priorities ≡ most_sessions → length (priorities_said z) ≡ z.count
  counted l = go (tested (leb z.count most_sessions))
    where
      go : Tested (leb z.count most_sessions) → length (priorities_said z) ≡ z.count
      go (pass e) = rw e (length-take-le z.count z.priorities (let h = leb-true z.count most_sessions e in omega arith))
      go (fail e) = rw e (length-replicate {A = ℕ} z.count 0)

  pub few_named : length z.priorities ≡ most_sessions → {t : Bool} → within 1 most_sessions z.count ≡ t → within 1 most_sessions (length (priorities_said z)) ≡ t
  few_named l e = ap (within 1 most_sessions) (counted l) ∙ e

  pub small_named : ((i : ℕ) → Fits w32 (get_or z.priorities i 0)) → all (λ p. leb p largest_priority) (priorities_said z) ≡ true
  small_named h = go (tested (leb z.count most_sessions))
    where
      go : Tested (leb z.count most_sessions) → all (λ p. leb p largest_priority) (priorities_said z) ≡ true
      go (pass e) = rw e (small_all z.count z.priorities h)
      go (fail e) = rw e (zeros_all z.count)

-- test by test, where every priority is in its range
pub sound_by : (z : Setup) → ((i : ℕ) → Fits w32 (get_or z.priorities i 0)) → sound (setup_said z)
    ≡ (within 1 most_sessions (length (priorities_said z)) && within 1 largest_window z.window && sound_sizes z.sizes
    && leb z.object_store longest_store && leb z.fdt_store longest_store && has z.width widths && leb z.first_fdt_id largest_fdt_id)
sound_by z h = sound_tests (setup_said z) (small_named z h)

-- ---- the sessions of the opening sender

-- four idle sessions, with these priorities
abbrev four : (ℕ → ℕ) → List SenderSession
four p = map idle_of (map p (0 ∷ 1 ∷ 2 ∷ 3 ∷ []))

-- each has nothing in hand
four_stand : (f : Fdt) (w : ℕ) (p : ℕ → ℕ) (i : ℕ) → Stands f w (get_or (four p) i (idle_of 0))
four_stand f w p zero = idle_stands f w (p 0)
four_stand f w p (suc zero) = idle_stands f w (p 1)
four_stand f w p (suc (suc zero)) = idle_stands f w (p 2)
four_stand f w p (suc (suc (suc zero))) = idle_stands f w (p 3)
four_stand f w p (suc (suc (suc (suc i)))) = idle_stands f w 0

no_hands : (n : ℕ) (l : List ℕ) → collect slot_in (take n (map idle_of l)) ≡ []
no_hands zero l = refl
no_hands (suc n) [] = refl
no_hands (suc n) (p ∷ l) = no_hands n l

-- zeros past the sessions in use
module _ (l : List ℕ) (n : ℕ) where
  past : (i : ℕ) → n ≤ i → idle_of (priority_at l n i) ≡ idle_of 0
  unfolding priority_at
  past i h = ap (λ t. idle_of (when t then get_or l i 0 else 0)) (le-ltb i n h)

  four_spare : (i : ℕ) → n ≤ i → get_or (four (priority_at l n)) i (idle_of 0) ≡ idle_of 0
  four_spare zero h = past 0 h
  four_spare (suc zero) h = past 1 h
  four_spare (suc (suc zero)) h = past 2 h
  four_spare (suc (suc (suc zero))) h = past 3 h
  four_spare (suc (suc (suc (suc i)))) h = refl

-- those in use have the priorities that were named
named : (t : List Slot) (l : List ℕ) (n : ℕ) → length l ≡ 4 → n ≤ 4
    → map (session_of t) (take n (four (priority_at l n))) ≡ map (λ p. record { priority = p; hand = None }) (take n l)
unfolding priority_at
named t (x ∷ y ∷ z ∷ w ∷ []) zero q h = refl
named t (x ∷ y ∷ z ∷ w ∷ []) (suc zero) q h = refl
named t (x ∷ y ∷ z ∷ w ∷ []) (suc (suc zero)) q h = refl
named t (x ∷ y ∷ z ∷ w ∷ []) (suc (suc (suc zero))) q h = refl
named t (x ∷ y ∷ z ∷ w ∷ []) (suc (suc (suc (suc zero)))) q h = refl
named t (x ∷ y ∷ z ∷ w ∷ []) (suc (suc (suc (suc (suc n))))) q h = absurd (omega arith)
named t [] n q h = absurd (omega arith)
named t (x ∷ []) n q h = absurd (omega arith)
named t (x ∷ y ∷ []) n q h = absurd (omega arith)
named t (x ∷ y ∷ z ∷ []) n q h = absurd (omega arith)
named t (x ∷ y ∷ z ∷ w ∷ v ∷ l) n q h = absurd (omega arith)

-- ---- the opening sender

-- what every call is given
pub record OpeningKept (z : Setup) : Type 0 where
  pub means : desk_of (opening_sender z) ≡ Def.opening (setup_said z)
  pub agrees : Agrees (setup_said z) (opening_sender z)
  pub valid : ValidSender (opening_sender z)

module _ (z : Setup) (long : length z.priorities ≡ most_sessions) (ok : sound (setup_said z) ≡ true) where
  few : z.count ≤ most_sessions
  few = let q = (told (setup_said z) ok).sessions.1 in let l = counted z long in omega arith

  -- the list that it opens
  opened_list : OpeningList (settings_of z) (Alloc.new_allocator z.width z.first_toi) z.first_fdt_id (opening_sender z).fdt
  unfolding opening_sender
  opened_list = opening_list (settings_of z) (Alloc.new_allocator z.width z.first_toi) z.first_fdt_id

  desk_opened : desk_of (opening_sender z) ≡ Def.opening (setup_said z)
  unfolding desk_of opening_sender Def.opening
  desk_opened =
      let o = opened_list in
      let q : (when leb z.count most_sessions then take z.count z.priorities else replicate z.count 0) ≡ take z.count z.priorities = rw (le-leb z.count most_sessions few) in
      let e = named (opening_sender z).fdt.slots z.priorities z.count long few ∙ sym (ap (map (λ p. record { priority = p; hand = None })) q) in
      let n = ap (λ (a : ToiAllocator). a.next) o.tois ∙ (opened_next z.width z.first_toi).0 in
      let l = ap Alloc.loose o.tois ∙ (opened_view z.width z.first_toi).0 in
      λ i. record {
        complete = o.complete i;
        next = n i;
        loose = l i;
        queue = map object_of (o.queue i);
        sessions = e i;
        fdt = record { state = o.side i; hand = None };
      }

  agrees_opened : Agrees (setup_said z) (opening_sender z)
  unfolding opening_sender
  agrees_opened =
      let x = sym opened_list.settings in
      record {
        window = refl;
        sizes = ap (λ (x : Settings). x.sizes) x;
        object_store = ap (λ (x : Settings). x.object_store) x;
        fdt_store = ap (λ (x : Settings). x.fdt_store) x;
        width = sym (ap (λ (a : ToiAllocator). a.width) opened_list.tois ∙ (opened_next z.width z.first_toi).1);
        carousel = by_carousel z.carousel ∙ ap fdt_carousel_of x;
        validity = ap (λ (x : Settings). x.validity) x;
      }
    where
      by_carousel : (k : Carousel) → carousel_named k ≡ (when is_interval k then Life.Carousel.interval (interval_in k) else Life.Carousel.delay (interval_in k))
      by_carousel (CarouselV.Delay t) = refl
      by_carousel (CarouselV.Interval t) = refl

  list_valid : ValidFdt (opening_sender z).fdt
  unfolding opening_sender
  list_valid =
      let w = a_wide z.width (passed (setup_said z) ok).width in
      subst (λ n. ValidFdt (opening_fdt (settings_of z) (Alloc.new_allocator n z.first_toi) z.first_fdt_id)) (sym w.1)
      (valid_opened (settings_of z) w.0 z.first_toi z.first_fdt_id (told (setup_said z) ok).first_id)

  valid_opened_sender : ValidSender (opening_sender z)
  unfolding opening_sender
  valid_opened_sender =
      let t = told (setup_said z) ok in
      let o = opened_list in
      record {
        holds = record { valid = list_valid; good = λ k u. absurd (false≢true (sym (ap used (o.slots k)) ∙ u)) };
        fdt_holds = record { valid = list_valid; waiting = λ i h. absurd (let n = o.none_waits in omega arith); current = λ q. absurd (false≢true (sym o.no_current ∙ q)) };
        object_store = subst (λ (x : Settings). x.object_store ≤ longest_store) (sym o.settings) t.object_store;
        fdt_store = subst (λ (x : Settings). x.fdt_store ≤ longest_store) (sym o.settings) t.fdt_store;
        narrow = t.window.1;
        few = few;
        long = refl;
        sessions = λ i h. four_stand (opening_sender z).fdt z.window (priority_at z.priorities z.count) i;
        spare = four_spare z.priorities z.count;
        in_hand = λ k. ap (times k) (no_hands z.count (map (priority_at z.priorities z.count) (0 ∷ 1 ∷ 2 ∷ 3 ∷ []))) ∙ sym (ap (λ v. one_if (sends v)) (o.slots k));
        fdt_busy = λ q. absurd (false≢true q);
        fdt_idle = λ q. refl;
        matched = o.none_sent;
      }

  pub opening_kept : OpeningKept z
  opening_kept = record { means = desk_opened; agrees = agrees_opened; valid = valid_opened_sender }

-- ---- set-up

module _ (z : Setup) where
  pub opens_not : sound (setup_said z) ≡ false → Opens z (Err Because.SetUp)
  unfolding opened_of Def.set_up
  opens_not q = record { exact = rw q; means = rw q; agrees = tt; valid = tt }

  pub opens : length z.priorities ≡ most_sessions → sound (setup_said z) ≡ true → Opens z (Ok (opening_sender z))
  unfolding opened_of Def.set_up
  opens long q =
      let k = opening_kept z long q in
      record {
        exact = rw q;
        means = rw q (ap (λ x. (Def.Answer.done, Some x)) (sym k.means));
        agrees = k.agrees;
        valid = k.valid;
      }
