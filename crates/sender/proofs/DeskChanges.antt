-- A change of the list under the sender: what its sessions have in hand after it, that the sender stays valid, and the object with a number.
use mathlib.Core.Path.{◌≡◌, refl, sym, ◌∙◌, ap, subst}
use mathlib.Core.Bool.{Bool, true, false}
use Rattle.std.specs.Prelude.{Option, None, Some}
use mathlib.Core.List.{List, [], ◌∷◌, ◌++◌, map}
use Prim.Native.Nat.{ℕ}
use lib.Dec.{eqb}
use lib.ListN.{get_or}
use lib.Seq.{get_or-take}
use Rattle.sizes.specs.Words.{when◌then◌else◌, maybe, over, given, collect, find, at}
use Rattle.sizes.proofs.Lists.{at_take, at_get, map_append}
use Rattle.sizes.proofs.Tables.{map_at, find_map}
use Rattle.lifecycle.specs.Setup.{Setup}
use Rattle.lifecycle.specs.Slots.{slot_at}
use Rattle.lifecycle.specs.Announce.{state_of}
use Rattle.lifecycle.specs.FdtCalls.{file_at, files, sends, listed_place}
use Rattle.lifecycle.proofs.FdtMeans.{listed_files, SentSame}
use Rattle.lifecycle.specs.declared.filedesc.FileDesc.{FileDesc}
use Rattle.lifecycle.specs.declared.slots.Slot.{Slot}
use Rattle.lifecycle.specs.declared.announce.Announcer.{Announcer}
use Rattle.lifecycle.specs.declared.fdt.Fdt.{Fdt}
use Rattle.lifecycle.proofs.FdtKeeps.{ObjectsOnly}
use Rattle.lifecycle.proofs.FdtSent.{same_counts}
use Rattle.lifecycle.proofs.FdtByNumber.{listed_given}
use Rattle.definition.specs.Session.{Object, Hand, Session}
use Rattle.definition.specs.Desk as Def
use Rattle.sender.specs.SessionCalls.{object_of, hand_of, session_of, idle_of, Holds}
use Rattle.sender.specs.FdtSessionCalls.{FdtHolds}
use Rattle.sender.specs.SessionMeans.{Stands}
use Rattle.sender.proofs.SessionFacts.{SameSide}
use Rattle.sender.specs.SenderCalls.{working, desk_of, Agrees, slot_in, ValidSender, with_list}
use Rattle.sender.specs.declared.sendersession.SenderSession.{SenderSession}
use Rattle.sender.specs.declared.sender.Sender.{Sender}

-- ---- sessions in use

-- a map through another
map_through : {A B C : Type 0} (F : B → C) (G : A → B) (l : List A) → map (λ a. F (G a)) l ≡ map F (map G l)
map_through F G [] = refl
map_through F G (a ∷ l) = ap (λ r. F (G a) ∷ r) (map_through F G l)

-- each session in use has an object in hand, or nothing
pub working_stands : (s : Sender) → ValidSender s → (i : ℕ) (x : SenderSession) → at (working s) i ≡ Some x → Stands s.fdt s.window x
working_stands s v i x e =
    let h = at_take s.sessions s.count i x e in
    subst (Stands s.fdt s.window) (sym (get_or-take s.count s.sessions i (idle_of 0) h) ∙ (at_get (idle_of 0) (working s) i x e).0) (v.sessions i h)

-- the slots are t from now on: where each slot in transfer means g of what it meant, each hand is g of what it was
pub sessions_moved : (s : Sender) → ValidSender s → (t : List Slot) (g : Hand → Hand)
    → ((j : ℕ) (x : SenderSession) → sends (slot_at s.fdt.slots j) ≡ true → hand_of (slot_at t j) x ≡ g (hand_of (slot_at s.fdt.slots j) x))
    → map (session_of t) (working s) ≡ map (Def.in_hand g) (map (session_of s.fdt.slots) (working s))
unfolding Def.in_hand
sessions_moved s v t g h =
    map_at (session_of t) (λ x. Def.in_hand g (session_of s.fdt.slots x)) (working s) (λ i x e. one x (working_stands s v i x e))
    ∙ map_through (Def.in_hand g) (session_of s.fdt.slots) (working s)
  where
    both : (x : SenderSession) (b : Bool) → (b ≡ true → hand_of (slot_at t x.slot) x ≡ g (hand_of (slot_at s.fdt.slots x.slot) x))
        → (when b then Some (hand_of (slot_at t x.slot) x) else None) ≡ maybe None (λ y. Some (g y)) (when b then Some (hand_of (slot_at s.fdt.slots x.slot) x) else None)
    both x true q = ap Some (q refl)
    both x false q = refl

    one : (x : SenderSession) → Stands s.fdt s.window x → session_of t x ≡ Def.in_hand g (session_of s.fdt.slots x)
    one x w = λ i. record { priority = x.priority; hand = both x x.busy (λ b. h x.slot x (w.busy b).sent) i }

-- a change of nothing
in_hand_same : (l : List Session) → map (Def.in_hand (λ h. h)) l ≡ l
unfolding Def.in_hand
in_hand_same [] = refl
in_hand_same (x ∷ l) = λ i. record { priority = x.priority; hand = whole x.hand i } ∷ in_hand_same l i
  where
    whole : (o : Option Hand) → maybe None (λ y. Some y) o ≡ o
    whole None = refl
    whole (Some y) = refl

-- where each slot in transfer is as it was, so is what sessions have in hand
pub sessions_same : (s : Sender) → ValidSender s → (t : List Slot) → ((j : ℕ) → sends (slot_at s.fdt.slots j) ≡ true → slot_at t j ≡ slot_at s.fdt.slots j)
    → map (session_of t) (working s) ≡ map (session_of s.fdt.slots) (working s)
sessions_same s v t h =
    sessions_moved s v t (λ y. y) (λ j x e. ap (λ (y : Slot). hand_of y x) (h j e)) ∙ in_hand_same (map (session_of s.fdt.slots) (working s))

-- ---- a sender with another list is valid

-- what a call leaves as it was: the settings, the part and sizes of each object in transfer, whether the current FDT is being transferred
pub record Stays (f r : Fdt) : Type 0 where
  pub settings : r.settings ≡ f.settings
  pub sent_same : SentSame f r
  pub part : (j : ℕ) → sends (slot_at f.slots j) ≡ true → (file_at r.slots j).part ≡ (file_at f.slots j).part
  pub sizes : (j : ℕ) → sends (slot_at f.slots j) ≡ true → (file_at r.slots j).sizes ≡ (file_at f.slots j).sizes
  pub current : r.announcer.current.life.transferring ≡ f.announcer.current.life.transferring

-- what is in transfer stays as it was
abbrev pub SentKept : Fdt → Fdt → Type 0
SentKept f r = (j : ℕ) → sends (slot_at f.slots j) ≡ true → slot_at r.slots j ≡ slot_at f.slots j

pub kept_stays : (f r : Fdt) → ObjectsOnly f r → SentSame f r → SentKept f r → Stays f r
kept_stays f r o sent kept = record {
  settings = o.settings;
  sent_same = sent;
  part = λ j e. ap (λ (y : Slot). y.file.part) (kept j e);
  sizes = λ j e. ap (λ (y : Slot). y.file.sizes) (kept j e);
  current = ap (λ (a : Announcer). a.current.life.transferring) o.announcer;
}

-- what a session has in hand may stay there
pub stands_list : (f r : Fdt) (w : ℕ) (x : SenderSession) → Stays f r → Stands f w x → Stands r w x
stands_list f r w x k h = record {
  busy = λ b. (
      let n = h.busy b in
      record {
        slot = n.slot;
        sent = k.sent_same x.slot ∙ n.sent;
        encoder = n.encoder;
        part = n.part ∙ sym (k.part x.slot n.sent);
        sizes = n.sizes ∙ sym (k.sizes x.slot n.sent);
        width = n.width;
      });
  idle = h.idle;
}

pub valid_list : (s : Sender) (f : Fdt) → ValidSender s → Stays s.fdt f → Holds f → FdtHolds f → ValidSender (with_list s f)
valid_list s f v k a b = record {
  holds = a;
  fdt_holds = b;
  object_store = rw k.settings v.object_store;
  fdt_store = rw k.settings v.fdt_store;
  narrow = v.narrow;
  few = v.few;
  long = v.long;
  sessions = λ i h. stands_list s.fdt f s.window (get_or s.sessions i (idle_of 0)) k (v.sessions i h);
  spare = v.spare;
  in_hand = same_counts s.fdt f k.sent_same (collect slot_in (working s)) v.in_hand;
  fdt_busy = λ e. (let n = v.fdt_busy e in record { encoder = n.encoder; sizes = n.sizes ∙ sym (ap (λ z. z.sizes) k.settings); width = n.width });
  fdt_idle = v.fdt_idle;
  matched = k.current ∙ v.matched;
}

pub agrees_list : (u : Setup) (s : Sender) (f : Fdt) → f.settings ≡ s.fdt.settings → f.tois.width ≡ s.fdt.tois.width → Agrees u s → Agrees u (with_list s f)
agrees_list u s f e w a = record {
  window = a.window;
  sizes = rw e a.sizes;
  object_store = rw e a.object_store;
  fdt_store = rw e a.fdt_store;
  width = a.width ∙ sym w;
  carousel = rw e a.carousel;
  validity = rw e a.validity;
}

-- the desk, where only the objects have changed
pub desk_moved : (s : Sender) (f : Fdt) (q : List Object) (x : List Session) → SameSide s.fdt f → map object_of (files f) ≡ q → map (session_of f.slots) (working s) ≡ x
    → desk_of (with_list s f) ≡ Def.moved (desk_of s) q x
unfolding desk_of Def.moved
desk_moved s f q x k a b = λ i. record {
  complete = k.complete i;
  next = k.next i;
  loose = k.loose i;
  queue = a i;
  sessions = b i;
  fdt = record { state = state_of (k.announcer i); hand = (desk_of s).fdt.hand };
}

-- ---- the object with a number

-- one slot more
listed_more : (y : Slot) (m : List Object) (l : List FileDesc) → m ≡ map object_of l
    → maybe m (λ o. o ∷ m) (when y.listed then Some (object_of y.file) else None) ≡ map object_of (maybe l (λ o. o ∷ l) (when y.listed then Some y.file else None))
listed_more y m l r = elim y.listed as (λ b. maybe m (λ o. o ∷ m) (when b then Some (object_of y.file) else None) ≡ map object_of (maybe l (λ o. o ∷ l) (when b then Some y.file else None)))
    [ true ↦ ap (λ k. object_of y.file ∷ k) r | false ↦ r ]

-- the listed objects that sessions have in hand, by their slots
listed_in : (t : List Slot) (l : List SenderSession) → Def.listed_in_hands (map (session_of t) l) ≡ map object_of (listed_files t (collect slot_in l))
unfolding Def.listed_in_hands
listed_in t [] = refl
listed_in t (x ∷ l) = go x.busy (listed_in t l)
  where
    y : Slot
    y = slot_at t x.slot

    m : List Object
    m = Def.listed_in_hands (map (session_of t) l)

    go : (b : Bool) → m ≡ map object_of (listed_files t (collect slot_in l))
        → maybe m (λ o. o ∷ m) (maybe None (λ (h : Hand). when h.listed then Some h.object else None) (when b then Some (hand_of y x) else None))
        ≡ map object_of (listed_files t (maybe (collect slot_in l) (λ k. k ∷ collect slot_in l) (when b then Some x.slot else None)))
    go true r = listed_more y m (listed_files t (collect slot_in l)) r
    go false r = r

-- the listed object with a number is that of the list
pub listed_desk : (s : Sender) (t : ℕ)
    → Def.listed_as (desk_of s) t ≡ over object_of (find (λ (o : FileDesc). eqb o.toi t) (files s.fdt ++ listed_files s.fdt.slots (collect slot_in (working s))))
unfolding Def.listed_as desk_of Def.is
listed_desk s t =
    let a = files s.fdt in
    let b = listed_files s.fdt.slots (collect slot_in (working s)) in
    ap (λ l. find (Def.is t) (map object_of a ++ l)) (listed_in s.fdt.slots (working s))
    ∙ ap (find (Def.is t)) (sym (map_append object_of a b))
    ∙ find_map (Def.is t) object_of (a ++ b)

given_over : {A B : Type 0} (f : A → B) (o : Option A) → given (over f o) ≡ given o
given_over f None = refl
given_over f (Some a) = refl

-- is one listed with the number
pub listed_answer : (s : Sender) → ValidSender s → (t : ℕ) → given (Def.listed_as (desk_of s) t) ≡ given (listed_place t s.fdt)
listed_answer s v t =
    let l = collect slot_in (working s) in
    ap given (listed_desk s t)
    ∙ given_over object_of (find (λ (o : FileDesc). eqb o.toi t) (files s.fdt ++ listed_files s.fdt.slots l))
    ∙ sym (listed_given t s.fdt v.holds.valid l v.in_hand)
