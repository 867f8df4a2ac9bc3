-- What the calls of the FDT side keep: the objects stay, and what holds of every FDT's part holds after each call.
use mathlib.Core.Path.{◌≡◌, refl, sym, ◌∙◌, ap, subst}
use mathlib.Core.Bool.{Bool, true, false, ◌&&◌, false≢true}
use Rattle.std.specs.Prelude.{Option, None, Some}
use mathlib.Core.List.{List, map}
use Prim.Native.Nat.{ℕ, suc, ◌+◌, ◌≤◌, ◌<◌}
use native.Mathlib.Omega.{arith}
use lib.Dec.{eqb}
use lib.ListN.{get_or, set}
use lib.Seq.{get_or-set_same, get_or-set_other}
use borrow.Author.Tests.{eqb-true, eqb-false}
use Rattle.sizes.specs.Words.{when◌then◌else◌, given}
use Rattle.sizes.specs.Limits.{waiting_fdts}
use Rattle.sizes.proofs.Tests.{Tested, pass, fail, tested, and_left, or_left, if_on}
use Rattle.sizes.proofs.Arrays.{getD_shut}
use Rattle.lifecycle.specs.Parts.{past_store}
use Rattle.lifecycle.specs.Lifecycle.{may_start}
use Rattle.lifecycle.specs.FileDesc.{plan_of, life_of}
use Rattle.lifecycle.specs.Slots.{published_slot}
use Rattle.lifecycle.specs.Announce as Ann
use Rattle.lifecycle.specs.Announce.{NextInstance, no_instance, ValidAnnouncer, fdt_plan_of, needs_new_of, first_instance, queued_of, front_of, started_instance, done_instance, holding, start_of, republished_of, transferring_of, next_of, shares_fdt_of, bad_fdt_of}
use Rattle.lifecycle.specs.FdtCalls.{with_published, with_announcer, next_fdt_of, fdt_done_of}
use Rattle.lifecycle.specs.declared.parts.Part.{Part}
use Rattle.lifecycle.specs.declared.filedesc.Plan.{Plan}
use Rattle.lifecycle.specs.declared.slots.Slot.{Slot}
use Rattle.lifecycle.specs.declared.announce.Instance.{Instance}
use Rattle.lifecycle.specs.declared.announce.Announcer.{Announcer}
use Rattle.lifecycle.specs.declared.fdt.Fdt.{Fdt}
use Rattle.lifecycle.proofs.PartLaws.{lies_in}
use Rattle.lifecycle.proofs.AnnounceLaws.{needed_empty}

-- ---- the objects

-- they stay, but for the marks on their slots
pub record SameObjects (f r : Fdt) : Type 0 where
  pub settings : r.settings ≡ f.settings
  pub complete : r.complete ≡ f.complete
  pub tois : r.tois ≡ f.tois
  pub queue : r.queue ≡ f.queue
  pub queued : r.queued ≡ f.queued

pub objects_same : (f : Fdt) → SameObjects f f
objects_same f = record { settings = refl; complete = refl; tois = refl; queue = refl; queued = refl }

pub objects_on : {f g r : Fdt} → SameObjects f g → SameObjects g r → SameObjects f r
objects_on a b = record {
  settings = b.settings ∙ a.settings;
  complete = b.complete ∙ a.complete;
  tois = b.tois ∙ a.tois;
  queue = b.queue ∙ a.queue;
  queued = b.queued ∙ a.queued;
}

-- a draft that was taken marks every listed object
abbrev pub marked_slots : Bool → List Slot → List Slot
marked_slots taken t = when taken then map published_slot t else t

-- the next FDT
module _ (now : ℕ) (draft : Option Part) (f : Fdt) where
  -- the FDT side's own
  abbrev pub side_next : NextInstance
  side_next = next_of (fdt_plan_of f.settings.from_start f.settings.interval) f.settings.validity now draft f.announcer

  pub next_fdt_taken : (next_fdt_of now draft f).taken ≡ side_next.taken
  unfolding next_fdt_of
  next_fdt_taken = refl

  pub next_fdt_starts : (next_fdt_of now draft f).starts ≡ side_next.starts
  unfolding next_fdt_of
  next_fdt_starts = refl

  pub next_fdt_side : (next_fdt_of now draft f).fdt.announcer ≡ side_next.announcer
  unfolding next_fdt_of
  next_fdt_side = if_on (λ (r : Fdt). r.announcer ≡ side_next.announcer) side_next.taken (λ e. refl) (λ e. refl)

  pub next_fdt_objects : SameObjects f (next_fdt_of now draft f).fdt
  unfolding next_fdt_of
  next_fdt_objects = if_on (SameObjects f) side_next.taken
      (λ e. record { settings = refl; complete = refl; tois = refl; queue = refl; queued = refl })
      (λ e. record { settings = refl; complete = refl; tois = refl; queue = refl; queued = refl })

  pub next_fdt_slots : (next_fdt_of now draft f).fdt.slots ≡ marked_slots (next_fdt_of now draft f).taken f.slots
  unfolding next_fdt_of
  next_fdt_slots = by side_next.taken
    where
      by : (b : Bool) → (when b then with_published f side_next.announcer else with_announcer f side_next.announcer).slots ≡ marked_slots b f.slots
      by true = refl
      by false = refl

-- without a draft none is taken
pub next_fdt_untaken : (now : ℕ) (f : Fdt) → (next_fdt_of now None f).taken ≡ false
unfolding next_fdt_of next_of start_of
next_fdt_untaken now f =
    let r = fdt_plan_of f.settings.from_start f.settings.interval in
    let b = front_of (republished_of f.settings.validity now None f.announcer) in
    if_on (λ (n : NextInstance). n.taken ≡ false) (transferring_of f.announcer) (λ e. refl)
    (λ e. if_on (λ (n : NextInstance). n.taken ≡ false) (b.has_current && may_start (plan_of r) now (life_of b.current.life))
    (λ c. neither (needs_new_of f.settings.validity now f.announcer)) (λ c. neither (needs_new_of f.settings.validity now f.announcer)))
  where
    neither : (b : Bool) → (b && false) ≡ false
    neither true = refl
    neither false = refl

-- the end of an FDT's transfer
module _ (now : ℕ) (f : Fdt) where
  pub fdt_done_side : (fdt_done_of now f).announcer ≡ Ann.current_done now f.announcer
  unfolding fdt_done_of
  fdt_done_side = refl

  pub fdt_done_objects : SameObjects f (fdt_done_of now f)
  unfolding fdt_done_of
  fdt_done_objects = record { settings = refl; complete = refl; tois = refl; queue = refl; queued = refl }

  pub fdt_done_slots : (fdt_done_of now f).slots ≡ f.slots
  unfolding fdt_done_of
  fdt_done_slots = refl

-- ---- what holds of every FDT's part

-- P holds of the part of each that waits, and of the current one's
pub record EachFdt (P : Part → Type 0) (a : Announcer) : Type 0 where
  pub waiting : (i : ℕ) → i < a.waiting → P (get_or a.queue i no_instance).part
  pub current : a.has_current ≡ true → P a.current.part

module _ (P : Part → Type 0) (a : Announcer) (p : EachFdt P a) where
  -- one more waits
  pub queued_each : (now : ℕ) (c : Part) → ValidAnnouncer a → a.waiting < waiting_fdts → P c → EachFdt P (queued_of now c a)
  unfolding queued_of
  queued_each now c v h g = record { waiting = λ i k. at i k (tested (eqb i a.waiting)); current = p.current }
    where
      new : Instance
      new = first_instance a.fdtid c

      at : (i : ℕ) → i < a.waiting + 1 → Tested (eqb i a.waiting) → P (get_or (set a.queue a.waiting new) i no_instance).part
      at i k (pass e) =
          subst (λ j. P (get_or (set a.queue a.waiting new) j no_instance).part) (sym (eqb-true i a.waiting e))
          (subst (λ (x : Instance). P x.part) (sym (get_or-set_same a.queue a.waiting new no_instance (let g = v.sized in omega arith))) g)
      at i k (fail e) =
          let n = eqb-false i a.waiting e in
          subst (λ (x : Instance). P x.part) (sym (get_or-set_other a.queue a.waiting i new no_instance n)) (p.waiting i (omega (arith, n)))

  -- the front becomes current
  front_each : EachFdt P (front_of a)
  unfolding front_of
  front_each = if_on (EachFdt P) (eqb a.waiting 0) (λ e. p) (λ e.
      let n = eqb-false a.waiting 0 e in
      record {
        waiting = λ i h. subst (λ (x : Instance). P x.part) (sym (getD_shut no_instance a.queue 0 i (omega arith))) (p.waiting (suc i) (omega (arith, n)));
        current = λ q. p.waiting 0 (omega (arith, n));
      })

  -- the current one is changed, and not its part
  holding_each : (i : Instance) → i.part ≡ a.current.part → EachFdt P (holding a i)
  holding_each i e = record { waiting = p.waiting; current = λ q. subst P (sym e) (p.current q) }

  start_each : (r : Plan) (now : ℕ) (taken : Bool) → EachFdt P (start_of r now taken a).announcer
  unfolding start_of
  start_each r now taken = if_on (λ (n : NextInstance). EachFdt P n.announcer) (a.has_current && may_start (plan_of r) now (life_of a.current.life))
      (λ e. holding_each (started_instance r now a.current) refl) (λ e. p)

  republished_each : ValidAnnouncer a → (validity now : ℕ) (draft : Option Part) → ((c : Part) → draft ≡ Some c → P c) → EachFdt P (republished_of validity now draft a)
  unfolding republished_of
  republished_each v validity now (Some c) g = if_on (EachFdt P) (needs_new_of validity now a)
      (λ e. queued_each now c v (let n = needed_empty validity now a e in omega arith) (g c refl)) (λ e. p)
  republished_each v validity now None g = if_on (EachFdt P) (needs_new_of validity now a) (λ e. p) (λ e. p)

  done_each : (now : ℕ) → EachFdt P (Ann.current_done now a)
  unfolding Ann.current_done
  done_each now = if_on (EachFdt P) a.has_current (λ e. holding_each (done_instance now a.current) refl) (λ e. p)

module _ (P : Part → Type 0) (now : ℕ) (f : Fdt) (p : EachFdt P f.announcer) where
  -- a draft may be published
  pub next_fdt_each : (draft : Option Part) → ValidAnnouncer f.announcer → ((c : Part) → draft ≡ Some c → P c) → EachFdt P (next_fdt_of now draft f).fdt.announcer
  unfolding next_of
  next_fdt_each draft v g = subst (EachFdt P) (sym (next_fdt_side now draft f)) (if_on (λ (n : NextInstance). EachFdt P n.announcer) (transferring_of f.announcer) (λ e. p) (λ e.
      let b = republished_of f.settings.validity now draft f.announcer in
      start_each P (front_of b) (front_each P b (republished_each P f.announcer p v f.settings.validity now draft g))
      (fdt_plan_of f.settings.from_start f.settings.interval) now (needs_new_of f.settings.validity now f.announcer && given draft)))

  pub fdt_done_each : EachFdt P (fdt_done_of now f).announcer
  fdt_done_each = subst (EachFdt P) (sym (fdt_done_side now f)) (done_each P f.announcer p now)

-- where one starts, there is a current one
abbrev Starts : NextInstance → Type 0
Starts n = n.starts ≡ true → n.announcer.has_current ≡ true

start_current : (r : Plan) (now : ℕ) (a : Announcer) (taken : Bool) → Starts (start_of r now taken a)
unfolding start_of
start_current r now a taken = if_on Starts (a.has_current && may_start (plan_of r) now (life_of a.current.life))
    (λ e q. and_left a.has_current (may_start (plan_of r) now (life_of a.current.life)) e) (λ e q. absurd (false≢true q))

pub next_fdt_current : (now : ℕ) (draft : Option Part) (f : Fdt) → (next_fdt_of now draft f).starts ≡ true → (next_fdt_of now draft f).fdt.announcer.has_current ≡ true
unfolding next_of
next_fdt_current now draft f e = ap (λ a. a.has_current) (next_fdt_side now draft f) ∙ if_on Starts (transferring_of f.announcer) (λ t q. absurd (false≢true q))
    (λ t. start_current (fdt_plan_of f.settings.from_start f.settings.interval) now (front_of (republished_of f.settings.validity now draft f.announcer))
    (needs_new_of f.settings.validity now f.announcer && given draft))
    (sym (next_fdt_starts now draft f) ∙ e)

-- a part that is not bad lies in the FDT store
pub fdt_lies_in : (store : ℕ) (c : Part) (a : Announcer) → bad_fdt_of store c a ≡ false → c.start + c.size ≤ store
unfolding bad_fdt_of
fdt_lies_in store c a e = lies_in store c (or_left (past_store store c) (shares_fdt_of c a) e)
