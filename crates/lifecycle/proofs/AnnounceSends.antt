-- The current FDT is being transferred from its start to its end: what each call of the FDT side makes of that.
use mathlib.Core.Path.{◌≡◌, refl, ◌∙◌, ap}
use mathlib.Core.Bool.{Bool, false, ◌&&◌}
use Rattle.std.specs.Prelude.{Option}
use Prim.Native.Nat.{ℕ}
use native.Mathlib.Omega.{arith}
use lib.Dec.{eqb}
use borrow.Author.Tests.{eqb-false}
use Rattle.sizes.specs.Words.{given}
use Rattle.sizes.proofs.Tests.{if_on, maybe_on}
use Rattle.lifecycle.specs.Lifecycle.{may_start}
use Rattle.lifecycle.specs.FileDesc.{plan_of, life_of, started_life, done_life}
use Rattle.lifecycle.specs.Announce as Ann
use Rattle.lifecycle.specs.Announce.{NextInstance, ValidAnnouncer, fdt_plan_of, needs_new_of, queued_of, republished_of, front_of, start_of, transferring_of, next_of}
use Rattle.lifecycle.specs.FdtCalls.{ValidFdt, next_fdt_of, fdt_done_of}
use Rattle.lifecycle.specs.declared.parts.Part.{Part}
use Rattle.lifecycle.specs.declared.filedesc.Plan.{Plan}
use Rattle.lifecycle.specs.declared.announce.Instance.{Instance}
use Rattle.lifecycle.specs.declared.announce.Announcer.{Announcer}
use Rattle.lifecycle.specs.declared.fdt.Fdt.{Fdt}
use Rattle.lifecycle.proofs.AnnounceLaws.{valid_republished}

-- is the current one being transferred
abbrev pub current_sends : Announcer → Bool
current_sends a = a.current.life.transferring

module _ (a : Announcer) (v : ValidAnnouncer a) where
  -- none that waits is
  front_sends : current_sends a ≡ false → current_sends (front_of a) ≡ false
  unfolding front_of
  front_sends e = if_on (λ (b : Announcer). current_sends b ≡ false) (eqb a.waiting 0) (λ z. e) (λ z. v.idle 0 (let n = eqb-false a.waiting 0 z in omega (arith, n)))

  -- after its end it is not
  done_sends : (now : ℕ) → current_sends (Ann.current_done now a) ≡ false
  unfolding Ann.current_done done_life
  done_sends now = if_on (λ (b : Announcer). current_sends b ≡ false) a.has_current (λ e. refl) (λ e. ap (λ (i : Instance). i.life.transferring) (v.blank e))

-- one more that waits changes nothing
republished_sends : (validity now : ℕ) (draft : Option Part) (a : Announcer) → current_sends (republished_of validity now draft a) ≡ current_sends a
unfolding republished_of queued_of
republished_sends validity now draft a =
    if_on (λ (b : Announcer). current_sends b ≡ current_sends a) (needs_new_of validity now a)
    (λ e. maybe_on (λ (b : Announcer). current_sends b ≡ current_sends a) draft (λ q. refl) (λ c q. refl)) (λ e. refl)

-- after the question for the next one, the current one is being transferred exactly where it starts
abbrev SendsIfStarts : NextInstance → Type 0
SendsIfStarts n = current_sends n.announcer ≡ n.starts

start_sends : (r : Plan) (now : ℕ) (taken : Bool) (a : Announcer) → current_sends a ≡ false → SendsIfStarts (start_of r now taken a)
unfolding start_of started_life
start_sends r now taken a e = if_on SendsIfStarts (a.has_current && may_start (plan_of r) now (life_of a.current.life)) (λ c. refl) (λ c. e)

next_sends : (r : Plan) (validity now : ℕ) (draft : Option Part) (a : Announcer) → ValidAnnouncer a → current_sends a ≡ false → SendsIfStarts (next_of r validity now draft a)
unfolding next_of
next_sends r validity now draft a v e = if_on SendsIfStarts (transferring_of a) (λ q. e) (λ q.
    let b = republished_of validity now draft a in
    start_sends r now (needs_new_of validity now a && given draft) (front_of b)
    (front_sends b (valid_republished a v validity now draft) (republished_sends validity now draft a ∙ e)))

-- the same of the list
module _ (now : ℕ) (f : Fdt) (v : ValidFdt f) where
  pub next_fdt_sends : (draft : Option Part) → current_sends f.announcer ≡ false → current_sends (next_fdt_of now draft f).fdt.announcer ≡ (next_fdt_of now draft f).starts
  unfolding next_fdt_of
  next_fdt_sends draft e =
      let r = fdt_plan_of f.settings.from_start f.settings.interval in
      let n = next_of r f.settings.validity now draft f.announcer in
      let s = next_sends r f.settings.validity now draft f.announcer v.fdts e in
      if_on (λ (g : Fdt). current_sends g.announcer ≡ n.starts) n.taken (λ t. s) (λ t. s)

  pub fdt_done_sends : current_sends (fdt_done_of now f).announcer ≡ false
  unfolding fdt_done_of
  fdt_done_sends = done_sends f.announcer v.fdts now
