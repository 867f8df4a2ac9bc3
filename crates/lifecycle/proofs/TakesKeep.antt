-- A session takes an object and is done with it: what may be taken, what goes back, and what both calls keep of the numbers and of the other slots.
use mathlib.Core.Path.{◌≡◌, refl, ap}
use mathlib.Core.Bool.{true, false, not, ◌&&◌}
use Prim.Native.Nat.{ℕ}
use lib.Dec.{eqb}
use Rattle.sizes.specs.Words.{place}
use Rattle.sizes.specs.Allocator as Alloc
use Rattle.sizes.specs.declared.toiallocator.ToiAllocator.{ToiAllocator}
use Rattle.sizes.proofs.Tests.{maybe_on}
use Rattle.lifecycle.specs.Lifecycle.{finished, expired, may_start}
use Rattle.lifecycle.specs.FileDesc.{plan_of, life_of, started_life, startable_file}
use Rattle.lifecycle.specs.Slots.{slot_at, queue_startable}
use Rattle.lifecycle.specs.FdtCalls.{Taken, waiting, sends, ValidFdt, started_slot, taken_at, taken_of, goes_back, done_of}
use Rattle.lifecycle.proofs.FdtMeans.{Ends, idle, back, gone}
use Rattle.lifecycle.specs.declared.filedesc.FileDesc.{FileDesc}
use Rattle.lifecycle.specs.declared.slots.Slot.{Slot}
use Rattle.lifecycle.specs.declared.fdt.Fdt.{Fdt}
use Rattle.lifecycle.proofs.FileDescLaws.{life_done}
use Rattle.lifecycle.proofs.FdtViews.{done_view}
use Rattle.lifecycle.proofs.FdtKeeps.{SameNumbers}

-- what is not in transfer may be taken where its life says so
pub startable_as : (p now : ℕ) (o : FileDesc) → o.life.transferring ≡ false → startable_file p now o ≡ (eqb o.priority p && may_start (plan_of o.plan) now (life_of o.life))
unfolding startable_file
startable_as p now o e = rw e

-- what was taken is in transfer
pub started_sends : (now : ℕ) (y : Slot) → sends (started_slot now y) ≡ true
unfolding started_life
started_sends now y = refl

-- at the end of its transfer it goes back while it is listed and not expired
pub goes_back_as : (now : ℕ) (y : Slot) → goes_back now y ≡ (y.listed && not (expired (plan_of y.file.plan) (finished now (life_of y.file.life))))
unfolding goes_back
goes_back_as now y = ap (λ x. y.listed && not (expired (plan_of y.file.plan) x)) (life_done now y.file.life)

pub taken_numbers : (f : Fdt) (p now : ℕ) → SameNumbers f (taken_of p now f).fdt
unfolding taken_of taken_at
taken_numbers f p now = maybe_on (λ (t : Taken). SameNumbers f t.fdt) (place (queue_startable f.slots p now) (waiting f)) (λ e. record { next = refl; loose = refl }) (λ n e. record { next = refl; loose = refl })

module _ (f : Fdt) (v : ValidFdt f) (now k : ℕ) where
  pub done_numbers : SameNumbers f (done_of now k f)
  done_numbers = by (done_of now k f) (done_view f v now k)
    where
      by : (r : Fdt) → Ends now k f r → SameNumbers f r
      by r (idle s q) = record { next = ap (λ (x : Fdt). x.tois.next) q; loose = ap (λ (x : Fdt). Alloc.loose x.tois) q }
      by r (back s g t w) = record { next = ap (λ (a : ToiAllocator). a.next) t; loose = ap Alloc.loose t }
      by r (gone s g t w) = record { next = t.next_same; loose = t.loose_same }

  -- another slot stays as it was
  pub done_other : (j : ℕ) → eqb k j ≡ false → slot_at (done_of now k f).slots j ≡ slot_at f.slots j
  done_other j e = by (done_of now k f) (done_view f v now k)
    where
      by : (r : Fdt) → Ends now k f r → slot_at r.slots j ≡ slot_at f.slots j
      by r (idle s q) = ap (λ (y : Fdt). slot_at y.slots j) q
      by r (back s g t w) = w.same j e
      by r (gone s g t w) = w.same j e
