use Rattle.std.proofs.Common.{◌≡◌, ◌+◌, ◌-◌, sym, ◌∙◌, arith}
use Rattle.sizes.specs.Allocator.{held}
use Rattle.sizes.proofs.ToiLaws.{free_here, free_further, free_end}
use Rattle.sizes.proofs.AllocatorLaws.{search_start}
use Rattle.sizes.proofs.toiallocator.ToiAllocator.next_free.Goals as goal

pub loop-init : goal.loop-init
loop-init c =
    let a = c.args.self.now in
    let e : a.entered - 0 ≡ a.entered = omega arith in
    rw e (search_start a c.requires c.after-n.ensures)

pub returns-then-not-has_entry : goal.returns-then-not-has_entry
returns-then-not-has_entry c =
    let a = c.args.self.now in
    sym (free_here a.width (a.entered - c.loop.counter) (held a) c.loop.n (sym c.has_entry.ensures ∙ c.if-not-has_entry.true)) ∙ c.loop.invariant

pub loop-preserved : goal.loop-preserved
loop-preserved c =
    let a = c.args.self.now in
    let k = a.entered - c.loop.counter in
    let h = sym c.has_entry.ensures ∙ c.if-not-has_entry.false in
    let e : a.entered - (c.loop.counter + 1) ≡ k - 1 = omega arith in
    rw (e, c.after-n-in-loop.ensures) (sym (free_further a.width k (held a) c.loop.n (omega arith) h) ∙ c.loop.invariant)

pub returns : goal.returns
returns c =
    let a = c.args.self.now in
    sym (free_end a.width (a.entered - c.loop.counter) (held a) c.loop.n (omega arith)) ∙ c.loop.invariant
