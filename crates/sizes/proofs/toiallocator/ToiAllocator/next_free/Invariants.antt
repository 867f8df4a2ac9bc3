use Rattle.std.proofs.Common.{◌≡◌, ◌-◌}
use Rattle.sizes.specs.Toi.{free_from, next_toi}
use Rattle.sizes.specs.Allocator.{held}
use Rattle.sizes.proofs.toiallocator.ToiAllocator.next_free.Given as goal

abbrev pub invariant-loop : goal.invariant-loop
invariant-loop l = free_from l.self.width (l.self.entered - l.counter) (held l.self) l.n ≡ next_toi l.self.width (held l.self) l.self.next
