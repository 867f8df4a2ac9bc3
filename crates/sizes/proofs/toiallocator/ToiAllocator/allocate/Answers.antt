use Rattle.std.proofs.Common.{sym, subst}
use Rattle.sizes.specs.Allocator.{Searchable}
use Rattle.sizes.proofs.AllocatorLaws.{given_by, full_by, gives, searchable}
use Rattle.sizes.proofs.toiallocator.ToiAllocator.allocate.Goals as goal

pub returns-then-self-ge-TOI_ENTRIES : goal.returns-then-self-ge-TOI_ENTRIES
returns-then-self-ge-TOI_ENTRIES c =
    gives c.args.self.now c.args.loose _ c.requires (full_by c.args.self.now c.args.loose c.if-self-ge-TOI_ENTRIES.true)

pub next_free-self-requires : goal.next_free-self-requires
next_free-self-requires c =
    subst Searchable (sym c.note.ensures) (searchable c.args.self.now c.args.loose c.requires c.if-self-ge-TOI_ENTRIES.false)

pub returns : goal.returns
returns c =
    let a = c.args.self.now in
    gives a c.args.loose _ c.requires (given_by a c.args.loose c.note.new.self c.next_free-self.result c.if-self-ge-TOI_ENTRIES.false c.note.ensures c.next_free-self.ensures)
