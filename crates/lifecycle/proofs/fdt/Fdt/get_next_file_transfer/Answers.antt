use mathlib.Core.Path.{sym, ◌∙◌}
use borrow.Author.Rules.{rules}
use Rattle.lifecycle.proofs.FdtLaws.{startable_found, taken_none, taken_some}
use Rattle.lifecycle.proofs.fdt.Fdt.get_next_file_transfer.Goals as goal

pub returns-in_err-n : goal.returns-in_err-n
returns-in_err-n c = rw c.from_residual.ensures (taken_none c.args.priority c.args.now c.args.self.now (sym c.first_startable.ensures ∙ c.in_err-n.was))

pub offset_bounds-self-n : goal.offset_bounds-self-n
offset_bounds-self-n c = let h = (startable_found c.args.priority c.args.now c.args.self.now (sym c.first_startable.ensures ∙ c.in_ok-n.was) c.requires).1 in search rules

pub bounds-self-n : goal.bounds-self-n
bounds-self-n c = (startable_found c.args.priority c.args.now c.args.self.now (sym c.first_startable.ensures ∙ c.in_ok-n.was) c.requires).1

pub take-requires : goal.take-requires
take-requires c =
    let h = startable_found c.args.priority c.args.now c.args.self.now (sym c.first_startable.ensures ∙ c.in_ok-n.was) c.requires in
    (c.requires, h.2, h.0)

pub returns : goal.returns
returns c = rw c.take.ensures (taken_some c.args.priority c.args.now c.args.self.now (sym c.first_startable.ensures ∙ c.in_ok-n.was))
