use native.Mathlib.Omega.{arith}
use Rattle.sender.specs.SessionCalls.{taken_on_of}
use Rattle.sender.proofs.SessionLaws.{taken_inside, ready_begun}
use Rattle.sender.proofs.sendersession.SenderSession.take_on.Goals as goal

pub returns-in_default : goal.returns-in_default
unfolding taken_on_of
returns-in_default c = rw (c.get_next_file_transfer.ensures, c.in_default.is)

pub offset_bounds-fdt-k : goal.offset_bounds-fdt-k
offset_bounds-fdt-k c = let h = taken_inside c.args.fdt.now _ c.requires.0.valid c.args.self.now.priority c.args.now _ c.in-Some.ensures in omega arith

pub bounds-fdt-k : goal.bounds-fdt-k
bounds-fdt-k c = taken_inside c.args.fdt.now _ c.requires.0.valid c.args.self.now.priority c.args.now _ c.in-Some.ensures

pub attend-requires : goal.attend-requires
attend-requires c = rw c.begin.ensures (ready_begun c.args.fdt.now _ c.requires.0 c.args.self.now.priority c.args.now _ c.in-Some.ensures c.args.width c.requires.1)

pub returns : goal.returns
unfolding taken_on_of
returns c = rw (c.in-Some.ensures, ← c.begin.ensures) c.attend.ensures
