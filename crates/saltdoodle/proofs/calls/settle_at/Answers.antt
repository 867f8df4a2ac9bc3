use Rattle.saltdoodle.proofs.Settles.{read_valid}
use Rattle.saltdoodle.proofs.calls.settle_at.Goals as goal

pub settle-requires : goal.settle-requires
settle-requires c = read_valid c.args.s.now c.requires.0 c.args.j c.requires.1 _
