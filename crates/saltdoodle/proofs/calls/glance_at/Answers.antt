use Rattle.saltdoodle.proofs.Settles.{read_valid}
use Rattle.saltdoodle.proofs.calls.glance_at.Goals as goal

pub glance-requires : goal.glance-requires
glance-requires c = read_valid c.args.s.now c.requires.0 c.args.j c.requires.1 _
