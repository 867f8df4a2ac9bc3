-- `desk_program::play::Desk::play` meets its contract: what is left are the calls of a sender.
use Rattle.desk_program.proofs.PlayLaws.{not_set_up, stays_none, not_alone}
use Rattle.desk_program.proofs.play.Desk.play.Goals as goal

pub returns-in_default : goal.returns-in_default
returns-in_default c =
    let n = c.in_default in (
      c.call.ensures,
      not_set_up n.not-Setup n.not-SetupOut n.not-Wrong,
      stays_none (not_alone c.args.c n.not-Skip n.not-Partition n.not-BlockLength n.not-RawLength n.not-Drain n.not-WriteRecord n.not-ReadRecord),
    )
