-- `desk_program::play::Desk::set_up` meets its contract: a refused one leaves no sender.
use Rattle.lifecycle.specs.Setup.{sound}
use Rattle.sender.specs.SetupCalls.{setup_said, opening_sender, opened_of}
use Rattle.desk_program.proofs.PlayLaws.{refused_why}
use Rattle.desk_program.proofs.play.Desk.set_up.Goals as goal

pub returns-in-Err : goal.returns-in-Err
unfolding opened_of
returns-in-Err c =
    let z = c.args.z in
    let e = refused_why (sound (setup_said z)) (opening_sender z) c.in-Err.why c.in-Err.ensures.exact in
    record { says = rw e; means = rw e at c.in-Err.ensures.means; holds = tt }
