-- `drain_program::drain::turn` meets its contract.
use mathlib.Core.Bool.{false}
use Rattle.sender.proofs.EncoderPromises.{read_shows}
use mathlib.Core.Path.{sym, ◌∙◌, ap}
use Rattle.drain_program.proofs.drain.turn.Goals as goal

pub line_for-requires : goal.line_for-requires
line_for-requires c =
    let r = c.read.ensures in
    rw r.content (c.requires.content, read_shows false c.args.x.now c.requires _ (ap (λ z. z.answer) (sym r.exact) ∙ c.in_ok-symbol.was))
