-- `drain_program::put_line` meets its contract: the six fields of a packet's line stand one behind another.
use Rattle.drain_program.specs.Lines.{line_text}
use Rattle.text.proofs.Appends.{both}
use Rattle.drain_program.proofs.Laws.{byte_of}
use Rattle.drain_program.proofs.put_line.Goals as goal

pub returns : goal.returns
unfolding line_text
returns c =
    rw (← byte_of c.args.line.close)
    (both (both (both (both (both c.put-a.ensures.0 c.put-b.ensures.0) c.put-c.ensures.0) c.put-d.ensures.0) c.put-e.ensures.0) c.put.ensures.0)
