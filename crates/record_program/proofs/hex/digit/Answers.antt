-- `record_program::hex::digit` meets its contract.
use borrow.Author.Tests.{lt-ltb, le-ltb}
use Rattle.record_program.specs.Hex.{digit_of}
use Rattle.record_program.proofs.hex.digit.Goals as goal

pub returns-then-n-lt10 : goal.returns-then-n-lt10
unfolding digit_of
returns-then-n-lt10 c = rw (lt-ltb _ _ c.if-n-lt10.true)

pub returns : goal.returns
unfolding digit_of
returns c = rw (le-ltb _ _ c.if-n-lt10.false)
