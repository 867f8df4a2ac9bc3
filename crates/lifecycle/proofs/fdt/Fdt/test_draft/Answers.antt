use Rattle.lifecycle.specs.FdtCalls.{draft_test_of}
use Rattle.lifecycle.proofs.fdt.Fdt.test_draft.Goals as goal

pub returns-in_default : goal.returns-in_default
unfolding draft_test_of
returns-in_default c = rw c.in_default.is

pub returns-then-are_bad_blocks : goal.returns-then-are_bad_blocks
unfolding draft_test_of
returns-then-are_bad_blocks c = rw (c.in-Some.is, ← c.are_bad_blocks.ensures, c.if-are_bad_blocks.true)

pub returns-then-bad_fdt_part : goal.returns-then-bad_fdt_part
unfolding draft_test_of
returns-then-bad_fdt_part c = rw (c.in-Some.is, ← c.are_bad_blocks.ensures, c.if-are_bad_blocks.false, ← c.bad_fdt_part.ensures, c.if-bad_fdt_part.true)

pub returns : goal.returns
unfolding draft_test_of
returns c = rw (c.in-Some.is, ← c.are_bad_blocks.ensures, c.if-are_bad_blocks.false, ← c.bad_fdt_part.ensures, c.if-bad_fdt_part.false)
