-- `text::bytes::is_member` meets its contract, class by class.
use Rattle.text.specs.Bytes.{member, ink, in_line}
use Rattle.text.proofs.bytes.is_member.Goals as goal

pub returns-in-Blank : goal.returns-in-Blank
unfolding member
returns-in-Blank c = rw c.in-Blank.is c.is_blank.ensures

pub returns-in-Ink : goal.returns-in-Ink
unfolding member ink
returns-in-Ink c = rw (c.in-Ink.is, c.is_blank-in-Ink.ensures)

pub returns-in-InLine : goal.returns-in-InLine
unfolding member in_line
returns-in-InLine c = rw c.in-InLine.is
