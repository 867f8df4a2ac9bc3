-- What a reply says, as the definition's answer.
use Rattle.std.specs.Prelude.{◌≡◌, Bool, ℕ}
use Rattle.std.specs.Prelude.{Option, None, Some, Result, Ok, Err}
use Rattle.sizes.specs.Words.{when◌then◌else◌, over}
use Rattle.sizes.specs.declared.refusal.Refusal.{Refusal}
use Rattle.sizes.specs.declared.refusal.Refusal.TheVariants as Because
use Rattle.definition.specs.Desk as Def
use Rattle.sender.specs.SenderCalls.{packet_said}
use Rattle.wire.specs.declared.record.Record.{Record}
use Rattle.record_program.specs.Numbers.{room_for}
use Rattle.desk_program.specs.declared.reply.Reply.{Reply}
use Rattle.desk_program.specs.declared.reply.Reply.TheVariants as ReplyV

-- none: it answers no call of a sender
abbrev pub reply_said : Reply → Option Def.Answer
reply_said ReplyV.Silent = None
reply_said ReplyV.Error = None
reply_said ReplyV.Done = Some Def.Answer.done
reply_said (ReplyV.Refused why) = Some (Def.Answer.refused why)
reply_said (ReplyV.Toi n) = Some (Def.Answer.number n)
reply_said (ReplyV.Truth b) = Some (Def.Answer.truth b)
reply_said (ReplyV.Number n) = Some (Def.Answer.transferred n)
reply_said (ReplyV.Sent p) = Some (Def.Answer.output (over packet_said p))
reply_said (ReplyV.SentFdt taken p) = Some (Def.Answer.fdt_output taken (over packet_said p))
reply_said (ReplyV.Cut p) = None
reply_said (ReplyV.Drained t) = None
reply_said (ReplyV.Written w) = None
reply_said (ReplyV.Fields r) = None

-- the reply says this answer
abbrev pub Says : Def.Answer → Reply → Type 0
Says a r = reply_said r ≡ Some a

-- to a set-up, by whether there is a sender after it
abbrev pub set_up_said : Bool → Def.Answer
set_up_said ok = when ok then Def.Answer.done else Def.Answer.refused Because.SetUp

-- the reply to a block's length, if it has one
abbrev pub length_shown : Option ℕ → Reply
length_shown n = ReplyV.Number n

-- the reply to a command that writes a record: the record, if it can be written
abbrev pub record_shown : Record → ℕ → Reply
record_shown r room = when room_for room r then ReplyV.Written (record { «record» = r; room = room }) else ReplyV.Refused Because.Record

-- the reply to one that reads a record; whatever the reason, the number is that of a record
abbrev pub reading_shown : Result Record Refusal → Reply
reading_shown (Ok r) = ReplyV.Fields r
reading_shown (Err why) = ReplyV.Refused Because.Record
