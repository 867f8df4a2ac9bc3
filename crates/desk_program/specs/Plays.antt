-- What the commands ask of a sender, and what is promised of each: the definition's answer, and its desk.
use Rattle.std.specs.Prelude.{◌≡◌, ℕ}
use Rattle.std.specs.Prelude.{Option, None, Some, IfSome}
use Rattle.sizes.specs.Words.{when◌then◌else◌, over, given}
use Rattle.sizes.specs.Partition.{partition_of, block_length}
use Rattle.sizes.specs.declared.refusal.Refusal.TheVariants as Because
use Rattle.lifecycle.specs.FileDesc.{time_of}
use Rattle.lifecycle.specs.declared.filedesc.Time.{Time}
use Rattle.lifecycle.specs.declared.parts.Part.{Part}
use Rattle.definition.specs.Desk as Def
use Rattle.sender.specs.SenderCalls.{desk_of, ValidSender, Kept, object_said}
use Rattle.sender.specs.SetupCalls.{setup_said}
use Rattle.sender.specs.declared.sender.Object.{Object}
use Rattle.sender.specs.declared.sender.Sender.{Sender}
use Rattle.sender.specs.declared.setup.Setup.{Setup}
use Rattle.desk_program.specs.Replies.{Says, set_up_said, length_shown, record_shown, reading_shown}
use Rattle.desk_program.specs.declared.command.Command.{Command}
use Rattle.desk_program.specs.declared.command.Command.TheVariants as CommandV
use Rattle.desk_program.specs.declared.play.Desk.{Desk}
use Rattle.desk_program.specs.declared.reply.Reply.{Reply}
use Rattle.desk_program.specs.declared.reply.Reply.TheVariants as ReplyV

abbrev pub asks_reserve : Def.Call
asks_reserve = Def.Call.reserve

abbrev pub asks_release : ℕ → Def.Call
asks_release t = Def.Call.release t

abbrev pub asks_add : Object → Option ℕ → Def.Call
asks_add o named = Def.Call.add named (object_said o)

abbrev pub asks_remove : ℕ → Def.Call
asks_remove t = Def.Call.touch t Def.Touch.remove

abbrev pub asks_trigger : ℕ → Time → Def.Call
asks_trigger t start = Def.Call.touch t (Def.Touch.trigger (time_of start))

abbrev pub asks_listed : ℕ → Def.Call
asks_listed t = Def.Call.ask (Def.Question.listed t)

abbrev pub asks_transfers : ℕ → Def.Call
asks_transfers t = Def.Call.ask (Def.Question.transfers t)

abbrev pub asks_complete : Def.Call
asks_complete = Def.Call.complete

abbrev pub asks_publish : ℕ → Part → Def.Call
asks_publish clock part = Def.Call.publish clock part

abbrev pub asks_run_fdt : ℕ → Option Part → Def.Call
asks_run_fdt clock draft = Def.Call.run_fdt clock draft

abbrev pub asks_run : ℕ → ℕ → Def.Call
asks_run i clock = Def.Call.run_file i clock

-- the reply and the sender after it are what the definition says of the call
pub record PlaysCall (c : Def.Call) (s : Sender) (y : Reply) (r : Sender) : Type 0 where
  pub answer : Def.Answer
  pub says : Says answer y
  pub kept : Kept s c answer r

-- what a command asks of a sender; none where it asks nothing
abbrev pub call_of : Command → Option Def.Call
call_of CommandV.Skip = None
call_of CommandV.Wrong = None
call_of (CommandV.Setup x) = None
call_of CommandV.SetupOut = None
call_of CommandV.Reserve = Some asks_reserve
call_of (CommandV.Release t) = Some (asks_release t)
call_of (CommandV.Add o named) = Some (asks_add o named)
call_of CommandV.AddNowhere = None
call_of (CommandV.Remove t) = Some (asks_remove t)
call_of (CommandV.Trigger t start) = Some (asks_trigger t start)
call_of (CommandV.Publish clock part) = Some (asks_publish clock part)
call_of CommandV.Complete = Some asks_complete
call_of (CommandV.Listed t) = Some (asks_listed t)
call_of (CommandV.Transfers t) = Some (asks_transfers t)
call_of (CommandV.RunFdt clock draft) = Some (asks_run_fdt clock draft)
call_of (CommandV.Run i clock) = Some (asks_run i clock)
call_of (CommandV.Partition l e b) = None
call_of (CommandV.BlockLength l e b k) = None
call_of (CommandV.RawLength p l e k) = None
call_of (CommandV.Drain t) = None
call_of (CommandV.WriteRecord w) = None
call_of (CommandV.ReadRecord a) = None

-- of a command that needs the sender
pub record Calls (c : Command) (s : Sender) (y : Reply) (r : Sender) : Type 0 where
  pub valid : ValidSender r
  pub played : (k : Def.Call) → call_of c ≡ Some k → PlaysCall k s y r
  -- no session has a priority above 32 bits
  pub nowhere : c ≡ CommandV.AddNowhere → (y ≡ ReplyV.Refused Because.NoPriority) × (r ≡ s)

-- what every command keeps: the sender, if there is one, may be handed to a call
abbrev pub Holds : Desk → Type 0
Holds d = IfSome d.sender ValidSender

-- this reply, and nothing changes
abbrev pub Only : Reply → Desk → Reply → Desk → Type 0
Only x d y r = (y ≡ x) × (r ≡ d)

-- of a set-up: the definition's answer, and its desk; a refused one leaves no sender
pub record SetsUp (z : Setup) (y : Reply) (r : Desk) : Type 0 where
  pub says : Says (set_up_said (given r.sender)) y
  pub means : Def.set_up (setup_said z) ≡ (set_up_said (given r.sender), over desk_of r.sender)
  pub holds : Holds r

-- no set-up is accepted
pub record Shut (y : Reply) (r : Desk) : Type 0 where
  pub closed : r.sender ≡ None
  pub says : Says (Def.Answer.refused Because.SetUp) y

-- a call of the desk's sender: the desk has a sender after it too
pub record Played (k : Def.Call) (s : Sender) (y : Reply) (r : Desk) : Type 0 where
  pub sender : Sender
  pub stays : r.sender ≡ Some sender
  pub call : PlaysCall k s y sender

-- of any command: a call is played on the sender; where no set-up was accepted it is an error, and nothing changes
pub record Answers (c : Command) (d : Desk) (y : Reply) (r : Desk) : Type 0 where
  pub holds : Holds r
  pub played : (k : Def.Call) (s : Sender) → call_of c ≡ Some k → d.sender ≡ Some s → Played k s y r
  pub shut : (k : Def.Call) → call_of c ≡ Some k → d.sender ≡ None → Only ReplyV.Error d y r
  pub nowhere : c ≡ CommandV.AddNowhere → Only (when given d.sender then ReplyV.Refused Because.NoPriority else ReplyV.Error) d y r

-- the reply to a command that needs no sender: an empty line or a comment, a partition, a block's length, a transfer's lines, a record
abbrev pub alone : Command → Option Reply
alone CommandV.Skip = Some ReplyV.Silent
alone CommandV.Wrong = None
alone (CommandV.Setup x) = None
alone CommandV.SetupOut = None
alone CommandV.Reserve = None
alone (CommandV.Release t) = None
alone (CommandV.Add o named) = None
alone CommandV.AddNowhere = None
alone (CommandV.Remove t) = None
alone (CommandV.Trigger t start) = None
alone (CommandV.Publish clock part) = None
alone CommandV.Complete = None
alone (CommandV.Listed t) = None
alone (CommandV.Transfers t) = None
alone (CommandV.RunFdt clock draft) = None
alone (CommandV.Run i clock) = None
alone (CommandV.Partition l e b) = Some (ReplyV.Cut (partition_of b l e))
alone (CommandV.BlockLength l e b k) = Some (length_shown (block_length (partition_of b l e) l e k))
alone (CommandV.RawLength p l e k) = Some (length_shown (block_length p l e k))
alone (CommandV.Drain t) = Some (ReplyV.Drained t)
alone (CommandV.WriteRecord w) = Some (record_shown w.record w.room)
alone (CommandV.ReadRecord a) = Some (reading_shown a)

-- of such a command: that reply, and nothing changes
pub record Stays (c : Command) (d : Desk) (y : Reply) (r : Desk) : Type 0 where
  pub stays : (x : Reply) → alone c ≡ Some x → Only x d y r

-- of a set-up, and of a line that cannot be read
pub record SetUpAnswers (c : Command) (d : Desk) (y : Reply) (r : Desk) : Type 0 where
  pub begun : (z : Setup) → c ≡ CommandV.Setup z → SetsUp z y r
  pub out : c ≡ CommandV.SetupOut → Shut y r
  pub wrong : c ≡ CommandV.Wrong → Only ReplyV.Error d y r
