-- The sender as the code has it: the desk that it is, what every call keeps, what each call makes of it, and what is promised of each.
use Rattle.std.specs.Prelude.{◌≡◌, Bool, true, false, List, map, ℕ, ◌<◌, ◌≤◌, eqb, ltb, length, get_or, take, set}
use Rattle.std.specs.Prelude.{Option, None, Some, Result, Ok, Err}
use Rattle.sizes.specs.Words.{when◌then◌else◌, over, any, collect, Counts}
use Rattle.sizes.specs.declared.refusal.Refusal.{Refusal}
use Rattle.sizes.specs.declared.refusal.Refusal.TheVariants as Because
use Rattle.sizes.specs.Limits.{most_sessions, largest_window, longest_store}
use Rattle.sizes.specs.Allocator as Alloc
use Rattle.lifecycle.specs.Setup.{Setup as DefSetup}
use Rattle.lifecycle.specs.FileDesc.{time_of, plan_named, carousel_named, target_named}
use Rattle.lifecycle.specs.Slots.{no_slot, slot_at}
use Rattle.lifecycle.specs.FdtCalls.{sends, real_draft, draft_test_of, reserved_of, released_of, added_of, removed_of, triggered_of, is_added_of, transfers_of, completed_of, publish_of}
use Rattle.lifecycle.specs.declared.parts.Part.{Part}
use Rattle.lifecycle.specs.declared.filedesc.Time.{Time}
use Rattle.lifecycle.specs.declared.fdt.Fdt.{Fdt}
use Rattle.lifecycle.specs.declared.fdt.Request.{Request}
use Rattle.definition.specs.FdtSession.{Packet as DefPacket}
use Rattle.definition.specs.Desk as Def
use Rattle.sender.specs.EncoderCalls.{symbol_said}
use Rattle.sender.specs.SessionCalls.{Holds, session_of, idle_of, ran_of}
use Rattle.sender.specs.FdtSessionCalls.{FdtHolds, fdt_idle_of, fdt_ran_of}
use Rattle.sender.specs.SessionMeans.{queue_of, fdt_of, fdt_carousel_of, Stands, FdtInHand}
use Rattle.sender.specs.declared.sendersession.SenderSession.{SenderSession}
use Rattle.sender.specs.declared.sendersession.Outcome.{Outcome}
use Rattle.sender.specs.declared.sendersession.Outcome.TheVariants as OutcomeV
use Rattle.sender.specs.declared.sender.Sender.{Sender}
use Rattle.sender.specs.declared.sender.Object.{Object}
use Rattle.sender.specs.declared.sender.Packet.{Packet}

-- ---- the desk that a sender is

-- the sessions in use
abbrev pub working : Sender → List SenderSession
working s = take s.count s.sessions

unfoldable pub desk_of : Sender → Def.Desk
desk_of s = record {
  complete = s.fdt.complete;
  next = s.fdt.tois.next;
  loose = Alloc.loose s.fdt.tois;
  queue = queue_of s.fdt;
  sessions = map (session_of s.fdt.slots) (working s);
  fdt = fdt_of s.fdt s.fdt_session;
}

-- the sender has the numbers of this set-up
pub record Agrees (u : DefSetup) (s : Sender) : Type 0 where
  pub window : u.window ≡ s.window
  pub sizes : u.sizes ≡ s.fdt.settings.sizes
  pub object_store : u.object_store ≡ s.fdt.settings.object_store
  pub fdt_store : u.fdt_store ≡ s.fdt.settings.fdt_store
  pub width : u.width ≡ s.fdt.tois.width
  pub carousel : u.carousel ≡ fdt_carousel_of s.fdt.settings
  pub validity : u.validity ≡ s.fdt.settings.validity

-- ---- what set-up and every call give back, and the only premise of a call

-- the slot that a session has in hand
abbrev pub slot_in : SenderSession → Option ℕ
slot_in x = when x.busy then Some x.slot else None

pub record ValidSender (s : Sender) : Type 0 where
  pub holds : Holds s.fdt
  pub fdt_holds : FdtHolds s.fdt
  pub object_store : s.fdt.settings.object_store ≤ longest_store
  pub fdt_store : s.fdt.settings.fdt_store ≤ longest_store
  pub narrow : s.window ≤ largest_window
  pub few : s.count ≤ most_sessions
  pub long : length s.sessions ≡ most_sessions
  pub sessions : (i : ℕ) → i < s.count → Stands s.fdt s.window (get_or s.sessions i (idle_of 0))
  -- zeros past the sessions in use
  pub spare : (i : ℕ) → s.count ≤ i → get_or s.sessions i (idle_of 0) ≡ idle_of 0
  -- each slot in transfer is in one session's hand, and no other is
  pub in_hand : Counts no_slot sends s.fdt.slots (collect slot_in (working s))
  -- the FDT session has something in hand exactly while the current FDT is transferring
  pub fdt_busy : s.fdt_session.busy ≡ true → FdtInHand s.fdt s.window s.fdt_session
  pub fdt_idle : s.fdt_session.busy ≡ false → s.fdt_session ≡ fdt_idle_of
  pub matched : s.fdt.announcer.current.life.transferring ≡ s.fdt_session.busy

-- the call's answer and desk are the definition's, and the sender after it may be handed to the next
pub record Kept (s : Sender) (c : Def.Call) (a : Def.Answer) (r : Sender) : Type 0 where
  pub means : (u : DefSetup) → Agrees u s → Def.step u (desk_of s) c ≡ (a, desk_of r)
  pub agrees : (u : DefSetup) → Agrees u s → Agrees u r
  pub valid : ValidSender r

-- ---- what the answers say, by the table's numbers

abbrev pub alloc_answer : Alloc.Said → Def.Answer
alloc_answer (Alloc.Said.toi n) = Def.Answer.number n
alloc_answer Alloc.Said.done = Def.Answer.done
alloc_answer (Alloc.Said.refused n) = Def.Answer.refused n

abbrev pub add_answer : Result ℕ Refusal → Def.Answer
add_answer (Ok t) = Def.Answer.number t
add_answer (Err why) = Def.Answer.refused why

abbrev pub packet_said : Packet → DefPacket
packet_said p = record { id = when p.is_fdt then Some p.fdt_id else None; toi = p.toi; symbol = symbol_said p.symbol }

-- what a run gives: a packet or nothing, or why it is refused
abbrev pub RunAnswer : Type 0
RunAnswer = Result (Option Packet) Refusal

-- the packet of an answer, if there is one
abbrev pub packet_in : RunAnswer → Option DefPacket
packet_in (Ok (Some p)) = Some (packet_said p)
packet_in (Ok None) = None
packet_in (Err why) = None

-- of a file session
abbrev pub file_answer : RunAnswer → Def.Answer
file_answer (Ok (Some p)) = Def.Answer.output (Some (packet_said p))
file_answer (Ok None) = Def.Answer.output None
file_answer (Err why) = Def.Answer.refused why

-- of the FDT session, with whether the draft was taken
abbrev pub fdt_answer : Bool → RunAnswer → Def.Answer
fdt_answer taken (Ok (Some p)) = Def.Answer.fdt_output taken (Some (packet_said p))
fdt_answer taken (Ok None) = Def.Answer.fdt_output taken None
fdt_answer taken (Err why) = Def.Answer.refused why

-- ---- what each call is on the definition's side

abbrev pub object_said : Object → Def.Request
object_said o = record {
  priority = o.priority;
  part = o.part;
  own = o.own;
  plan = record { most = o.most; carousel = over carousel_named o.carousel; target = target_named o.target; stop_at_once = o.stop_at_once };
  named_start = time_of o.start;
}

-- ---- what each call makes of the sender

-- what a call answers, and the sender after it
pub record Reserving : Type 0 where
  pub answer : Result ℕ Refusal
  pub sender : Sender

pub record Releasing : Type 0 where
  pub answer : Result (Unit {0}) Refusal
  pub sender : Sender

pub record Adding : Type 0 where
  pub answer : Result ℕ Refusal
  pub sender : Sender

-- yes or no
pub record Touching : Type 0 where
  pub yes : Bool
  pub sender : Sender

pub record Publishing : Type 0 where
  pub answer : Result (Unit {0}) Refusal
  pub sender : Sender

-- `taken`: did an FDT run take its draft
pub record Running : Type 0 where
  pub taken : Bool
  pub answer : RunAnswer
  pub sender : Sender

-- the same with another list
abbrev pub with_list : Sender → Fdt → Sender
with_list s f = record { fdt = f; window = s.window; count = s.count; sessions = s.sessions; fdt_session = s.fdt_session }

unfoldable pub reserving_of : Sender → Reserving
reserving_of s = record { answer = (reserved_of s.fdt).answer; sender = with_list s (reserved_of s.fdt).fdt }

unfoldable pub releasing_of : ℕ → Sender → Releasing
releasing_of t s = record { answer = (released_of t s.fdt).answer; sender = with_list s (released_of t s.fdt).fdt }

unfoldable pub removing_of : ℕ → Sender → Touching
removing_of t s = record { yes = (removed_of t s.fdt).yes; sender = with_list s (removed_of t s.fdt).fdt }

unfoldable pub prompting_of : ℕ → Time → Sender → Touching
prompting_of t start s = record { yes = (triggered_of t start s.fdt).yes; sender = with_list s (triggered_of t start s.fdt).fdt }

abbrev pub completing_of : Sender → Sender
completing_of s = with_list s (completed_of s.fdt)

unfoldable pub publishing_of : ℕ → Part → Sender → Publishing
publishing_of now c s = record { answer = (publish_of now c s.fdt).answer; sender = with_list s (publish_of now c s.fdt).fdt }

-- has the session this priority
abbrev pub has_priority : ℕ → SenderSession → Bool
has_priority p x = eqb x.priority p

-- what the list is asked for an object
unfoldable pub request_of : Object → Request
request_of o = record { priority = o.priority; part = o.part; own = o.own; plan = plan_named o.most o.carousel o.target o.stop_at_once; start = o.start }

unfoldable pub adding_of : Object → Option ℕ → Sender → Adding
adding_of o named s =
    when any (has_priority o.priority) (working s)
    then (let r = added_of s.fdt (request_of o) named in record { answer = r.answer; sender = with_list s r.fdt })
    else record { answer = Err Because.NoPriority; sender = s }

-- the answer of a session's run
abbrev pub answer_of : Bool → ℕ → ℕ → Outcome → RunAnswer
answer_of f toi id OutcomeV.Idle = Ok None
answer_of f toi id OutcomeV.Over = Ok None
answer_of f toi id (OutcomeV.Sent y) = Ok (Some (record { is_fdt = f; toi = toi; fdt_id = id; symbol = y }))

-- the sender with x for file session k
abbrev pub with_session : ℕ → SenderSession → Sender → Sender
with_session k x s = record { fdt = s.fdt; window = s.window; count = s.count; sessions = set s.sessions k x; fdt_session = s.fdt_session }

-- a run of file session i
unfoldable pub running_of : ℕ → ℕ → Sender → Running
running_of i now s =
    when ltb i s.count
    then (let r = ran_of s.window now s.fdt (get_or s.sessions i (idle_of 0)) in record {
      taken = false;
      answer = answer_of false (slot_at r.fdt.slots r.session.slot).file.toi 0 r.answer;
      sender = record { fdt = r.fdt; window = s.window; count = s.count; sessions = set s.sessions i r.session; fdt_session = s.fdt_session };
    })
    else record { taken = false; answer = Err Because.NoSession; sender = s }

-- a run of the FDT session with a draft that was looked at
abbrev pub fdt_running_by : ℕ → Option Part → Sender → Option Refusal → Running
fdt_running_by now draft s None = let r = fdt_ran_of s.window now draft s.fdt s.fdt_session in record {
  taken = r.taken;
  answer = answer_of true 0 r.session.id r.answer;
  sender = record { fdt = r.fdt; window = s.window; count = s.count; sessions = s.sessions; fdt_session = r.session };
}
fdt_running_by now draft s (Some why) = record { taken = false; answer = Err why; sender = s }

unfoldable pub fdt_running_of : ℕ → Option Part → Sender → Running
fdt_running_of now draft s = fdt_running_by now (real_draft draft) s (draft_test_of (real_draft draft) s.fdt)

-- ---- what is promised of each call: `exact` settles every field; `kept` says that it is the definition's

pub record Reserves (s : Sender) (r : Reserving) : Type 0 where
  pub exact : r ≡ reserving_of s
  pub kept : Kept s Def.Call.reserve (alloc_answer (Alloc.given_said r.answer)) r.sender

pub record Releases (t : ℕ) (s : Sender) (r : Releasing) : Type 0 where
  pub exact : r ≡ releasing_of t s
  pub kept : Kept s (Def.Call.release t) (alloc_answer (Alloc.known_said r.answer)) r.sender

pub record Adds (o : Object) (named : Option ℕ) (s : Sender) (r : Adding) : Type 0 where
  pub exact : r ≡ adding_of o named s
  pub kept : Kept s (Def.Call.add named (object_said o)) (add_answer r.answer) r.sender

pub record Removes (t : ℕ) (s : Sender) (r : Touching) : Type 0 where
  pub exact : r ≡ removing_of t s
  pub kept : Kept s (Def.Call.touch t Def.Touch.remove) (Def.Answer.truth r.yes) r.sender

pub record Prompts (t : ℕ) (start : Time) (s : Sender) (r : Touching) : Type 0 where
  pub exact : r ≡ prompting_of t start s
  pub kept : Kept s (Def.Call.touch t (Def.Touch.trigger (time_of start))) (Def.Answer.truth r.yes) r.sender

pub record Lists (t : ℕ) (s : Sender) (r : Bool) : Type 0 where
  pub exact : r ≡ is_added_of t s.fdt
  pub kept : Kept s (Def.Call.ask (Def.Question.listed t)) (Def.Answer.truth r) s

pub record CountsTransfers (t : ℕ) (s : Sender) (r : Option ℕ) : Type 0 where
  pub exact : r ≡ transfers_of t s.fdt
  pub kept : Kept s (Def.Call.ask (Def.Question.transfers t)) (Def.Answer.transferred r) s

pub record Completes (s r : Sender) : Type 0 where
  pub exact : r ≡ completing_of s
  pub kept : Kept s Def.Call.complete Def.Answer.done r

pub record Publishes (now : ℕ) (c : Part) (s : Sender) (r : Publishing) : Type 0 where
  pub exact : r ≡ publishing_of now c s
  pub kept : Kept s (Def.Call.publish now c) (alloc_answer (Alloc.known_said r.answer)) r.sender

pub record RunsFdt (now : ℕ) (draft : Option Part) (s : Sender) (r : Running) : Type 0 where
  pub exact : r ≡ fdt_running_of now draft s
  pub kept : Kept s (Def.Call.run_fdt now draft) (fdt_answer r.taken r.answer) r.sender

pub record RunsFile (i now : ℕ) (s : Sender) (r : Running) : Type 0 where
  pub exact : r ≡ running_of i now s
  pub kept : Kept s (Def.Call.run_file i now) (file_answer r.answer) r.sender
