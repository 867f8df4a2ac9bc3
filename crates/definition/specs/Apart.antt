-- Demand 3, stated: what one priority's callers ask and are told, and that nothing else has a say in it.
use Rattle.std.specs.Prelude.{◌≡◌, Bool, true, false, not, ◌&&◌, ◌||◌, List, [], ◌∷◌, ℕ, suc, eqb, length}
use Rattle.std.specs.Prelude.{Option, None, Some}
use Rattle.sizes.specs.Words.{when◌then◌else◌, maybe, given, any, at, has}
use Rattle.sizes.specs.declared.refusal.Refusal.{Refusal}
use Rattle.sizes.specs.Refusals.{refusal_number}
use Rattle.lifecycle.specs.Setup.{Setup}
use Rattle.definition.specs.FdtSession.{Packet}
use Rattle.definition.specs.Session.{Object, Session}
use Rattle.definition.specs.Desk.{Desk, Request, Question, Call, Answer, opening, objects, is, step}

-- ---- which calls are about a priority

-- is it the priority's object
abbrev pub mine : ℕ → Object → Bool
mine p o = eqb o.priority p

-- does an object of the priority hold the number, at this moment
unfoldable pub owns : ℕ → Desk → ℕ → Bool
owns p d t = any (λ o. mine p o && is t o) (objects d)

-- is the question about the priority
abbrev pub about_question : ℕ → Desk → Question → Bool
about_question p d (Question.listed t) = owns p d t
about_question p d (Question.transfers t) = owns p d t

-- is the call about one of the priority's objects or sessions, or an FDT call or the completion. An add, refused or not, is about its own priority.
-- Reservations are not asked for here: two runs are alike whether or not these agree
unfoldable pub about : ℕ → Desk → Call → Bool
about p d Call.reserve = false
about p d (Call.release t) = false
about p d (Call.add named q) = eqb q.priority p
about p d (Call.touch t x) = owns p d t
about p d (Call.ask q) = about_question p d q
about p d Call.complete = true
about p d (Call.publish now c) = true
about p d (Call.run_fdt now draft) = true
about p d (Call.run_file i now) = maybe false (λ (x : Session). eqb x.priority p) (at d.sessions i)

-- what an add asks for: the reservation that it names, and the request
abbrev pub adding : Call → Option (Option ℕ × Request)
adding (Call.add named q) = Some (named, q)
adding Call.reserve = None
adding (Call.release t) = None
adding (Call.touch t x) = None
adding (Call.ask q) = None
adding Call.complete = None
adding (Call.publish now c) = None
adding (Call.run_fdt now draft) = None
adding (Call.run_file i now) = None

-- is it an add of the priority
abbrev pub adds : ℕ → Call → Bool
adds p c = maybe false (λ x. eqb x.1.priority p) (adding c)

-- the number that an answer gives, and the refusal that it is
abbrev pub number_in : Answer → Option ℕ
number_in (Answer.number t) = Some t
number_in (Answer.refused n) = None
number_in Answer.done = None
number_in (Answer.truth b) = None
number_in (Answer.transferred n) = None
number_in (Answer.fdt_output b k) = None
number_in (Answer.output k) = None

abbrev pub refusal_in : Answer → Option Refusal
refusal_in (Answer.refused n) = Some n
refusal_in (Answer.number t) = None
refusal_in Answer.done = None
refusal_in (Answer.truth b) = None
refusal_in (Answer.transferred n) = None
refusal_in (Answer.fdt_output b k) = None
refusal_in (Answer.output k) = None

-- was the call not refused
abbrev pub accepted : Answer → Bool
accepted a = not (given (refusal_in a))

-- ---- objects are matched by the call that admitted them, whatever their numbers

-- the numbers that the priority's admissions got, latest first, after one more call
abbrev pub got_after : ℕ → Call → Answer → List ℕ → List ℕ
got_after p c a j = maybe j (λ x. maybe j (λ t. when eqb x.1.priority p then t ∷ j else j) (number_in a)) (adding c)

-- which admission last got the number, counted from 1, or 0 for none: what a number stands for
abbrev pub key : List ℕ → ℕ → ℕ
key [] t = 0
key (u ∷ j) t = when eqb u t then suc (length j) else key j t

-- a question with its object number put through f
abbrev pub question_by : (ℕ → ℕ) → Question → Question
question_by f (Question.listed t) = Question.listed (f t)
question_by f (Question.transfers t) = Question.transfers (f t)

-- a call with each object number put through f, and the reservation that an add names put through g
abbrev pub renumbered : (ℕ → ℕ) → (Option ℕ → Option ℕ) → Call → Call
renumbered f g Call.reserve = Call.reserve
renumbered f g (Call.release t) = Call.release (f t)
renumbered f g (Call.add named q) = Call.add (g named) q
renumbered f g (Call.touch t x) = Call.touch (f t) x
renumbered f g (Call.ask q) = Call.ask (question_by f q)
renumbered f g Call.complete = Call.complete
renumbered f g (Call.publish now c) = Call.publish now c
renumbered f g (Call.run_fdt now draft) = Call.run_fdt now draft
renumbered f g (Call.run_file i now) = Call.run_file i now

-- the number that an add names need not match
abbrev pub call_by : (ℕ → ℕ) → Call → Call
call_by f = renumbered f (λ named. None)

-- an FDT's packet keeps its 0
abbrev pub packet_by : (ℕ → ℕ) → Packet → Packet
packet_by f k = record { id = k.id; toi = when given k.id then k.toi else f k.toi; symbol = k.symbol }

abbrev pub perhaps_by : (ℕ → ℕ) → Option Packet → Option Packet
perhaps_by f None = None
perhaps_by f (Some k) = Some (packet_by f k)

abbrev pub answer_by : (ℕ → ℕ) → Answer → Answer
answer_by f (Answer.refused n) = Answer.refused n
answer_by f (Answer.number t) = Answer.number (f t)
answer_by f Answer.done = Answer.done
answer_by f (Answer.truth b) = Answer.truth b
answer_by f (Answer.transferred n) = Answer.transferred n
answer_by f (Answer.fdt_output b k) = Answer.fdt_output b (perhaps_by f k)
answer_by f (Answer.output k) = Answer.output (perhaps_by f k)

-- ---- what one run says of a priority

-- the refusals that demand 3's premise bars
abbrev pub barred : List ℕ
barred = 5 ∷ 6 ∷ 7 ∷ []

abbrev pub bars : Refusal → Bool
bars why = has (refusal_number why) barred

-- was the call refused by one of them
abbrev pub is_barred : Answer → Bool
is_barred a = elim (refusal_in a) [ None ↦ false | Some why ↦ bars why ]

-- an add of the priority that meets refusal 5, 6 or 7. None of its other calls can: a release of an object's number (6) and a reservation that is not made (7) are about nobody
abbrev pub turned_away : ℕ → Call → Answer → Bool
turned_away p c a = maybe false (λ x. eqb x.1.priority p && is_barred a) (adding c)

module _ (s : Setup) (p : ℕ) where
  -- the priority's calls in a run from desk d, in order; j has the numbers that its admissions got so far
  unfoldable pub calls : List ℕ → Desk → List Call → List Call
  calls j d [] = []
  calls j d (c ∷ l) =
      let r = step s d c in
      let rest = calls (got_after p c r.0 j) r.1 l in
      when about p d c then call_by (key j) c ∷ rest else rest

  -- their answers
  unfoldable pub answers : List ℕ → Desk → List Call → List Answer
  answers j d [] = []
  answers j d (c ∷ l) =
      let r = step s d c in
      let j' = got_after p c r.0 j in
      let rest = answers j' r.1 l in
      when about p d c then answer_by (key j') r.0 ∷ rest else rest

  -- does none of them meet refusal 5, 6 or 7
  unfoldable pub smooth : Desk → List Call → Bool
  smooth d [] = true
  smooth d (c ∷ l) = let r = step s d c in not (turned_away p c r.0) && smooth r.1 l

  -- two runs from the same set-up, with the same calls about the priority, are answered alike but for object numbers
  unfoldable pub Alike : Type 0
  Alike = (l m : List Call) → smooth (opening s) l ≡ true → smooth (opening s) m ≡ true
      → calls [] (opening s) l ≡ calls [] (opening s) m → answers [] (opening s) l ≡ answers [] (opening s) m

-- ---- the run where only these calls are made

-- the reservation that a call ends if it is not refused
abbrev pub ending : Call → Option ℕ
ending (Call.add named q) = named
ending (Call.release t) = Some t
ending Call.reserve = None
ending (Call.touch t x) = None
ending (Call.ask q) = None
ending Call.complete = None
ending (Call.publish now c) = None
ending (Call.run_fdt now draft) = None
ending (Call.run_file i now) = None

-- does the call end the reservation of t
abbrev pub ends : ℕ → Call → Answer → Bool
ends t c a = maybe false (λ u. accepted a && eqb u t) (ending c)

-- the number that a question, and a call, asks after
abbrev pub asked_after : Question → Option ℕ
asked_after (Question.listed t) = Some t
asked_after (Question.transfers t) = Some t

abbrev pub asked : Call → Option ℕ
asked (Call.touch t x) = Some t
asked (Call.ask q) = asked_after q
asked Call.reserve = None
asked (Call.release t) = None
asked (Call.add named q) = None
asked Call.complete = None
asked (Call.publish now c) = None
asked (Call.run_fdt now draft) = None
asked (Call.run_file i now) = None

-- the number there of what has number t here, latest first
abbrev pub look : List (ℕ × ℕ) → ℕ → ℕ
look [] t = 0
look (r ∷ l) t = when eqb r.0 t then r.1 else look l t

-- the call, with the numbers there
abbrev pub through : List (ℕ × ℕ) → Call → Call
through m = renumbered (look m) (maybe None (λ t. Some (look m t)))

-- what two answers give a number is one thing here and there
abbrev pub tie : Answer → Answer → List (ℕ × ℕ) → List (ℕ × ℕ)
tie a b m = maybe m (λ t. maybe m (λ u. (t, u) ∷ m) (number_in b)) (number_in a)

module _ (s : Setup) (p : ℕ) where
  -- is the reservation of t the priority's: its next end, from desk d on, is an admitted add of the priority
  unfoldable pub claims : ℕ → Desk → List Call → Bool
  claims t d [] = false
  claims t d (c ∷ l) = let r = step s d c in let rest = claims t r.1 l in when ends t c r.0 then adds p c else rest

  -- does the call make a reservation of the priority
  unfoldable pub reserves : Desk → Call → List Call → Bool
  reserves d Call.reserve l = accepted (step s d Call.reserve).0 && claims d.next (step s d Call.reserve).1 l
  reserves d (Call.release u) l = false
  reserves d (Call.add named q) l = false
  reserves d (Call.touch u x) l = false
  reserves d (Call.ask q) l = false
  reserves d Call.complete l = false
  reserves d (Call.publish now c) l = false
  reserves d (Call.run_fdt now draft) l = false
  reserves d (Call.run_file i now) l = false

  -- does the call ask after a reservation of the priority: no object has the number, so it answers no or none and changes nothing
  unfoldable pub asks_loose : Desk → Call → List Call → Bool
  asks_loose d c l = maybe false (λ t. has t d.loose && claims t (step s d c).1 l) (asked c)

  -- the run where only these calls are made: about the priority's objects, reservations and sessions, the FDT calls and the completion; m ties the numbers here to those there
  unfoldable pub only : List (ℕ × ℕ) → Desk → Desk → List Call → List Call
  only m d e [] = []
  only m d e (c ∷ l) =
      let r = step s d c in
      let r' = step s e (through m c) in
      let here = through m c ∷ only (tie r.0 r'.0 m) r.1 r'.1 l in
      let past = only m r.1 e l in
      when about p d c || reserves d c l || asks_loose d c l then here else past

  -- that run, from set-up
  unfoldable pub lone : List Call → List Call
  lone l = only [] (opening s) (opening s) l

  -- it meets no refusal 5, 6 or 7 either, has the same calls about the priority, and is answered the same
  pub record Only (l : List Call) : Type 0 where
    pub lone_smooth : smooth s p (opening s) (lone l) ≡ true
    pub same_calls : calls s p [] (opening s) (lone l) ≡ calls s p [] (opening s) l
    pub same_answers : answers s p [] (opening s) l ≡ answers s p [] (opening s) (lone l)

-- ---- the numbers in a priority's answers

-- an object's packet has one of the numbers j; an FDT's has 0
abbrev pub PacketOf : List ℕ → Option Packet → Type 0
PacketOf j None = Unit {0}
PacketOf j (Some k) = given k.id ≡ false → has k.toi j ≡ true

abbrev pub NumberOf : List ℕ → Answer → Type 0
NumberOf j (Answer.output k) = PacketOf j k
NumberOf j (Answer.fdt_output taken k) = PacketOf j k
NumberOf j (Answer.refused why) = Unit {0}
NumberOf j (Answer.number t) = Unit {0}
NumberOf j Answer.done = Unit {0}
NumberOf j (Answer.truth b) = Unit {0}
NumberOf j (Answer.transferred n) = Unit {0}

-- from desk d on, every answer to a call about the priority names only numbers that the priority's admissions got until then, among them j
abbrev pub OwnNumbers : Setup → ℕ → List ℕ → Desk → List Call → Type 0
OwnNumbers s p j d [] = Unit {0}
OwnNumbers s p j d (c ∷ l) =
    let r = step s d c in
    let j' = got_after p c r.0 j in
    (about p d c ≡ true → NumberOf j' r.0) × OwnNumbers s p j' r.1 l

-- ---- demand 3, whole
pub record Demand3 (s : Setup) (p : ℕ) : Type 0 where
  pub two_runs : Alike s p
  pub only_these_calls : (l : List Call) → smooth s p (opening s) l ≡ true → Only s p l
  pub numbers_got : (l : List Call) → OwnNumbers s p [] (opening s) l
