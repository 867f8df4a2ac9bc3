-- Laws on commands: which need no sender, and what a refused set-up says.
use mathlib.Core.Path.{◌≡◌, refl}
use mathlib.Core.Bool.{Bool, true, false}
use Rattle.std.specs.Prelude.{Option, None, Result, Ok, Err}
use Prim.Native.Nat.{ℕ}
use native.Mathlib.Omega.{arith}
use Rattle.sizes.specs.Words.{when◌then◌else◌}
use Rattle.sizes.specs.declared.numbers.Sbn.{Sbn}
use Rattle.sizes.specs.declared.partition.Partition.{Partition}
use Rattle.sizes.specs.declared.refusal.Refusal.{Refusal}
use Rattle.sizes.specs.declared.refusal.Refusal.TheVariants as Because
use Rattle.lifecycle.specs.declared.filedesc.Time.{Time}
use Rattle.lifecycle.specs.declared.parts.Part.{Part}
use Rattle.sender.specs.declared.sender.Object.{Object}
use Rattle.sender.specs.declared.sender.Sender.{Sender}
use Rattle.sender.specs.declared.setup.Setup.{Setup}
use Rattle.wire.specs.declared.record.Record.{Record}
use Rattle.drain_program.specs.declared.drain.Transfer.{Transfer}
use Rattle.record_program.specs.declared.WriteWords.{WriteWords}
use Rattle.desk_program.specs.Plays.{alone, call_of, SetUpAnswers, Stays}
use Rattle.desk_program.specs.declared.command.Command.{Command}
use Rattle.desk_program.specs.declared.command.Command.TheVariants as CommandV
use Rattle.desk_program.specs.declared.play.Desk.{Desk}
use Rattle.desk_program.specs.declared.reply.Reply.{Reply}

-- a set-up has one reason to be refused
pub refused_why : (b : Bool) (s : Sender) (why : Refusal) → Err why ≡ (when b then Ok s else Err Because.SetUp) → why ≡ Because.SetUp
refused_why true s why e = cc
refused_why false s why e = cc

-- a command that is none of those that need no sender
pub not_alone : (c : Command) → (c ≡ CommandV.Skip → ⊥) → ((l e b : ℕ) → c ≡ CommandV.Partition l e b → ⊥)
    → ((l e b : ℕ) (k : Sbn) → c ≡ CommandV.BlockLength l e b k → ⊥)
    → ((p : Partition) (l e : ℕ) (k : Sbn) → c ≡ CommandV.RawLength p l e k → ⊥)
    → ((t : Transfer) → c ≡ CommandV.Drain t → ⊥) → ((w : WriteWords) → c ≡ CommandV.WriteRecord w → ⊥)
    → ((a : Result Record Refusal) → c ≡ CommandV.ReadRecord a → ⊥) → alone c ≡ None
not_alone CommandV.Skip h1 h2 h3 h4 h5 h6 h7 = absurd (h1 refl)
not_alone CommandV.Wrong h1 h2 h3 h4 h5 h6 h7 = refl
not_alone (CommandV.Setup x) h1 h2 h3 h4 h5 h6 h7 = refl
not_alone CommandV.SetupOut h1 h2 h3 h4 h5 h6 h7 = refl
not_alone CommandV.Reserve h1 h2 h3 h4 h5 h6 h7 = refl
not_alone (CommandV.Release t) h1 h2 h3 h4 h5 h6 h7 = refl
not_alone (CommandV.Add o named) h1 h2 h3 h4 h5 h6 h7 = refl
not_alone CommandV.AddNowhere h1 h2 h3 h4 h5 h6 h7 = refl
not_alone (CommandV.Remove t) h1 h2 h3 h4 h5 h6 h7 = refl
not_alone (CommandV.Trigger t start) h1 h2 h3 h4 h5 h6 h7 = refl
not_alone (CommandV.Publish clock part) h1 h2 h3 h4 h5 h6 h7 = refl
not_alone CommandV.Complete h1 h2 h3 h4 h5 h6 h7 = refl
not_alone (CommandV.Listed t) h1 h2 h3 h4 h5 h6 h7 = refl
not_alone (CommandV.Transfers t) h1 h2 h3 h4 h5 h6 h7 = refl
not_alone (CommandV.RunFdt clock draft) h1 h2 h3 h4 h5 h6 h7 = refl
not_alone (CommandV.Run i clock) h1 h2 h3 h4 h5 h6 h7 = refl
not_alone (CommandV.Partition l e b) h1 h2 h3 h4 h5 h6 h7 = absurd (h2 l e b refl)
not_alone (CommandV.BlockLength l e b k) h1 h2 h3 h4 h5 h6 h7 = absurd (h3 l e b k refl)
not_alone (CommandV.RawLength p l e k) h1 h2 h3 h4 h5 h6 h7 = absurd (h4 p l e k refl)
not_alone (CommandV.Drain t) h1 h2 h3 h4 h5 h6 h7 = absurd (h5 t refl)
not_alone (CommandV.WriteRecord w) h1 h2 h3 h4 h5 h6 h7 = absurd (h6 w refl)
not_alone (CommandV.ReadRecord a) h1 h2 h3 h4 h5 h6 h7 = absurd (h7 a refl)

-- a command that is none of those that ask for a call
pub asks_none : (c : Command) → (c ≡ CommandV.Reserve → ⊥) → ((t : ℕ) → c ≡ CommandV.Release t → ⊥) → ((o : Object) (named : Option ℕ) → c ≡ CommandV.Add o named → ⊥)
    → ((t : ℕ) → c ≡ CommandV.Remove t → ⊥) → ((t : ℕ) (start : Time) → c ≡ CommandV.Trigger t start → ⊥)
    → ((clock : ℕ) (part : Part) → c ≡ CommandV.Publish clock part → ⊥) → (c ≡ CommandV.Complete → ⊥) → ((t : ℕ) → c ≡ CommandV.Listed t → ⊥)
    → ((t : ℕ) → c ≡ CommandV.Transfers t → ⊥) → ((clock : ℕ) (draft : Option Part) → c ≡ CommandV.RunFdt clock draft → ⊥)
    → ((i clock : ℕ) → c ≡ CommandV.Run i clock → ⊥) → call_of c ≡ None
asks_none CommandV.Skip h1 h2 h3 h4 h5 h6 h7 h8 h9 h10 h11 = refl
asks_none CommandV.Wrong h1 h2 h3 h4 h5 h6 h7 h8 h9 h10 h11 = refl
asks_none (CommandV.Setup x) h1 h2 h3 h4 h5 h6 h7 h8 h9 h10 h11 = refl
asks_none CommandV.SetupOut h1 h2 h3 h4 h5 h6 h7 h8 h9 h10 h11 = refl
asks_none CommandV.Reserve h1 h2 h3 h4 h5 h6 h7 h8 h9 h10 h11 = absurd (h1 refl)
asks_none (CommandV.Release t) h1 h2 h3 h4 h5 h6 h7 h8 h9 h10 h11 = absurd (h2 t refl)
asks_none (CommandV.Add o named) h1 h2 h3 h4 h5 h6 h7 h8 h9 h10 h11 = absurd (h3 o named refl)
asks_none CommandV.AddNowhere h1 h2 h3 h4 h5 h6 h7 h8 h9 h10 h11 = refl
asks_none (CommandV.Remove t) h1 h2 h3 h4 h5 h6 h7 h8 h9 h10 h11 = absurd (h4 t refl)
asks_none (CommandV.Trigger t start) h1 h2 h3 h4 h5 h6 h7 h8 h9 h10 h11 = absurd (h5 t start refl)
asks_none (CommandV.Publish clock part) h1 h2 h3 h4 h5 h6 h7 h8 h9 h10 h11 = absurd (h6 clock part refl)
asks_none CommandV.Complete h1 h2 h3 h4 h5 h6 h7 h8 h9 h10 h11 = absurd (h7 refl)
asks_none (CommandV.Listed t) h1 h2 h3 h4 h5 h6 h7 h8 h9 h10 h11 = absurd (h8 t refl)
asks_none (CommandV.Transfers t) h1 h2 h3 h4 h5 h6 h7 h8 h9 h10 h11 = absurd (h9 t refl)
asks_none (CommandV.RunFdt clock draft) h1 h2 h3 h4 h5 h6 h7 h8 h9 h10 h11 = absurd (h10 clock draft refl)
asks_none (CommandV.Run i clock) h1 h2 h3 h4 h5 h6 h7 h8 h9 h10 h11 = absurd (h11 i clock refl)
asks_none (CommandV.Partition l e b) h1 h2 h3 h4 h5 h6 h7 h8 h9 h10 h11 = refl
asks_none (CommandV.BlockLength l e b k) h1 h2 h3 h4 h5 h6 h7 h8 h9 h10 h11 = refl
asks_none (CommandV.RawLength p l e k) h1 h2 h3 h4 h5 h6 h7 h8 h9 h10 h11 = refl
asks_none (CommandV.Drain t) h1 h2 h3 h4 h5 h6 h7 h8 h9 h10 h11 = refl
asks_none (CommandV.WriteRecord w) h1 h2 h3 h4 h5 h6 h7 h8 h9 h10 h11 = refl
asks_none (CommandV.ReadRecord a) h1 h2 h3 h4 h5 h6 h7 h8 h9 h10 h11 = refl

pub stays_none : {c : Command} {d : Desk} {y : Reply} {r : Desk} → alone c ≡ None → Stays c d y r
stays_none e = record { stays = λ x f. let z : ◌≡◌ {A = ℕ} 0 1 = cc in absurd (omega arith) }

-- a command that is no set-up, and can be read
pub not_set_up : {c : Command} {d : Desk} {y : Reply} {r : Desk} → ((z : Setup) → c ≡ CommandV.Setup z → ⊥) → (c ≡ CommandV.SetupOut → ⊥)
    → (c ≡ CommandV.Wrong → ⊥) → SetUpAnswers c d y r
not_set_up one two three = record { begun = λ z f. absurd (one z f); out = λ f. absurd (two f); wrong = λ f. absurd (three f) }
