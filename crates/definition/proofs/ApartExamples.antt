-- One run, computed: what is about priority 3 in it, what it is told, and the run where only its calls are made.
use mathlib.Core.Path.{◌≡◌, refl}
use mathlib.Core.Bool.{true, false}
use Rattle.std.specs.Prelude.{Option, None, Some}
use mathlib.Core.List.{List, [], ◌∷◌}
use Prim.Native.Nat.{ℕ}
use Rattle.sizes.specs.Partition.{sbn, esi}
use Rattle.lifecycle.specs.declared.parts.Part.{Part}
use Rattle.definition.specs.FdtSession.{Packet}
use Rattle.definition.specs.Desk.{Touch, Question, Call, Answer, opening}
use Rattle.definition.specs.Apart.{owns, about, calls, answers, smooth, claims, reserves, asks_loose, only, lone}
use Rattle.definition.specs.Sheet.{setup, bytes, object}
use Rattle.definition.proofs.Opened.{opened_desk}

-- the packet of a part of one symbol
packet : Option ℕ → ℕ → Part → Packet
packet id t c = record { id = id; toi = t; symbol = record { block = sbn 0; symbol = esi 0; symbols = 1; payload = c; transfer_length = c.size; close = false } }

-- the reservation 65_535 is the priority's, and is asked after before it is used; the reservation 1 is nobody's; 65_534 is another's object, and nothing once it was removed
example_run : List Call
example_run =
    Call.add None (object 7 10 4 1)
    ∷ Call.reserve
    ∷ Call.ask (Question.listed 65_535)
    ∷ Call.reserve
    ∷ Call.ask (Question.listed 1)
    ∷ Call.release 1
    ∷ Call.add (Some 65_535) (object 3 20 2 2)
    ∷ Call.publish 100 (bytes 0 2)
    ∷ Call.run_fdt 100 None
    ∷ Call.touch 65_534 Touch.remove
    ∷ Call.ask (Question.listed 65_534)
    ∷ Call.ask (Question.listed 65_535)
    ∷ Call.run_file 1 100
    ∷ Call.run_file 0 100
    ∷ []

record Example : Type 0 where
  -- the premise holds
  smooth_3 : smooth setup 3 (opening setup) example_run ≡ true
  -- its calls: its object is its first admission
  about_3 : calls setup 3 [] (opening setup) example_run
      ≡ Call.add None (object 3 20 2 2) ∷ Call.publish 100 (bytes 0 2) ∷ Call.run_fdt 100 None ∷ Call.ask (Question.listed 1) ∷ Call.run_file 1 100 ∷ []
  -- what it is told
  told_3 : answers setup 3 [] (opening setup) example_run
      ≡ Answer.number 1
      ∷ Answer.done
      ∷ Answer.fdt_output false (Some (packet (Some 0xFFFFF) 0 (bytes 0 2)))
      ∷ Answer.truth true
      ∷ Answer.output (Some (packet None 1 (record { start = 20; size = 2 })))
      ∷ []
  -- the run where only its calls are made: its reservation and the question after it are there, and the numbers are those that it gets there
  only_3 : lone setup 3 example_run
      ≡ Call.reserve
      ∷ Call.ask (Question.listed 65_534)
      ∷ Call.add (Some 65_534) (object 3 20 2 2)
      ∷ Call.publish 100 (bytes 0 2)
      ∷ Call.run_fdt 100 None
      ∷ Call.ask (Question.listed 65_534)
      ∷ Call.run_file 1 100
      ∷ []

example : Example
unfolding opened_desk owns about calls answers smooth claims reserves asks_loose only lone packet example_run
example = record { smooth_3 = refl; about_3 = refl; told_3 = refl; only_3 = refl }
