-- Examples, computed from the definition: the bench sheet, four transfers and two runs. Proved in proofs/AllExamples.
use Rattle.std.specs.Prelude.{◌≡◌, Bool, true, false, List, [], ◌∷◌, map, ℕ, zero, suc, ◌-◌, ◌^◌}
use Rattle.std.specs.Prelude.{Option, None, Some}
use Rattle.sizes.specs.Words.{when◌then◌else◌, maybe, one_if}
use Rattle.sizes.specs.Refusals.{refusal_number}
use Rattle.sizes.specs.Partition.{sbn, blocks_of, block_length}
use Rattle.sizes.specs.declared.partition.Sizes.{Sizes}
use Rattle.sizes.specs.Toi.{first_toi, next_toi}
use Rattle.lifecycle.specs.declared.parts.Part.{Part}
use Rattle.lifecycle.specs.Lifecycle.{Carousel, Target, tick_of}
use Rattle.lifecycle.specs.Setup.{Setup}
use Rattle.lifecycle.specs.Fdt.{runs_out}
use Rattle.definition.specs.Encoder.{Encoder, Symbol, fresh, read}
use Rattle.definition.specs.FdtSession.{Packet}
use Rattle.definition.specs.Desk.{Request, Touch, Question, Call, Answer, opening, run}

-- ---- the bench sheet

-- l bytes in symbols of e and blocks of b: large, small, I, N
unfoldable pub parts : ℕ → ℕ → ℕ → List ℕ
parts l e b = let p = blocks_of (record { e = e; b = b }) l in p.large ∷ p.small ∷ p.nb_a_large ∷ p.blocks ∷ []

-- the length of block k
unfoldable pub len : ℕ → ℕ → ℕ → ℕ → Option ℕ
len l e b k = block_length (blocks_of (record { e = e; b = b }) l) l e (sbn k)

-- P1 to P11, and a length of 2^64 - 1
pub record Table : Type 0 where
  pub p1 : parts 0 4 2 ≡ 0 ∷ 0 ∷ 0 ∷ 0 ∷ []
  pub p2 : parts 10 3 2 ≡ 2 ∷ 2 ∷ 0 ∷ 2 ∷ []
  pub p3 : parts 10 2 2 ≡ 2 ∷ 1 ∷ 2 ∷ 3 ∷ []
  pub p3_0 : len 10 2 2 0 ≡ Some 4
  pub p3_1 : len 10 2 2 1 ≡ Some 4
  pub p3_2 : len 10 2 2 2 ≡ Some 2
  pub p3_3 : len 10 2 2 3 ≡ None
  pub p4 : parts 1 1400 64 ≡ 1 ∷ 1 ∷ 0 ∷ 1 ∷ []
  pub p4_0 : len 1 1400 64 0 ≡ Some 1
  pub p5 : next_toi 16 (65_535 ∷ []) 65_535 ≡ 1
  pub p6 : next_toi 64 ((2 ^ 64 - 1) ∷ []) (2 ^ 64 - 1) ≡ 1
  pub p7 : first_toi 16 65_536 ≡ 1
  pub p8 : runs_out 31_000_000_000 26_000_000_000 ≡ false
  pub p8' : runs_out 31_000_000_000 26_000_000_001 ≡ true
  pub p9 : runs_out 30_000_000_000 29_000_000_000 ≡ false
  pub p9' : runs_out 30_000_000_000 29_000_000_001 ≡ true
  pub p10 : runs_out 10_000_000_000 10_000_000_000 ≡ true
  pub p10' : runs_out 10_000_000_000 9_999_999_999 ≡ false
  pub p11 : tick_of 1_000_000_000 3 1 ≡ 333_333_333
  pub wide : len (2 ^ 64 - 1) 2 (2 ^ 63) 0 ≡ None

-- ---- the packets of one transfer

-- block, symbol, block's symbol count, start, length, close
abbrev pub Line : Type 0
Line = List ℕ

unfoldable pub line_of : Symbol → Line
line_of y = y.block.0 ∷ y.symbol.0 ∷ y.symbols ∷ y.payload.start ∷ y.payload.size ∷ one_if y.close ∷ []

-- at most so many packets
unfoldable pub drained_lines : ℕ → ℕ → Part → Sizes → Encoder → List Line
drained_lines zero w c z x = []
drained_lines (suc k) w c z x =
    let r = read w c z false x in
    maybe [] (λ y. line_of y ∷ drained_lines k w c z r.1) r.0

-- the packets of l bytes at the store's start, in symbols of e, blocks of b and a window of w, sent once
unfoldable pub drain : ℕ → ℕ → ℕ → ℕ → List Line
drain l e b w = drained_lines 20 w (record { start = 0; size = l }) (record { e = e; b = b }) (fresh true)

pub record Drains : Type 0 where
  pub two_open : drain 10 2 2 2 ≡
      (0 ∷ 0 ∷ 2 ∷ 0 ∷ 2 ∷ 0 ∷ []) ∷ (1 ∷ 0 ∷ 2 ∷ 4 ∷ 2 ∷ 0 ∷ []) ∷ (0 ∷ 1 ∷ 2 ∷ 2 ∷ 2 ∷ 0 ∷ []) ∷ (1 ∷ 1 ∷ 2 ∷ 6 ∷ 2 ∷ 0 ∷ [])
      ∷ (2 ∷ 0 ∷ 1 ∷ 8 ∷ 2 ∷ 1 ∷ []) ∷ []
  pub three_open : drain 10 2 2 3 ≡
      (0 ∷ 0 ∷ 2 ∷ 0 ∷ 2 ∷ 0 ∷ []) ∷ (1 ∷ 0 ∷ 2 ∷ 4 ∷ 2 ∷ 0 ∷ []) ∷ (2 ∷ 0 ∷ 1 ∷ 8 ∷ 2 ∷ 0 ∷ []) ∷ (0 ∷ 1 ∷ 2 ∷ 2 ∷ 2 ∷ 0 ∷ [])
      ∷ (1 ∷ 1 ∷ 2 ∷ 6 ∷ 2 ∷ 1 ∷ []) ∷ []
  -- the window is filled again while one block is drained, and the last symbol is short
  pub unequal : drain 25 2 4 2 ≡
      (0 ∷ 0 ∷ 4 ∷ 0 ∷ 2 ∷ 0 ∷ []) ∷ (1 ∷ 0 ∷ 3 ∷ 8 ∷ 2 ∷ 0 ∷ []) ∷ (0 ∷ 1 ∷ 4 ∷ 2 ∷ 2 ∷ 0 ∷ []) ∷ (1 ∷ 1 ∷ 3 ∷ 10 ∷ 2 ∷ 0 ∷ [])
      ∷ (0 ∷ 2 ∷ 4 ∷ 4 ∷ 2 ∷ 0 ∷ []) ∷ (1 ∷ 2 ∷ 3 ∷ 12 ∷ 2 ∷ 0 ∷ []) ∷ (0 ∷ 3 ∷ 4 ∷ 6 ∷ 2 ∷ 0 ∷ []) ∷ (2 ∷ 0 ∷ 3 ∷ 14 ∷ 2 ∷ 0 ∷ [])
      ∷ (2 ∷ 1 ∷ 3 ∷ 16 ∷ 2 ∷ 0 ∷ []) ∷ (3 ∷ 0 ∷ 3 ∷ 20 ∷ 2 ∷ 0 ∷ []) ∷ (2 ∷ 2 ∷ 3 ∷ 18 ∷ 2 ∷ 0 ∷ []) ∷ (3 ∷ 1 ∷ 3 ∷ 22 ∷ 2 ∷ 0 ∷ [])
      ∷ (3 ∷ 2 ∷ 3 ∷ 24 ∷ 1 ∷ 1 ∷ []) ∷ []
  pub empty_object : drain 0 4 2 2 ≡ (0 ∷ 0 ∷ 0 ∷ 0 ∷ 0 ∷ 1 ∷ []) ∷ []

-- ---- runs of the whole desk

abbrev pub setup : Setup
setup = record {
  priorities = 7 ∷ 3 ∷ [];
  window = 2;
  sizes = record { e = 2; b = 2 };
  object_store = 100;
  fdt_store = 100;
  width = 16;
  first = 65_534;
  first_id = 0xFFFFF;
  carousel = Carousel.delay 1000;
  validity = 10_000_000_000;
}

-- n bytes from a place on
abbrev pub bytes : ℕ → ℕ → Part
bytes at n = record { start = at; size = n }

-- an object of priority p: the part, how often it is sent, its carousel and its target
abbrev pub object_with : ℕ → ℕ → ℕ → ℕ → Option Carousel → Target → Request
object_with p at n m r t = record {
  priority = p;
  part = bytes at n;
  own = None;
  plan = record { most = m; carousel = r; target = t; stop_at_once = false };
  named_start = None;
}

abbrev pub object : ℕ → ℕ → ℕ → ℕ → Request
object p at n m = object_with p at n m None Target.at_once

-- what an example tells of an answer; of a packet: its object number or FDT id, block, symbol, where its bytes start, how many they are, and whether it closes
pub data Told : Type 0 where
  refusal : ℕ → Told
  toi : ℕ → Told
  ok : Told
  yes : Told
  no : Told
  sent_whole : ℕ → Told
  not_listed : Told
  nothing : Told
  obj : ℕ → ℕ → ℕ → ℕ → ℕ → Told
  last_obj : ℕ → ℕ → ℕ → ℕ → ℕ → Told  -- it closes
  fdt : ℕ → ℕ → ℕ → ℕ → ℕ → Told
  draft : ℕ → ℕ → ℕ → ℕ → ℕ → Told  -- an FDT that this run took from its draft

abbrev pub object_told : Packet → Told
object_told k = when k.symbol.close
    then last_obj k.toi k.symbol.block.0 k.symbol.symbol.0 k.symbol.payload.start k.symbol.payload.size
    else obj k.toi k.symbol.block.0 k.symbol.symbol.0 k.symbol.payload.start k.symbol.payload.size

abbrev pub fdt_told : Bool → Packet → Told
fdt_told taken k = when taken
    then draft (maybe 0 (λ i. i) k.id) k.symbol.block.0 k.symbol.symbol.0 k.symbol.payload.start k.symbol.payload.size
    else fdt (maybe 0 (λ i. i) k.id) k.symbol.block.0 k.symbol.symbol.0 k.symbol.payload.start k.symbol.payload.size

abbrev pub told : Answer → Told
told (Answer.refused why) = refusal (refusal_number why)
told (Answer.number t) = toi t
told Answer.done = ok
told (Answer.truth b) = when b then yes else no
told (Answer.transferred None) = not_listed
told (Answer.transferred (Some n)) = sent_whole n
told (Answer.fdt_output taken None) = nothing
told (Answer.fdt_output taken (Some k)) = fdt_told taken k
told (Answer.output None) = nothing
told (Answer.output (Some k)) = object_told k

-- each call with its answer, from set-up on
abbrev pub Script : Type 0
Script = List (Call × Told)

unfoldable pub Plays : Script → Type 0
Plays l = map told (run setup (opening setup) (map (λ r. r.0) l)).0 ≡ map (λ r. r.1) l

-- reserve, add by name, add anew; nothing before publish, and nothing empty is published; the object is taken while the FDT is queued, and sent after it; removed in its first transfer it is sent to its end
unfoldable pub first_run : Script
first_run =
    (Call.reserve, toi 65_534)
    ∷ (Call.add (Some 65_534) (object 7 10 6 1), toi 65_534)
    ∷ (Call.add None (object 3 20 2 2), toi 65_535)
    ∷ (Call.add None (object 3 21 2 2), refusal 5)
    ∷ (Call.add (Some 5) (object 3 30 2 2), refusal 6)
    ∷ (Call.add None (object 4 30 2 2), refusal 2)
    ∷ (Call.run_file 0 100, nothing)
    ∷ (Call.publish 100 (bytes 0 0), refusal 5)
    ∷ (Call.publish 100 (bytes 0 2), ok)
    ∷ (Call.run_file 0 100, nothing)
    ∷ (Call.run_fdt 100 None, fdt 0xFFFFF 0 0 0 2)
    ∷ (Call.run_file 0 100, obj 65_534 0 0 10 2)
    ∷ (Call.touch 65_534 Touch.remove, yes)
    ∷ (Call.run_file 0 100, obj 65_534 1 0 14 2)
    ∷ (Call.run_file 0 100, last_obj 65_534 0 1 12 2)
    ∷ (Call.run_file 0 100, nothing)
    ∷ (Call.ask (Question.listed 65_535), yes)
    ∷ (Call.run_file 1 100, obj 65_535 0 0 20 2)
    ∷ (Call.run_file 1 100, last_obj 65_535 0 0 20 2)
    ∷ (Call.ask (Question.transfers 65_535), sent_whole 1)
    ∷ (Call.run_file 1 100, nothing)
    ∷ (Call.ask (Question.transfers 65_535), not_listed)
    ∷ (Call.run_fdt 200 None, nothing)
    ∷ (Call.reserve, toi 1)
    ∷ (Call.run_file 2 100, refusal 8)
    ∷ []

-- five objects, marked by one publish; the draft beside it is not taken. The second leaves the queue's middle; the first repeats after more than 1000, and once more by a trigger, from 1300 on.
-- The fourth is paced by 500; the first is removed while it is sent. A sixth, empty, is marked by a draft of two symbols that is taken once the validity has run out; another is too long (4) before it is out of its store (5).
-- After completion nothing is added, numbers go on, and what is being sent is sent to its end
unfoldable pub long_run : Script
long_run =
    (Call.add None (object_with 7 0 2 1 (Some (Carousel.delay 1000)) Target.at_once), toi 65_534)
    ∷ (Call.add None (object 7 10 2 1), toi 65_535)
    ∷ (Call.add None (object 7 20 2 1), toi 1)
    ∷ (Call.add None (object_with 3 30 4 2 None (Target.for 1000)), toi 2)
    ∷ (Call.add None (object 7 50 2 1), toi 3)
    ∷ (Call.run_file 0 100, nothing)
    ∷ (Call.publish 100 (bytes 0 2), ok)
    ∷ (Call.run_fdt 100 (Some (bytes 10 2)), fdt 0xFFFFF 0 0 0 2)
    ∷ (Call.touch 65_535 Touch.remove, yes)
    ∷ (Call.touch 65_535 (Touch.trigger None), no)
    ∷ (Call.run_file 0 100, obj 65_534 0 0 0 2)
    ∷ (Call.run_file 0 200, last_obj 1 0 0 20 2)
    ∷ (Call.run_file 0 300, last_obj 3 0 0 50 2)
    ∷ (Call.ask (Question.transfers 65_534), sent_whole 1)
    ∷ (Call.run_file 0 1200, nothing)
    ∷ (Call.run_file 0 1201, obj 65_534 0 0 0 2)
    ∷ (Call.run_file 0 1202, nothing)
    ∷ (Call.ask (Question.transfers 65_534), sent_whole 2)
    ∷ (Call.touch 65_534 (Touch.trigger (Some 1300)), yes)
    ∷ (Call.run_file 0 1299, nothing)
    ∷ (Call.run_file 0 1300, obj 65_534 0 0 0 2)
    ∷ (Call.run_file 1 2000, obj 2 0 0 30 2)
    ∷ (Call.run_file 1 2499, nothing)
    ∷ (Call.run_file 1 2500, obj 2 0 1 32 2)
    ∷ (Call.run_file 1 3000, obj 2 0 0 30 2)
    ∷ (Call.touch 65_534 Touch.remove, yes)
    ∷ (Call.ask (Question.listed 65_534), no)
    ∷ (Call.add None (object 7 40 0 1), toi 4)
    ∷ (Call.add None (object 7 40 300_000 1), refusal 4)
    ∷ (Call.run_file 0 3001, nothing)
    ∷ (Call.run_fdt 10_000_000_099 (Some (bytes 10 4)), nothing)
    ∷ (Call.run_fdt 10_000_000_100 (Some (bytes 10 4)), draft 0 0 0 10 2)
    ∷ (Call.run_fdt 10_000_000_100 None, fdt 0 0 1 12 2)
    ∷ (Call.run_file 0 10_000_000_101, last_obj 4 0 0 40 0)
    ∷ (Call.complete, ok)
    ∷ (Call.add None (object 7 50 2 1), refusal 3)
    ∷ (Call.reserve, toi 5)
    ∷ (Call.run_file 1 10_000_000_102, last_obj 2 0 1 32 2)
    ∷ []
