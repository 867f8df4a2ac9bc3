-- What the host is told: an answer by its numbers. A refusal has its number of the table; 0 is none.
use Rattle.std.specs.Prelude.{Bool, true, false, ℕ, Option, None, Some, Result, Ok, Err}
use Rattle.sizes.specs.Refusals.{refusal_number}
use Rattle.sizes.specs.declared.refusal.Refusal.{Refusal}
use Rattle.sizes.specs.Partition.{sbn, esi}
use Rattle.sender.specs.SenderCalls.{RunAnswer}
use Rattle.host_structs.specs.declared.answers.Numbered.{Numbered}
use Rattle.host_structs.specs.declared.answers.Counted.{Counted}
use Rattle.host_structs.specs.declared.answers.Sent.{Sent}

abbrev pub toi_told : ℕ → Numbered
toi_told n = record { refused = 0; toi = n }

abbrev pub toi_refused : ℕ → Numbered
toi_refused n = record { refused = n; toi = 0 }

-- of a call that gives a number: a reservation, an add
abbrev pub numbered_told : Result ℕ Refusal → Numbered
numbered_told (Ok t) = toi_told t
numbered_told (Err why) = toi_refused (refusal_number why)

-- of a call that is done or refused: a release, a publish, a set-up, a record that is written
abbrev pub refusal_told : {A : Type 0} → Result A Refusal → ℕ
refusal_told (Ok a) = 0
refusal_told (Err why) = refusal_number why

abbrev pub transfers_told : Option ℕ → Counted
transfers_told (Some n) = record { listed = true; total = n }
transfers_told None = record { listed = false; total = 0 }

-- a run without a packet: zeros stand for it
abbrev pub not_sent : ℕ → Bool → Sent
not_sent n taken = record {
  refused = n;
  taken = taken;
  sent = false;
  packet = record {
    is_fdt = false;
    toi = 0;
    fdt_id = 0;
    symbol = record { sbn = sbn 0; esi = esi 0; symbols = 0; payload = record { start = 0; size = 0 }; transfer_length = 0; close = false };
  };
}

abbrev pub run_told : Bool → RunAnswer → Sent
run_told taken (Ok (Some p)) = record { refused = 0; taken = taken; sent = true; packet = p }
run_told taken (Ok None) = not_sent 0 taken
run_told taken (Err why) = not_sent (refusal_number why) taken
