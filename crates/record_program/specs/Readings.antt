-- What a word in hex is as a record.
use Rattle.std.specs.Prelude.{List, ℕ}
use Rattle.std.specs.Prelude.{Option, None, Some, Result}
use Rattle.sizes.specs.declared.refusal.Refusal.{Refusal}
use Rattle.wire.specs.declared.record.Record.{Record}
use Rattle.sizes.specs.Words.{maybe}
use Rattle.wire.specs.Record.{RecordAnswer, reading_said, read_answer}
use Rattle.record_program.specs.Hex.{spelled}

-- what was read; none where the word spells no bytes
abbrev pub word_said : Option (Result Record Refusal) → Option RecordAnswer
word_said (Some a) = Some (reading_said a)
word_said None = None

-- what the bytes that a word spells are as a record, if it spells any
abbrev pub word_reading : List ℕ → Option RecordAnswer
word_reading w = maybe None (λ bs. Some (read_answer bs)) (spelled w)
