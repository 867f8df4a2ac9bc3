-- Lines in a list of bytes, and a buffer that is filled again.
use Rattle.std.specs.Prelude.{◌≡◌, List, [], Bool, true, false, ◌⊎◌, ℕ, ◌+◌, ◌-◌, ◌<◌, ◌≤◌, min, length, take, Option, Some, None}
use Rattle.text.specs.Bytes.{in_line, pass, part}
use Rattle.text.specs.declared.line.Input.{Input}
use Rattle.text.specs.declared.word.Word.{Word}

-- l starts with p
abbrev pub StartsWith : List ℕ → List ℕ → Type 0
StartsWith p l = take (length p) l ≡ p

-- a read at `at` that fills the buffer as far as n: what is before `at` stays
pub record Added (before : List ℕ) (at : ℕ) (after : List ℕ) (n : ℕ) : Type 0 where
  pub size : length after ≡ length before
  pub more : at ≤ n
  pub within : n ≤ length after
  pub front : take at after ≡ take at before

-- the buffer is filled as far as n, and the pending bytes from..to stand at its front; of what is read nothing is known
pub record Refilled (before : List ℕ) (from to : ℕ) (after : List ℕ) (n : ℕ) : Type 0 where
  pub size : length after ≡ length before
  pub more : length (part from to before) ≤ n
  pub within : n ≤ length after
  pub front : StartsWith (part from to before) (take n after)

-- where reading starts: nothing is read
abbrev pub nothing_read : Input
nothing_read = record { from = 0; to = 0; ended = false }

-- what is pending while p was, and the buffer was `before`, and is `after`
pub record Pending (p before : List ℕ) (ended : Bool) (after : List ℕ) (at : Input) : Type 0 where
  pub size : length after ≡ length before
  pub order : at.from ≤ at.to
  pub within : at.to ≤ length after
  -- no byte is lost or out of order: what is pending now is what was, and then what is read
  pub kept : StartsWith p (part at.from at.to after)
  -- nothing is read behind the end of the input
  pub stays : ended ≡ true → (at.ended ≡ true) × (part at.from at.to after ≡ p)

-- what read_line leaves
pub record LineRead (p before : List ℕ) (ended : Bool) (after : List ℕ) (end : ℕ) (at : Input) : Type 0 where
  pub pending : Pending p before ended after at
  -- the first line of what is pending ends at the first line feed, or with what is pending
  pub exact : end ≡ pass in_line (take at.to after) at.from
  -- there is a line feed, or nothing more comes, or nothing more fits
  pub whole : end ≡ at.to → (at.ended ≡ true) ⊎ (at.to - at.from ≡ length after)

-- a line w is taken, where p are the bytes that were pending, and the buffer is `before`, and then `after`; `rest` is pending behind it
pub record TakenLine (p before : List ℕ) (ended : Bool) (after : List ℕ) (w : Word) (rest : Input) : Type 0 where
  pub size : length after ≡ length before
  -- the line is a part of the buffer, and so is what is pending behind it
  pub start_end : w.start ≤ w.end
  pub end_next : w.end ≤ rest.from
  pub next_to : rest.from ≤ rest.to
  pub within : rest.to ≤ length after
  -- the line is the first of start..to, which has a byte: up to the next line feed, or to the end where there is none
  pub some : w.start < rest.to
  pub exact : w.end ≡ pass in_line (take rest.to after) w.start
  -- the next one starts behind the line feed
  pub next : rest.from ≡ min (w.end + 1) rest.to
  -- no byte is lost or out of order: start..to is what was pending, and then what is read
  pub kept : StartsWith p (part w.start rest.to after)
  -- a line without a line feed is given only at the end of the input, or where it fills the buffer
  pub whole : w.end ≡ rest.to → (rest.ended ≡ true) ⊎ (rest.to - w.start ≡ length after)
  -- nothing is read behind the end of the input
  pub stays : ended ≡ true → (rest.ended ≡ true) × (part w.start rest.to after ≡ p)

-- no line is left: nothing was pending, nothing is, and nothing more comes, or the buffer has no room
pub record NoLine (p before : List ℕ) (ended : Bool) (after : List ℕ) (rest : Input) : Type 0 where
  pub size : length after ≡ length before
  pub within : rest.to ≤ length after
  pub was : p ≡ []
  pub nothing : rest.from ≡ rest.to
  pub whole : (rest.ended ≡ true) ⊎ (length after ≡ 0)
  pub stays : ended ≡ true → rest.ended ≡ true

-- what take_line answers
abbrev pub Taken : List ℕ → List ℕ → Bool → List ℕ → Option Word → Input → Type 0
Taken p before ended after (Some w) rest = TakenLine p before ended after w rest
Taken p before ended after None rest = NoLine p before ended after rest
