-- What the desk says no to: the table of refusals. The reasons are the code's own (src/refusal.rt), so that the definition and every answer of the code have one type for them.
use Rattle.std.specs.Prelude.{ℕ}
use Rattle.sizes.specs.declared.refusal.Refusal.{Refusal}
use Rattle.sizes.specs.declared.refusal.Refusal.TheVariants as Because

abbrev pub refusal_number : Refusal → ℕ
refusal_number Because.SetUp = 1  -- set-up: a number out of its range
refusal_number Because.NoPriority = 2  -- add: no file session has that priority
refusal_number Because.Complete = 3  -- add: the sender is complete
refusal_number Because.Sizes = 4  -- E, B or block count out of range
refusal_number Because.Part = 5  -- the part ends past its store, or shares a byte with a held one; or an empty part to publish
refusal_number Because.NotLoose = 6  -- add or release names a number that is no loose reservation
refusal_number Because.Full = 7  -- no TOI entry, object slot or place in the FDT queue is free, where one is needed
refusal_number Because.NoSession = 8  -- run: no such file session
refusal_number Because.Record = 9  -- record: a buffer or field fault
