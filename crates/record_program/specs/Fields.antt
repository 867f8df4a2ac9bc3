-- What is shown of a record that was read.
use Rattle.std.specs.Prelude.{List, [], ◌∷◌, ◌++◌, ℕ, codes}
use Rattle.std.specs.List.{flat_map}
use Rattle.std.specs.Fmt.{decimal}
use Rattle.sizes.specs.Words.{one_if}
use Rattle.wire.specs.declared.record.Record.{Record}

-- the numbers of a record, in the order of the command that writes one
abbrev pub numbers_of : Record → List ℕ
numbers_of r =
    one_if r.is_fdt ∷ one_if r.close ∷ r.fdt_id ∷ r.toi ∷ r.block.0 ∷ r.symbol.0 ∷ r.length ∷ r.total ∷ r.symbols ∷ []

-- `fields`, and the numbers in decimal, each with a blank in front
abbrev pub fields_text : Record → List ℕ
fields_text r = codes "fields" ++ flat_map (λ n. 32 ∷ decimal n) (numbers_of r)
