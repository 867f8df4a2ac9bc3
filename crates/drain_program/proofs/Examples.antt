-- Lines as the definition spells them, computed.
use mathlib.Core.Path.{◌≡◌, refl}
use mathlib.Core.Bool.{true, false}
use mathlib.Core.List.{[], ◌∷◌}
use Rattle.sizes.specs.Partition.{sbn, esi}
use Rattle.text.specs.Put.{places, decimal}
use Rattle.drain_program.specs.Lines.{field, line_text}

-- `2 0 1 8 2 1`
closing_line : line_text (record { block = sbn 2; symbol = esi 0; symbols = 1; start = 8; length = 2; close = true }) ≡ 50 ∷ 32 ∷ 48 ∷ 32 ∷ 49 ∷ 32 ∷ 56 ∷ 32 ∷ 50 ∷ 32 ∷ 49 ∷ 10 ∷ []
unfolding line_text field decimal places
closing_line = refl

-- `10 9 100 99 7 0`
longer_numbers : line_text (record { block = sbn 10; symbol = esi 9; symbols = 100; start = 99; length = 7; close = false })
    ≡ 49 ∷ 48 ∷ 32 ∷ 57 ∷ 32 ∷ 49 ∷ 48 ∷ 48 ∷ 32 ∷ 57 ∷ 57 ∷ 32 ∷ 55 ∷ 32 ∷ 48 ∷ 10 ∷ []
unfolding line_text field decimal places
longer_numbers = refl
