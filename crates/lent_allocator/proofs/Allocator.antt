-- The allocator as data that a lent call passes.
-- Assumes `Logic`.
use mathlib.Core.Path.{refl}
use seplogic.Ra.Ura.{Ura}
use types.Logic.{Logic}
use Rattle.sizes.specs.contracts.toiallocator.ToiAllocator as T
use Rattle.sizes.proofs.toiallocator.ToiAllocator.TheLaws as T'
use Rattle.lending.proofs.Whole.{Data, struct_data}

module _ {M : Type 1} {𝓤 : Ura M} (𝓛 : Logic 𝓤) where
  abbrev pub allocator : Data 𝓛 T.the_row
  allocator = struct_data 𝓛 T.the_type T'.the_laws T'.the_plain (λ x. tt) (λ x w. refl)
