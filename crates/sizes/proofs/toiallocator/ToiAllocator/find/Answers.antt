use Rattle.std.proofs.Common.{◌≡◌, ℕ, Bool, true, false, not, ◌&&◌, eqb, refl, ap, ◌∙◌, rules, tests}
use Rattle.std.specs.Bool.{beq}
use Rattle.sizes.specs.declared.toiallocator.Entry.{Entry}
use Rattle.std.specs.Prelude.{position}
use Rattle.std.proofs.lemmas.Iterator.{YieldsList-from_slice}
use Rattle.std.proofs.lemmas.Iterator.Search.{position_from_yields_List}
use Rattle.sizes.specs.Allocator.{noted, entry_is}
use Rattle.sizes.proofs.Arrays.{position_is}
use Rattle.sizes.proofs.toiallocator.ToiAllocator.find.Goals as goal

-- the entry sought, by both of its fields
same_entry : (e : Entry) (t : ℕ) (flag : Bool) → (eqb e.toi t && beq e.loose flag) ≡ entry_is t flag e
unfolding entry_is
same_entry e t true = ap (λ b. eqb e.toi t && b) (loose_is e.loose)
  where
    loose_is : (b : Bool) → beq b true ≡ b
    loose_is true = refl
    loose_is false = refl
same_entry e t false = ap (λ b. eqb e.toi t && b) (bound_is e.loose)
  where
    bound_is : (b : Bool) → beq b false ≡ not b
    bound_is true = refl
    bound_is false = refl

pub returns : goal.returns
unfolding entry_is
returns c =
    let l = noted c.args.self.now in
    let e : c.position.result ≡ position (entry_is c.args.toi c.args.loose) l =
    position_from_yields_List (entry_is c.args.toi c.args.loose) _ _ c.position.result c.position.ensures.ran (YieldsList-from_slice l cc) (λ x b q k. (search (rules, tests), (let w : b ≡ (eqb x.now.toi c.args.toi && beq x.now.loose c.args.loose) = search (rules, tests) in w ∙ same_entry x.now c.args.toi c.args.loose))) in
    e ∙ position_is _ l
