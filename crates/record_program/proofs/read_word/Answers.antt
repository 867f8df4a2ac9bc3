-- `record_program::read_word` meets its contract: what is read are the bytes that the word spells.
use mathlib.Core.Path.{◌≡◌, sym, ◌∙◌, ap, subst}
use mathlib.Core.List.{List}
use Rattle.std.specs.Prelude.{Option, None, Some, Result}
use Prim.Native.Nat.{ℕ, zero-le, ◌≤◌}
use native.Mathlib.Nat.{sub-zero}
use native.Mathlib.Omega.{arith}
use lib.ListN.{length, take}
use Rattle.sizes.specs.Words.{maybe}
use Rattle.sizes.specs.declared.refusal.Refusal.{Refusal}
use Rattle.text.specs.Bytes.{part}
use Rattle.text.proofs.Lists.{part_in}
use Rattle.wire.specs.Record.{RecordAnswer, read_answer, RecordReads}
use Rattle.wire.specs.declared.record.Record.{Record}
use Rattle.record_program.specs.Hex.{HexRead, Within, spelled_said}
use Rattle.record_program.specs.Readings.{word_said, word_reading}
use Rattle.record_program.proofs.read_word.Goals as goal

abbrev shown : Option (List ℕ) → Option RecordAnswer
shown = maybe None (λ bs. Some (read_answer bs))

module _ {w out : List ℕ} {r : Option ℕ} (h : HexRead w out r) where
  spells_none : r ≡ None → None ≡ word_reading w
  spells_none e = ap shown (ap (spelled_said out) (sym e) ∙ h.exact)

  spells : {bs : List ℕ} {a : Result Record Refusal} (n : ℕ) → r ≡ Some n → bs ≡ part 0 n out → RecordReads bs a → word_said (Some a) ≡ word_reading w
  spells n e p f =
      let low : n ≤ length out = subst (Within out) e h.inside in
      let front = part_in 0 n out zero-le low ∙ ap (λ k. take k out) (sub-zero n) in
      ap Some (f.answer ∙ ap read_answer (p ∙ front)) ∙ ap shown (ap (spelled_said out) (sym e) ∙ h.exact)

pub returns : goal.returns
returns c = λ short.
    spells (c.read_hex.ensures (omega arith)) _ c.in_ok-n.was c.part.ensures c.read.ensures
