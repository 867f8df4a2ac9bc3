-- `wire::record::put_words` meets its contract: each word stands behind the one before.
use mathlib.Core.Path.{◌≡◌, ◌∙◌}
use mathlib.Core.List.{◌++◌}
use borrow.Rule.Slice.PartMut.{put_mid}
use lib.ListN.{drop}
use Rattle.wire.specs.Packing.{last_bytes}
use Rattle.wire.proofs.PackingLaws.{bytes_length}
use Rattle.wire.proofs.WordLaws.{word_bytes, half_bytes, put_four}
use Rattle.wire.proofs.record.put_words.Goals as goal

pub returns : goal.returns
returns c =
    let a : c.copy_from_slice.new.self ≡ last_bytes 8 c.args.a = c.copy_from_slice.ensures.after ∙ c.to_be_bytes.ensures ∙ word_bytes c.args.a in
    let b : c.copy_from_slice-2.new.self ≡ last_bytes 8 c.args.b = c.copy_from_slice-2.ensures.after ∙ c.to_be_bytes-2.ensures ∙ word_bytes c.args.b in
    let t : c.copy_from_slice-3.new.self ≡ last_bytes 8 c.args.c = c.copy_from_slice-3.ensures.after ∙ c.to_be_bytes-3.ensures ∙ word_bytes c.args.c in
    let d : c.copy_from_slice-4.new.self ≡ last_bytes 4 c.args.d = c.copy_from_slice-4.ensures.after ∙ c.to_be_bytes-4.ensures ∙ half_bytes c.args.d in
    (λ i. put_mid 24 4 (put_mid 16 8 (put_mid 8 8 (a i ++ drop 8 c.args.out.now) (b i)) (t i)) (d i))
    ∙ put_four c.args.out.now _ _ _ _ (bytes_length 8 c.args.a) (bytes_length 8 c.args.b) (bytes_length 8 c.args.c)
