-- `text::word::is_word` meets its contract.
use mathlib.Core.Path.{◌∙◌}
use Rattle.text.proofs.WordLaws.{same_list}
use Rattle.text.proofs.word.is_word.Goals as goal

pub returns : goal.returns
returns c = c.eq.ensures ∙ same_list _ _
