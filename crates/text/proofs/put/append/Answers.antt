-- `text::put::append` meets its contract.
use Rattle.text.proofs.Appends.{written}
use Rattle.text.proofs.put.append.Goals as goal

pub returns : goal.returns
returns c = written _ _ _ _ c.requires c.copy_from_slice.ensures.after
