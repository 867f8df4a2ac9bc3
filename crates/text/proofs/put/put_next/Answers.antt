-- `text::put::put_next` meets its contract: the number stands behind the blank.
use native.Mathlib.Omega.{arith}
use Rattle.text.proofs.Appends.{both}
use Rattle.text.proofs.put.put_next.Goals as goal

pub returns : goal.returns
returns c = λ h.
    let blank = c.put_text-from.ensures.fits (omega arith) in
    both blank (c.put_number.ensures.fits (omega (arith, blank.size, blank.end)))
