use native.Mathlib.Omega.{arith}
use Rattle.sender.proofs.Offsets.{fits_small}
use Rattle.sender.proofs.blockencoder.BlockEncoder.offset.Goals as goal

pub overflow_mul-result-2 : goal.overflow_mul-result-2
overflow_mul-result-2 c =
    let h = fits_small c.args.self.now.content c.requires.0.content c.args.o c.requires.1 c.requires.2 c.if-k-p.false in
    omega arith
