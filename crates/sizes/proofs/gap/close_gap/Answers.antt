use Rattle.sizes.proofs.Arrays.{shut_by_copy}
use Rattle.sizes.proofs.gap.close_gap.Goals as goal

pub returns-then-at-items-clause-inside : goal.returns-then-at-items-clause-inside
returns-then-at-items-clause-inside g c = λ h. rw c.copy_within.ensures.after (shut_by_copy c.args.blank c.args.items.now c.args.at h)
