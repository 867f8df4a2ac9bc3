use mathlib.Core.Path.{sym, ◌∙◌}
use Rattle.lifecycle.proofs.SetupLaws.{unsound, blocks_counted}
use Rattle.lifecycle.proofs.fdt.are_bad_blocks.Goals as goal

pub returns-then-not-are_sound_sizes : goal.returns-then-not-are_sound_sizes
returns-then-not-are_sound_sizes c = rw c.if-not-are_sound_sizes.true (sym (unsound c.args.z c.args.l (sym c.are_sound_sizes.ensures ∙ c.if-not-are_sound_sizes.true)))

pub returns-else-not-are_sound_sizes : goal.returns-else-not-are_sound_sizes
returns-else-not-are_sound_sizes c = rw c.block_partitioning.ensures (sym (blocks_counted c.args.z c.args.l (sym c.are_sound_sizes.ensures ∙ c.if-not-are_sound_sizes.false)))
