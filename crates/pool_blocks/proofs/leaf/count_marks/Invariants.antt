-- `pool_blocks::leaf::count_marks` meets its contract. The loop's invariant: `left` is the places that are left, and `met` the c among the first i of those
-- before them. A place counts where more are left than stand behind the i-th.
use mathlib.Core.Path.{◌≡◌}
use Prim.Native.Nat.{◌-◌, ◌≤◌}
use Rattle.geometry.specs.Limits.{block_size}
use Rattle.pool_blocks.proofs.Scans.{met-in}
use Rattle.pool_blocks.proofs.leaf.count_marks.Given as goal

abbrev pub invariant-loop-mark : goal.invariant-loop-mark
invariant-loop-mark l = (l.mark-index ≤ block_size) × (l.left ≡ block_size - l.mark-index) × (l.met ≡ met-in l.pool l.at l.c l.i l.mark-index)
