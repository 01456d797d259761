-- `pool_check::summaries::padded` meets its contract. The loop's invariant: `left` is the places from `i` on, and those before it are filled.
use mathlib.Core.Path.{◌≡◌}
use Prim.Native.Nat.{◌-◌}
use lib.ListN.{length}
use Rattle.geometry.specs.Limits.{block_size}
use Rattle.pool.specs.Blocks.{leaf_marks}
use Rattle.pool_check.proofs.Paddings.{PaddedTo}
use Rattle.pool_check.proofs.summaries.padded.Given as goal

abbrev pub invariant-loop-i : goal.invariant-loop-i
invariant-loop-i l = (l.left ≡ block_size - l.i) × (length l.marks ≡ block_size) × PaddedTo (leaf_marks l.leaf.pool.now l.leaf.b) l.marks l.i
