-- `pool_check::summaries::all_claimed` meets its contract. The loop's invariant: `sum` is what the claims passed add up to.
use mathlib.Core.Path.{◌≡◌}
use Prim.Native.Nat.{◌*◌, ◌≤◌}
use Rattle.lists.specs.Sums.{sum_below}
use Rattle.pool.specs.Blocks.{count_below}
use Rattle.pool.specs.Words.{word_limit}
use Rattle.pool_check.proofs.summaries.all_claimed.Given as goal

abbrev pub invariant-loop-c : goal.invariant-loop-c
invariant-loop-c l = (l.sum ≤ word_limit * l.c) × (l.sum ≡ sum_below l.c (count_below l.parent.pool.now l.parent.b l.k))
