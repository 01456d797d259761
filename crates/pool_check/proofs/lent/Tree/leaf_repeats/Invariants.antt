-- `pool_check::lent::Tree::leaf_repeats` meets its contract. The claims add up to the leaf's size. The loop's invariant: the claims passed hold, and `left` is
-- what the others add up to. While something is left there are symbols left; then the other claims are 0.
use mathlib.Core.Path.{◌≡◌}
use Prim.Native.Nat.{◌+◌, ◌-◌, ◌≤◌}
use Rattle.geometry.specs.Limits.{most_alphabet}
use Rattle.lists.specs.Sums.{sum_below}
use Rattle.pool.specs.Blocks.{count_below}
use Rattle.pool_check.proofs.Claims.{ClaimsTo}
use Rattle.pool_check.proofs.lent.Tree.leaf_repeats.Given as goal

abbrev pub invariant-loop-left : goal.invariant-loop-left
invariant-loop-left l =
    let p = l.parent.pool.now in
    (l.c ≤ most_alphabet)
    × (l.left + sum_below l.c (count_below p l.parent.b l.k) ≡ sum_below most_alphabet (count_below p l.parent.b l.k))
    × ClaimsTo p l.parent.b l.k l.fn.leaf l.alphabet l.c

abbrev pub decreases-loop-left : goal.decreases-loop-left
decreases-loop-left l = most_alphabet - l.c
