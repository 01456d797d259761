-- The cycle of `pool_check::lent::Tree::check_block` and `pool_check::lent::Tree::check_children`. Levels left and children left fall: a branch has at most three
-- children, so 5 for each level leaves room for those in between. Each return is one law of the walk.
use Rattle.std.proofs.Common.{◌+◌, ◌*◌}
use Rattle.pool_check.proofs.lent.Tree.+check_block_check_children.Given as goal

abbrev pub decreases-check_block : goal.decreases-check_block
decreases-check_block l = 5 * l.level

abbrev pub decreases-check_children : goal.decreases-check_children
decreases-check_children l = 5 * l.level + l.left + 1
