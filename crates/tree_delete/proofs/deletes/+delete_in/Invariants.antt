-- The proof of the cycle of calls {delete_in}. The measure is the levels left. At a leaf a mark is taken out; at a branch the laws of one level say
-- that the child is ready, and that the branch can be brought up to date with what its delete left.
use Rattle.tree_delete.proofs.deletes.+delete_in.Given as goal

abbrev pub decreases-delete_in : goal.decreases-delete_in
decreases-delete_in l = l.level
