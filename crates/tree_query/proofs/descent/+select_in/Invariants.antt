-- The proof of the cycle of calls {select_in}. The measure is the levels left. A leaf finds the j-th c; at a branch the child takes what is left
-- of j, and the marks of the children before it are passed. The sum is a place, so it is at most the marks that the entries tell.
use Rattle.tree_query.proofs.descent.+select_in.Given as goal

abbrev pub decreases-select_in : goal.decreases-select_in
decreases-select_in l = l.level
