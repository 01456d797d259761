-- The proof of the cycle of calls {access_in}. The measure is the levels left. A leaf has the mark itself; at a branch the laws of the descent say
-- what is left of the place in the child that was chosen, and take its answer up.
use Rattle.tree_query.proofs.descent.+access_in.Given as goal

abbrev pub decreases-access_in : goal.decreases-access_in
decreases-access_in l = l.level
