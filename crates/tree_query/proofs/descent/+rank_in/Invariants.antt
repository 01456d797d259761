-- The proof of the cycle of calls {rank_in}. The measure is the levels left. A leaf counts its first i marks; at a branch the child takes what is
-- left of i, and the c of the children before it are added. The sum is a rank at i, so it is at most i.
use Rattle.tree_query.proofs.descent.+rank_in.Given as goal

abbrev pub decreases-rank_in : goal.decreases-rank_in
decreases-rank_in l = l.level
