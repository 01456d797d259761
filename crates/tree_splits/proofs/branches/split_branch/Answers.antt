-- `tree_splits::branches::split_branch` meets its contract, by the half that the entry comes to stand in.
use Rattle.tree_splits.proofs.BranchSplits.{split-low, split-high}
use Rattle.tree_splits.proofs.branches.split_branch.Goals as goal

pub returns-then-k-lt-LEAST_BRANCH : goal.returns-then-k-lt-LEAST_BRANCH
returns-then-k-lt-LEAST_BRANCH c = search split-low

pub returns-else-k-lt-LEAST_BRANCH : goal.returns-else-k-lt-LEAST_BRANCH
returns-else-k-lt-LEAST_BRANCH c = search split-high
