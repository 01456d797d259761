-- `pool_blocks::branch::cut_branch` meets its contract, by the law of entries cut off.
use Rattle.pool_blocks.proofs.Branches.{branch-cut}
use Rattle.pool_blocks.proofs.branch.cut_branch.Goals as goal

pub returns : goal.returns
returns c = search branch-cut
