-- `tree_splits::root::write_pair` meets its contract: an empty branch gets one entry and then the other.
use Rattle.tree_splits.proofs.RootGrowths.{pair-written}
use Rattle.tree_splits.proofs.root.write_pair.Goals as goal

pub returns : goal.returns
returns c = search pair-written
