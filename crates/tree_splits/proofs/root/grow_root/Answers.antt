-- `tree_splits::root::grow_root` meets its contract: the block taken gets an entry for each half.
use Rattle.tree_splits.proofs.RootGrowths.{left-small, right-small, root-grown}
use borrow.Author.Rules.{rules}
use Rattle.tree_splits.proofs.root.grow_root.Goals as goal

pub summary-first-requires : goal.summary-first-requires
summary-first-requires c = (search rules, search left-small)

pub summary-second-requires : goal.summary-second-requires
summary-second-requires c = (search rules, search right-small)

pub returns : goal.returns
returns c = search root-grown
