-- `tree_splits::branches::graft_entry` meets its contract, with room and with a split.
use Rattle.tree_splits.proofs.Grafts.{graft-kept, graft-parted, new-inside, new-other}
use Rattle.tree_splits.proofs.branches.graft_entry.Goals as goal

pub returns-then-entry_count-lt-MOST_BRANCH : goal.returns-then-entry_count-lt-MOST_BRANCH
returns-then-entry_count-lt-MOST_BRANCH c = search graft-kept

pub split_branch-requires-clause-other : goal.split_branch-requires-clause-other
split_branch-requires-clause-other c = (search new-inside, search new-other)

pub returns : goal.returns
returns c = search graft-parted
