-- `tree_splits::leaves::split_leaf` meets its contract, by the place's half.
use Rattle.tree_splits.proofs.LeafSplits.{split-low, split-high, left-leaf, left-room, left-place, right-leaf, right-room, right-place}
use borrow.Author.Rules.{rules}
use Rattle.tree_splits.proofs.leaves.split_leaf.Goals as goal

pub insert_mark-requires : goal.insert_mark-requires
insert_mark-requires c = (search left-leaf, search rules, search left-place, search left-room)

pub insert_mark-requires-else-i-le-LEAST_LEAF : goal.insert_mark-requires-else-i-le-LEAST_LEAF
insert_mark-requires-else-i-le-LEAST_LEAF c = (search right-leaf, search rules, search right-place, search right-room)

pub returns-then-i-le-LEAST_LEAF : goal.returns-then-i-le-LEAST_LEAF
returns-then-i-le-LEAST_LEAF c = search split-low

pub returns-else-i-le-LEAST_LEAF : goal.returns-else-i-le-LEAST_LEAF
returns-else-i-le-LEAST_LEAF c = search split-high
