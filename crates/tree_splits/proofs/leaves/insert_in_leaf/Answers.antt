-- `tree_splits::leaves::insert_in_leaf` meets its contract, with room and with a split.
use Rattle.tree_splits.proofs.LeafInserts.{full-room, leaf_room, leaf-kept, leaf-parted, full_size, new-inside, new-other, place-last}
use borrow.Author.Rules.{rules}
use Rattle.tree_splits.proofs.leaves.insert_in_leaf.Goals as goal

pub insert_mark-requires : goal.insert_mark-requires
insert_mark-requires c = (search rules, search rules, search rules, search leaf_room)

pub returns-then-entry_count-lt-MOST_LEAF : goal.returns-then-entry_count-lt-MOST_LEAF
returns-then-entry_count-lt-MOST_LEAF c = search leaf-kept

pub take_block-new-requires : goal.take_block-new-requires
take_block-new-requires c = search full-room

pub split_leaf-requires-clause-full : goal.split_leaf-requires-clause-full
split_leaf-requires-clause-full c = (search rules, search full_size)

pub split_leaf-requires-clause-other : goal.split_leaf-requires-clause-other
split_leaf-requires-clause-other c = (search new-inside, search new-other)

pub split_leaf-requires-clause-place : goal.split_leaf-requires-clause-place
split_leaf-requires-clause-place c = (search rules, search place-last)

pub returns : goal.returns
returns c = search leaf-parted
