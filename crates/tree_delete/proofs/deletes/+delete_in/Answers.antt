use Rattle.std.proofs.Common.{rules}
use Rattle.pool_entries.proofs.Levels.{level-falls}
use Rattle.pool_entries.proofs.Seats.{seated-before}
use Rattle.tree_splits.proofs.SoundBlocks.{leaf-at}
use Rattle.tree_delete.proofs.LevelDeletes.{leaf-deleted, below-ready, taken-below, branch-deleted, leaf_last}
use Rattle.tree_delete.proofs.deletes.+delete_in.Goals as goal

pub delete_mark-requires : goal.delete_mark-requires
delete_mark-requires t c = (search leaf-at, search rules, search leaf_last)

pub returns-then-level-eq0 : goal.returns-then-level-eq0
returns-then-level-eq0 t c = search leaf-deleted

pub overflow_sub-i : goal.overflow_sub-i
overflow_sub-i t c = search seated-before

pub delete_in-taken-requires : goal.delete_in-taken-requires
delete_in-taken-requires t c = (search level-falls, search below-ready)

pub settle-requires : goal.settle-requires
settle-requires t c = search taken-below

pub returns : goal.returns
returns t c = search branch-deleted
