-- `pool_blocks::leaf::insert_mark` meets its contract: a gap of one byte, and the mark in it.
use borrow.Author.Rules.{rules}
use Rattle.pool_blocks.proofs.Leaves.{entry_new, room-new, mark-inserted}
use Rattle.pool_blocks.proofs.leaf.insert_mark.Goals as goal

pub open_gap-requires : goal.open_gap-requires
open_gap-requires c = search (entry_new, room-new, rules)

pub returns : goal.returns
returns c = search mark-inserted
