-- `pool_blocks::leaf::delete_mark` meets its contract: the mark is read, and its byte closed.
use borrow.Author.Rules.{rules}
use Rattle.pool_blocks.proofs.Leaves.{entry_of, mark-deleted}
use Rattle.pool_blocks.proofs.leaf.delete_mark.Goals as goal

pub close_gap-requires : goal.close_gap-requires
close_gap-requires c = search (entry_of, rules)

pub returns : goal.returns
returns c = search mark-deleted
