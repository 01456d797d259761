-- `pool_blocks::leaf::mark_at` meets its contract: place i is byte i - 1 of the block.
use borrow.Author.Rules.{rules}
use Rattle.pool_blocks.proofs.Leaves.{mark-inside, mark-addressed, mark-is}
use Rattle.pool_blocks.proofs.leaf.mark_at.Goals as goal

pub overflow_add-result : goal.overflow_add-result
overflow_add-result c = record { fits = search (mark-addressed, rules) }

pub bounds-pool-at : goal.bounds-pool-at
bounds-pool-at c = search mark-inside

pub returns : goal.returns
returns c = search mark-is
