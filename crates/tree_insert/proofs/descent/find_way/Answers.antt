use Rattle.pool_entries.proofs.Seats.{seated-before}
use Rattle.tree_insert.proofs.WaysDown.{found-start, found-lower, found_all}
use Rattle.tree_insert.proofs.descent.find_way.Goals as goal

pub loop-at-init : goal.loop-at-init
loop-at-init c = search found-start

pub overflow_sub-place : goal.overflow_sub-place
overflow_sub-place c = search seated-before

pub loop-at-preserved : goal.loop-at-preserved
loop-at-preserved c = search found-lower

pub returns : goal.returns
returns c = search found_all
