-- `pool_holders::take_block` meets its contract: the place of the first 0 is that of a free block.
use Rattle.pool_holders.proofs.Takes.{found-place, found_inside, found-taken}
use Rattle.pool_holders.proofs.take_block.Goals as goal

pub overflow_sub-block : goal.overflow_sub-block
overflow_sub-block c = search found-place

pub bounds-map-block : goal.bounds-map-block
bounds-map-block c = search found_inside

pub returns : goal.returns
returns c = search found-taken
