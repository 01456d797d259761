-- `pool_blocks::moves::close_gap` meets its contract: one move and the new count close the gap.
use Rattle.pool_blocks.proofs.Gaps.{gap-closed}
use Rattle.pool_blocks.proofs.moves.close_gap.Goals as goal

pub returns : goal.returns
returns c = search gap-closed
