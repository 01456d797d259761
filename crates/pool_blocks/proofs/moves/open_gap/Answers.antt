-- `pool_blocks::moves::open_gap` meets its contract: one move and the new count make the gap.
use Rattle.pool_blocks.proofs.Gaps.{gap-opened}
use Rattle.pool_blocks.proofs.moves.open_gap.Goals as goal

pub returns : goal.returns
returns c = search gap-opened
