-- `pool_blocks::moves::cut_off` meets its contract: one move, the new count and the new trailer.
use Rattle.pool_blocks.proofs.Parts.{part_cut}
use Rattle.pool_blocks.proofs.moves.cut_off.Goals as goal

pub returns : goal.returns
returns c = search part_cut
