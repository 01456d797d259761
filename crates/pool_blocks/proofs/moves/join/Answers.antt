-- `pool_blocks::moves::join` meets its contract: one move and the new count.
use Rattle.pool_blocks.proofs.Parts.{parts-joined}
use Rattle.pool_blocks.proofs.moves.join.Goals as goal

pub returns : goal.returns
returns c = search parts-joined
