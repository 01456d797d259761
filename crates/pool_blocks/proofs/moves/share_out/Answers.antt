-- `pool_blocks::moves::share_out` meets its contract: the entries stand as they are cut, and both blocks say so.
use Rattle.pool_blocks.proofs.Shares.{shared-out}
use Rattle.pool_blocks.proofs.moves.share_out.Goals as goal

pub returns : goal.returns
returns c = search shared-out
