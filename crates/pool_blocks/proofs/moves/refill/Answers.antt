-- `pool_blocks::moves::refill` meets its contract, by the law of the way that the entries go.
use Rattle.pool_blocks.proofs.Shares.{left-filled, right-filled}
use Rattle.pool_blocks.proofs.moves.refill.Goals as goal

pub returns-then-here-many : goal.returns-then-here-many
returns-then-here-many c = search left-filled

pub returns-else-here-many : goal.returns-else-here-many
returns-else-here-many c = search right-filled
