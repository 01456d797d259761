-- `pool_blocks::branch::open_entry` meets its contract, by the law of a gap.
use Rattle.pool_blocks.proofs.Branches.{entry-opened}
use Rattle.pool_blocks.proofs.branch.open_entry.Goals as goal

pub returns : goal.returns
returns c = search entry-opened
