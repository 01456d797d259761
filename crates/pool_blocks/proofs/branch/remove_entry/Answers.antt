-- `pool_blocks::branch::remove_entry` meets its contract, by the law of a gap closed.
use Rattle.pool_blocks.proofs.Branches.{entry-removed}
use Rattle.pool_blocks.proofs.branch.remove_entry.Goals as goal

pub returns : goal.returns
returns c = search entry-removed
