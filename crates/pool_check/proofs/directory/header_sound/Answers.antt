-- `pool_check::directory::header_sound` meets its contract, by its first byte and the zeros behind it.
use Rattle.pool_check.proofs.Stretches.{same_layout}
use Rattle.pool_check.proofs.directory.header_sound.Goals as goal

pub returns-then-pool-eq-LAYOUT_NUMBER : goal.returns-then-pool-eq-LAYOUT_NUMBER
returns-then-pool-eq-LAYOUT_NUMBER c = search same_layout
