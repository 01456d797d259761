-- `pool_check::lent::Lent::record_sound` meets its contract: a record that passes all tests but the last is in order where the last says so.
use Rattle.std.proofs.Common.{arith}
use Rattle.pool_check.proofs.Records.{record-passed}
use Rattle.pool_check.proofs.lent.Lent.record_sound.Goals as goal

pub returns-then-self-at-eq0 : goal.returns-then-self-at-eq0
returns-then-self-at-eq0 c =
    record-passed _ _ _ c.requires.1 _ _ c.record_at-at.ensures (grind arith) (grind arith) (grind arith) (grind arith) (grind arith) (grind arith)
    (grind arith) c.all_zero.ensures
