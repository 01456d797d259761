-- `pool::bytes::move_down` meets its contract. The loop's invariant: so many bytes as were passed are moved, and none that is to come.
use Rattle.pool.specs.Words.{Moved}
use Rattle.pool.proofs.bytes.move_down.Given as goal

abbrev pub invariant-loop-i : goal.invariant-loop-i
invariant-loop-i l = Moved l.from l.to l.i l.initial.pool l.pool
