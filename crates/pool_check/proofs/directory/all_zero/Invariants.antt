-- `pool_check::directory::all_zero` meets its contract. The loop's invariant: `clean` says exactly whether the bytes passed are 0.
use Rattle.pool_check.specs.Parts.{Zeros}
use Rattle.pool_check.specs.Says.{Says}
use Rattle.pool_check.proofs.directory.all_zero.Given as goal

abbrev pub invariant-loop-byte : goal.invariant-loop-byte
invariant-loop-byte l = Says l.clean (Zeros l.pool l.at l.byte-index)
