-- `tree_insert::insert::count_up` meets its contract. The loop's invariant: the insert has come up to the level that the loop has come to.
use Prim.Native.Nat.{◌+◌}
use Rattle.tree_insert.specs.Ways.{CountedUp}
use Rattle.tree_insert.proofs.insert.count_up.Given as goal

abbrev pub invariant-loop-step : goal.invariant-loop-step
invariant-loop-step l = CountedUp l.level l.c l.way l.from l.initial.pool (l.from + l.step-index) l.pool
