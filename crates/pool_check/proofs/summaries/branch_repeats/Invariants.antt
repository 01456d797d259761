-- `pool_check::summaries::branch_repeats` meets its contract. The loop's invariant: `same` says exactly whether the entry is right as to the marks and
-- the symbols passed.
use Rattle.pool_check.specs.Says.{Says}
use Rattle.pool_check.proofs.Repeating.{RepeatsTo}
use Rattle.pool_check.proofs.summaries.branch_repeats.Given as goal

abbrev pub invariant-loop-c : goal.invariant-loop-c
invariant-loop-c l = Says l.same (RepeatsTo l.pool 1 l.b l.k l.child.b l.c)
