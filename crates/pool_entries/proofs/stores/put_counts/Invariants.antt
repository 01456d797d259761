-- `pool_entries::stores::put_counts` meets its contract. The loop's invariant: the counts of the symbols passed are put.
use Rattle.pool_entries.specs.Entries.{PutCounts}
use Rattle.pool_entries.proofs.stores.put_counts.Given as goal

abbrev pub invariant-loop-c : goal.invariant-loop-c
invariant-loop-c l = PutCounts l.at l.c l.count-items l.initial.pool l.pool
