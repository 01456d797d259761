-- `pool_check::names::promised` meets its contract. The loop's invariant: `sum` is what the names passed are promised, each of which fits a word.
use mathlib.Core.Path.{◌≡◌}
use Prim.Native.Nat.{◌*◌, ◌≤◌}
use Rattle.lists.specs.Sums.{sum_below}
use Rattle.pool.specs.Names.{record_of}
use Rattle.pool.specs.Words.{word_limit}
use Rattle.pool_check.proofs.names.promised.Given as goal

abbrev pub invariant-loop-name : goal.invariant-loop-name
invariant-loop-name l = (l.sum ≤ word_limit * l.name) × (l.sum ≡ sum_below l.name (λ n. (record_of l.pool n).q))
