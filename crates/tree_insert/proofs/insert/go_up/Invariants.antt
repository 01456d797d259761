-- `tree_insert::insert::go_up` meets its contract. The loop's invariant: the insert has come up to the level that the loop has come to.
use Rattle.tree_insert.specs.Ways.{Climbed}
use Rattle.tree_insert.proofs.insert.go_up.Given as goal

abbrev pub invariant-loop-at : goal.invariant-loop-at
invariant-loop-at l = Climbed l.level l.c l.holder l.way 0 l.initial.grown l.initial.pool l.initial.map l.at l.grown l.pool l.map
