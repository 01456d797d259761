-- `tree_insert::descent::find_way` meets its contract. The loop's invariant: the way is found down to the level that it has come to.
use Rattle.tree_insert.proofs.WaysDown.{WayFound}
use Rattle.tree_insert.proofs.descent.find_way.Given as goal

abbrev pub invariant-loop-at : goal.invariant-loop-at
invariant-loop-at l = WayFound l.pool l.level l.b l.i l.at l.block l.place l.way
