-- `tree_insert::insert::insert_in` meets its contract: a way found, the leaf's insert, and the way back up make the tree's.
use Rattle.tree_insert.proofs.WaysDown.{ready-leaf}
use Rattle.tree_insert.proofs.WaysUp.{way-climber, way-inserted}
use Rattle.tree_insert.proofs.insert.insert_in.Goals as goal

pub insert_in_leaf-grown-requires : goal.insert_in_leaf-grown-requires
insert_in_leaf-grown-requires c = ready-leaf _ _ _ _ _ _ _ _ _ c.find_way-place.ensures (search)

pub go_up-requires-clause-start : goal.go_up-requires-clause-start
go_up-requires-clause-start c = way-climber _ _ _ _ _ _ _ _ _ c.find_way-place.ensures (search) _ _ _ c.insert_in_leaf-grown.ensures

pub returns : goal.returns
returns c = way-inserted _ _ _ _ _ _ _ _ _ c.find_way-place.ensures (search) _ _ _ c.insert_in_leaf-grown.ensures _ _ _ c.go_up.ensures
