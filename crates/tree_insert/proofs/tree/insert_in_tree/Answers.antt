-- `tree_insert::tree::insert_in_tree` meets its contract, with a new root where the old one was split.
use Rattle.tree_insert.proofs.WholeTrees.{root-ready, tree-kept, tree-grown}
use Rattle.tree_insert.proofs.tree.insert_in_tree.Goals as goal

pub grow_root-requires : goal.grow_root-requires
grow_root-requires c = root-ready _ _ _ _ _ _ _ c.requires _ _ _ c.in-Some.ensures

pub returns-in-Some : goal.returns-in-Some
returns-in-Some c = tree-grown _ _ _ _ _ _ _ c.requires _ _ _ c.in-Some.ensures _ _ _ c.grow_root.ensures

pub returns-in-None : goal.returns-in-None
returns-in-None c = tree-kept _ _ _ _ _ _ _ c.requires _ _ c.in-None.ensures
