-- `tree_delete::nodes::join_nodes` meets its contract, by the size of the level's entries.
use Rattle.tree_delete.proofs.NodeMends.{nodes-joined}
use Rattle.tree_delete.proofs.nodes.join_nodes.Goals as goal

pub returns : goal.returns
returns c = nodes-joined _ _ _ _ _ c.requires.two c.requires.fit (rw c.unit_of.ensures at c.join.ensures)
