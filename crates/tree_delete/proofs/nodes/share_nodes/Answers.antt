-- `tree_delete::nodes::share_nodes` meets its contract, by the size of the level's entries.
use Rattle.tree_delete.proofs.NodeMends.{nodes-apart, left-fits, right-fits, nodes-shared}
use Rattle.tree_delete.proofs.nodes.share_nodes.Goals as goal

pub share_out-requires : goal.share_out-requires
share_out-requires c = (
  nodes-apart _ _ _ _ c.requires.two,
  rw c.unit_of.ensures (left-fits _ _ _ _ c.requires.two),
  rw c.unit_of.ensures (right-fits _ _ _ _ c.requires.two),
)

pub returns : goal.returns
returns c = nodes-shared _ _ _ _ _ c.requires.two c.requires.many (rw c.unit_of.ensures at c.share_out.ensures)
