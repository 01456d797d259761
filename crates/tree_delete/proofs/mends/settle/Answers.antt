-- `tree_delete::mends::settle` meets its contract: the entry is adjusted, and then the child is mended.
use Rattle.tree_delete.proofs.Settles.{short-ready, settled}
use Rattle.tree_delete.proofs.mends.settle.Goals as goal

pub mend_child-requires : goal.mend_child-requires
mend_child-requires c = search short-ready

pub returns : goal.returns
returns c = search settled
