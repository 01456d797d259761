-- `name_edits::edits::delete` meets its contract: the tree is without the mark, and the record says so.
use Rattle.name_edits.proofs.NameEdits.{delete-in-ready, delete-storable, deleted-at}
use Rattle.name_edits.proofs.edits.delete.Goals as goal

pub delete_in_tree-removed-requires : goal.delete_in_tree-removed-requires
delete_in_tree-removed-requires c = search delete-in-ready

pub put_tree-requires : goal.put_tree-requires
put_tree-requires c = search delete-storable

pub returns : goal.returns
returns c = search deleted-at
