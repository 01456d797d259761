-- `name_edits::edits::insert` meets its contract: the tree has the mark, and the record says so.
use Rattle.name_edits.proofs.NameEdits.{insert-in-ready, insert-length, insert-storable, inserted-at}
use Rattle.name_edits.proofs.edits.insert.Goals as goal

pub insert_in_tree-tree-requires : goal.insert_in_tree-tree-requires
insert_in_tree-tree-requires c = search insert-in-ready

pub overflow_add-old : goal.overflow_add-old
overflow_add-old c = record { fits = search insert-length }

pub put_tree-requires : goal.put_tree-requires
put_tree-requires c = search insert-storable

pub returns : goal.returns
returns c = search inserted-at
