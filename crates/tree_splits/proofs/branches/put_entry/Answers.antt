-- `tree_splits::branches::put_entry` meets its contract: a gap, and the entry in it.
use Rattle.tree_splits.proofs.EntryPuts.{entry-put}
use Rattle.tree_splits.proofs.branches.put_entry.Goals as goal

pub returns : goal.returns
returns c = search entry-put
