-- `tree_query::by_name::select` meets its contract: what the root's block answers is the name's answer, whose marks are no more than a word tells.
use borrow.Author.Rules.{rules}
use Rattle.tree_query.proofs.Records.{record-good}
use Rattle.tree_query.proofs.by_name.select.Goals as goal

pub select_in-requires-clause-tree : goal.select_in-requires-clause-tree
select_in-requires-clause-tree c = (search record-good, search rules)
