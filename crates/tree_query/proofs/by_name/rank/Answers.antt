-- `tree_query::by_name::rank` meets its contract: what the root's block answers is the name's answer.
use borrow.Author.Rules.{rules}
use Rattle.tree_query.proofs.Records.{record-good}
use Rattle.tree_query.proofs.by_name.rank.Goals as goal

pub rank_in-requires-clause-tree : goal.rank_in-requires-clause-tree
rank_in-requires-clause-tree c = (search record-good, search rules)
