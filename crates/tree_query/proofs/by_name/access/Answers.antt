-- `tree_query::by_name::access` meets its contract: what the root's block answers is the name's answer.
use Rattle.tree_query.proofs.Records.{record-good, record-found}
use Rattle.tree_query.proofs.by_name.access.Goals as goal

pub access_in-mark-requires-clause-tree : goal.access_in-mark-requires-clause-tree
access_in-mark-requires-clause-tree c = search record-good

pub returns : goal.returns
returns c = search record-found
