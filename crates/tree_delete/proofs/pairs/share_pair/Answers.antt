-- `tree_delete::pairs::share_pair` meets its contract: both entries are written anew.
use Rattle.tree_delete.proofs.PairWrites.{two-nodes, share-returns, first_small, second-small}
use borrow.Author.Rules.{rules}
use Rattle.tree_delete.proofs.pairs.share_pair.Goals as goal

pub share_nodes-requires-clause-two : goal.share_nodes-requires-clause-two
share_nodes-requires-clause-two c = search two-nodes

pub summary-first-requires : goal.summary-first-requires
summary-first-requires c = (search rules, search first_small)

pub summary-second-requires : goal.summary-second-requires
summary-second-requires c = (search rules, search second-small)

pub returns : goal.returns
returns c = search share-returns
