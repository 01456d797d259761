-- `tree_delete::pairs::join_pair` meets its contract: one entry is written, and the next is taken out.
use Rattle.tree_delete.proofs.PairWrites.{two-nodes, remove-ready, join-returns, joined_small}
use borrow.Author.Rules.{rules}
use Rattle.tree_delete.proofs.pairs.join_pair.Goals as goal

pub join_nodes-requires-clause-two : goal.join_nodes-requires-clause-two
join_nodes-requires-clause-two c = search two-nodes

pub summary-summary-requires : goal.summary-summary-requires
summary-summary-requires c = (search rules, search joined_small)

-- by hand: a search compares too much here
pub remove_entry-requires : goal.remove_entry-requires
remove_entry-requires c = remove-ready _ _ _ _ _ _ _ c.requires.pair _ c.join_nodes.ensures c.set_entry.ensures

pub returns : goal.returns
returns c = search join-returns
