-- `tree_splits::branches::take_up` meets its contract: the entries of both pieces are written with their summaries.
use Rattle.tree_splits.proofs.TakeUps.{graft-ready, taken-up-two, child-small, new-small}
use borrow.Author.Rules.{rules}
use Rattle.tree_splits.proofs.branches.take_up.Goals as goal

pub summary-left-requires : goal.summary-left-requires
summary-left-requires c = (search rules, search child-small)

pub summary-right-requires : goal.summary-right-requires
summary-right-requires c = (search rules, search new-small)

pub graft_entry-requires : goal.graft_entry-requires
graft_entry-requires c = search graft-ready

pub returns : goal.returns
returns c = search taken-up-two
