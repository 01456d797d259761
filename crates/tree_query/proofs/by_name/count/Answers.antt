-- `tree_query::by_name::count` meets its contract, for a root that is a leaf and for any other.
use Rattle.tree_query.proofs.Counted.{leaf-counted, branch-most, branch-counted}
use Rattle.tree_query.proofs.by_name.count.Goals as goal

pub returns-then-found-eq0 : goal.returns-then-found-eq0
returns-then-found-eq0 c = search leaf-counted

pub own_count-requires-clause-block : goal.own_count-requires-clause-block
own_count-requires-clause-block c = search branch-most

pub returns-else-found-eq0 : goal.returns-else-found-eq0
returns-else-found-eq0 c = search branch-counted
