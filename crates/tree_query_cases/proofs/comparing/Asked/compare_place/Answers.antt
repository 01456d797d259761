-- `tree_query_cases::comparing::Asked::compare_place` is safe: a number is selected only where it is the rank at a place, and more than before it.
use Rattle.std.proofs.Common.{arith, rules}
use Rattle.tree_query_cases.proofs.Names.{rank-in-count}
use Rattle.tree_query_cases.proofs.comparing.Asked.compare_place.Goals as goal

pub select-requires-clause-number : goal.select-requires-clause-number
select-requires-clause-number c = (search rules, omega arith, search rank-in-count)
