-- `tree_query_cases::compare_name` is safe: in a sound pool a name whose record isn't that of a closed one is open.
use Rattle.std.proofs.Common.{rules}
use Rattle.tree_query_cases.proofs.Names.{sound-open}
use Rattle.tree_query_cases.proofs.compare_name.Goals as goal

pub compare-requires : goal.compare-requires
compare-requires g c = (search sound-open, search rules)
