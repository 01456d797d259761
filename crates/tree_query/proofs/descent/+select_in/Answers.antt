use Rattle.std.proofs.Common.{rules}
use Rattle.pool_entries.proofs.Levels.{level-falls}
use Rattle.pool_entries.proofs.Seats.{seated-before, seated-left}
use Rattle.tree_query.proofs.Descents.{leaf-flat, child-good, child-few, number-left, selected-below, selected-fits}
use Rattle.tree_query.proofs.descent.+select_in.Goals as goal

pub returns-then-level-eq0 : goal.returns-then-level-eq0
returns-then-level-eq0 t c = search leaf-flat

pub overflow_sub-j : goal.overflow_sub-j
overflow_sub-j t c = search seated-before

pub select_in-requires : goal.select_in-requires
select_in-requires t c = (search level-falls, ((search child-good, search rules), (search seated-left, search number-left, search child-few)))

pub overflow_add-result : goal.overflow_add-result
overflow_add-result t c = record { fits = search selected-fits }

pub returns : goal.returns
returns t c = search selected-below
