use Rattle.std.proofs.Common.{rules}
use Rattle.pool_entries.proofs.Levels.{level-falls}
use Rattle.pool_entries.proofs.Seats.{seated-before}
use Rattle.tree_query.proofs.Descents.{leaf-at, leaf-place, leaf-flat, child-good, place-left, ranked-below, ranked-fits}
use Rattle.tree_query.proofs.descent.+rank_in.Goals as goal

pub count_marks-requires : goal.count_marks-requires
count_marks-requires t c = (search leaf-at, search leaf-place)

pub returns-then-level-eq0 : goal.returns-then-level-eq0
returns-then-level-eq0 t c = search leaf-flat

pub overflow_sub-i : goal.overflow_sub-i
overflow_sub-i t c = search seated-before

pub rank_in-requires : goal.rank_in-requires
rank_in-requires t c = (search level-falls, ((search child-good, search rules), search place-left))

pub overflow_add-result : goal.overflow_add-result
overflow_add-result t c = record { fits = search ranked-fits }

pub returns : goal.returns
returns t c = search ranked-below
