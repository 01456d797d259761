use Rattle.std.proofs.Common.{rules}
use Rattle.pool_entries.proofs.Levels.{level-falls}
use Rattle.pool_entries.proofs.Seats.{seated-before, seated-left}
use Rattle.tree_query.proofs.Descents.{leaf-at, leaf-place, leaf-found, child-good, place-left, found_below}
use Rattle.tree_query.proofs.descent.+access_in.Goals as goal

pub mark_at-requires : goal.mark_at-requires
mark_at-requires t c = (search leaf-at, search rules, search leaf-place)

pub returns-then-level-eq0 : goal.returns-then-level-eq0
returns-then-level-eq0 t c = search leaf-found

pub overflow_sub-i : goal.overflow_sub-i
overflow_sub-i t c = search seated-before

pub access_in-requires : goal.access_in-requires
access_in-requires t c = (search level-falls, (search child-good, (search seated-left, search place-left, search rules)))

pub returns : goal.returns
returns t c = search found_below
