-- `tree_delete::mends::mend_child` meets its contract: the child is large enough, or is mended with its neighbour.
use Rattle.tree_delete.proofs.ShortChildren.{neighbour-ready, neighbour-mended, stays-mended}
use Rattle.tree_delete.proofs.mends.mend_child.Goals as goal

pub mend_pair-requires : goal.mend_pair-requires
mend_pair-requires c = rw c.saturating_sub.ensures (neighbour-ready _ _ _ _ _ c.requires)

pub returns-then-entry_count-least_entries : goal.returns-then-entry_count-least_entries
returns-then-entry_count-least_entries c =
    neighbour-mended _ _ _ _ _ c.requires _ _ _ c.link-child.ensures c.entry_count.ensures c.least_entries.ensures _ _ c.if-entry_count-least_entries.true
    (rw c.saturating_sub.ensures at c.mend_pair.ensures)

pub returns-else-entry_count-least_entries : goal.returns-else-entry_count-least_entries
returns-else-entry_count-least_entries c = search stays-mended
