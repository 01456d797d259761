-- `frame_execute::changes::delete_mark` meets its contract: a delete that nothing refuses can be made, and is the machine's.
use borrow.Author.Rules.{rules}
use Rattle.frame_execute.proofs.Steps.{delete-ready, delete-some, delete-steps}
use Rattle.frame_execute.proofs.changes.delete_mark.Goals as goal

pub delete-mark-requires : goal.delete-mark-requires
delete-mark-requires c = rw c.from.ensures (search delete-ready, search rules)

pub overflow_sub-result : goal.overflow_sub-result
overflow_sub-result c = rw c.from-2.ensures (search delete-some)

pub returns : goal.returns
returns c = let done = rw c.from.ensures at c.delete-mark.ensures in rw c.from-2.ensures (search delete-steps)
