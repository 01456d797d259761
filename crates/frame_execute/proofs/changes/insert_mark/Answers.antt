-- `frame_execute::changes::insert_mark` meets its contract: an insert that nothing refuses can be made, and is the machine's.
use borrow.Author.Rules.{rules}
use Rattle.frame_execute.proofs.Steps.{insert-ready, insert-steps}
use Rattle.frame_execute.proofs.changes.insert_mark.Goals as goal

pub insert-requires : goal.insert-requires
insert-requires c = rw c.from.ensures (search insert-ready, search rules)

pub returns : goal.returns
returns c =
    let done = rw c.from.ensures at c.insert.ensures in
    let told = rw c.from-2.ensures at c.with_value.ensures in
    search insert-steps
