-- `frame_execute::changes::open_name` meets its contract: an opening that nothing refuses can be made, and is the machine's.
use Rattle.frame_execute.proofs.Steps.{open-ready, open-steps}
use Rattle.frame_execute.proofs.changes.open_name.Goals as goal

pub open-requires : goal.open-requires
open-requires c = rw c.from.ensures (search open-ready)

pub returns : goal.returns
returns c = let done = rw c.from.ensures at c.open.ensures in search open-steps
