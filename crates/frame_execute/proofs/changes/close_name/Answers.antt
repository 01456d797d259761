-- `frame_execute::changes::close_name` meets its contract: a closing that nothing refuses can be made, and is the machine's.
use Rattle.frame_execute.proofs.Steps.{close-ready, close-steps}
use Rattle.frame_execute.proofs.changes.close_name.Goals as goal

pub close-requires : goal.close-requires
close-requires c = rw c.from.ensures (search close-ready)

pub returns : goal.returns
returns c = let done = rw c.from.ensures at c.close.ensures in search close-steps
