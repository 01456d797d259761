-- `forfochry_c::forfochry_run` meets its contract: what `run` promises of its outcome holds of the number made of it.
use Rattle.forfochry_c.proofs.forfochry_run.Goals as goal

pub returns : goal.returns
returns c = rw c.number.ensures c.run.ensures
