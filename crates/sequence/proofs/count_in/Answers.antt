use native.Mathlib.Omega.{arith}
use Rattle.sequence.proofs.Counting.{pieces-more, piece-fits, stretch-few, pieces-all}
use Rattle.sequence.proofs.count_in.Goals as goal

pub overflow_add-met : goal.overflow_add-met
overflow_add-met c = search (piece-fits, stretch-few, c.in-Some.ensures.steps)

pub loop-piece-preserved : goal.loop-piece-preserved
loop-piece-preserved c = (omega (arith, c.in-Some.ensures.steps), tt, omega (arith, c.in-Some.ensures.steps), search (pieces-more, c.in-Some.ensures.steps))

pub returns : goal.returns
returns c = search (pieces-all, c.in-None.ensures.steps)
