use Rattle.sequence.proofs.Counting.{counted_more, counted-fits, counted-all}
use Rattle.sequence.proofs.Ranks.{rank-zero}
use Rattle.sequence.proofs.count_short.Goals as goal

pub loop-mark-init : goal.loop-mark-init
loop-mark-init c = search rank-zero

pub overflow_add-met : goal.overflow_add-met
overflow_add-met c = search counted-fits

pub loop-mark-preserved : goal.loop-mark-preserved
loop-mark-preserved c = search counted_more

pub returns : goal.returns
returns c = search counted-all
