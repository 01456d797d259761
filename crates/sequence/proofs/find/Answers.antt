use Rattle.sequence.proofs.Counting.{sought-same, sought-other, sought-met, sought-past}
use Rattle.sequence.proofs.find.Goals as goal
use Rattle.sequence.proofs.find.Goals.{then-mark-symbol, else-mark-symbol}

pub returns-then-left-eq0 : goal.returns-then-left-eq0
returns-then-left-eq0 c = search sought-met

pub loop-place-preserved : goal.loop-place-preserved
loop-place-preserved c = elim c.if-mark-symbol.branch [ then-mark-symbol w ↦ rw w.left-is (search sought-same) | else-mark-symbol w ↦ rw w.left-is (search sought-other) ]

pub returns : goal.returns
returns c = search sought-past
