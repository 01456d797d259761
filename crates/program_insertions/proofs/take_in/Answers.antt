use Rattle.program_insertions.proofs.Stream.{taken_more, room-used, chunk-used}
use Rattle.program_insertions.proofs.take_in.Goals.{then-loop-progress-test+else-out-filled-ge-LINE_SIZE, else-loop-progress-test}
use Rattle.program_insertions.proofs.take_in.Goals as goal

pub loop-progress-preserved : goal.loop-progress-preserved
loop-progress-preserved c = search taken_more

pub returns : goal.returns
returns c =
    elim c.loop-progress-test.branch [
      | then-loop-progress-test+else-out-filled-ge-LINE_SIZE w ↦ search room-used
      | else-loop-progress-test w ↦ search chunk-used
    ]
