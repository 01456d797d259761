-- `program_insertions::take_in` meets its contract. The loop's invariant: what has been taken so far follows, and nothing is filled where
-- nothing was taken, so that the loop isn't left before its first step where there is room.
use lib.ListN.{length}
use Rattle.program_insertions.proofs.Stream.{TakenSoFar}
use Rattle.program_insertions.proofs.take_in.Given as goal

abbrev pub invariant-loop-progress : goal.invariant-loop-progress
invariant-loop-progress l = TakenSoFar l.chunk l.rest l.initial.progress l.progress l.initial.keep l.keep l.initial.out l.out l.filled

abbrev pub decreases-loop-progress : goal.decreases-loop-progress
decreases-loop-progress l = length l.rest
