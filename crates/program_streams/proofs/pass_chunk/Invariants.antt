-- `program_streams::pass_chunk` meets its contract. The loop's invariant: the bytes before the rest have been passed on.
use Rattle.std.proofs.Common.{◌≤◌, length}
use Rattle.program_streams.proofs.Passing.{PassedSoFar}
use Rattle.program_streams.proofs.pass_chunk.Given as goal

abbrev pub invariant-loop-rest : goal.invariant-loop-rest
invariant-loop-rest g l =
    (g.F.Filter.room ≤ length l.out)
    × PassedSoFar g.F.Filter.follows l.chunk l.rest l.initial.filter l.filter
    (g.W.Write.contents l.initial.output) (g.W.Write.contents l.output)

abbrev pub decreases-loop-rest : goal.decreases-loop-rest
decreases-loop-rest g l = length l.rest
