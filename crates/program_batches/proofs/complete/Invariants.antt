-- `program_batches::complete` meets its contract. The loop's invariant: what stands before, and what will be made of the rest, are the
-- whole; the answers that are left suffice for the places that are.
use Rattle.program_batches.proofs.Completed.{Completing}
use Rattle.program_batches.proofs.complete.Given as goal

abbrev pub invariant-loop-line : goal.invariant-loop-line
invariant-loop-line l = Completing l.lines l.initial.out l.out l.answers l.line l.left
