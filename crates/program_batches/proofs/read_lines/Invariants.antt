-- `program_batches::read_lines` meets its contract. The loop's invariant: the lines read so far, their drafts and commands. Each took a
-- byte at least, so the loop isn't left before its first step where there is room.
use Prim.Native.Nat.{◌-◌}
use lib.ListN.{length}
use Rattle.program_batches.proofs.Reading.{ReadSoFar}
use Rattle.program_batches.proofs.read_lines.Given as goal

abbrev pub invariant-loop-batch : goal.invariant-loop-batch
invariant-loop-batch l = ReadSoFar l.chunk l.initial.batch.line l.initial.keep l.keep l.initial.out l.out l.initial.commands l.commands l.batch

abbrev pub decreases-loop-batch : goal.decreases-loop-batch
decreases-loop-batch l = length l.chunk - l.batch.taken
