-- `call_run::run_frames` meets its contract: `FramesDone` holds at the loop's start, after each frame and at its end.
use Rattle.call_run.proofs.Frames.{FramesDone}
use Rattle.call_run.proofs.run_frames.Given as goal

abbrev pub invariant-loop-k : goal.invariant-loop-k
invariant-loop-k l = FramesDone l.initial.pool l.commands l.initial.answers l.k l.pool l.map l.answers
