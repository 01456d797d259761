-- `program_insertions::put_frame` meets its contract: below the limit the written line is the frame, past it nothing is written.
use Rattle.program_insertions.proofs.Stream.{frame-put, no-frame-put}
use Rattle.program_insertions.proofs.put_frame.Goals as goal

pub returns-then-lines-lt-MOST_MARKS : goal.returns-then-lines-lt-MOST_MARKS
returns-then-lines-lt-MOST_MARKS c = search frame-put

pub returns : goal.returns
returns c = search no-frame-put
