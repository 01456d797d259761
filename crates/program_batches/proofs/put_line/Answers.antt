-- `program_batches::put_line` meets its contract: by what the line reads as.
use Rattle.program_batches.proofs.Reading.{bad-put, frame-put}
use Rattle.program_batches.proofs.put_line.Goals as goal

pub returns-in_default : goal.returns-in_default
returns-in_default c = search bad-put

pub returns : goal.returns
returns c = search frame-put
