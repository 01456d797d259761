-- `program_batches::put_answer` meets its contract: by whether the place was kept. Where it was, the caller has an answer there.
use Rattle.program_batches.proofs.Completed.{answer-put}
use Rattle.program_batches.proofs.put_answer.Goals as goal

pub returns : goal.returns
returns c = search (answer-put, c.requires.1)
