-- `program_batches::take_line` meets its contract: by whether the bytes taken end a line.
use Rattle.program_batches.proofs.Reading.{line_taken, none-taken}
use Rattle.program_batches.proofs.take_line.Goals as goal

pub returns-in-Whole : goal.returns-in-Whole
returns-in-Whole c = search (line_taken, c.in-Whole.ensures)

pub returns-in-Unfinished : goal.returns-in-Unfinished
returns-in-Unfinished c = search (none-taken, c.in-Unfinished.ensures)
