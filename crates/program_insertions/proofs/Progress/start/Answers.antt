-- `program_insertions::Progress::start` meets its contract: no byte stands for no line.
use Rattle.program_insertions.proofs.Stream.{file-starts}
use Rattle.program_insertions.proofs.Progress.start.Goals as goal

pub returns : goal.returns
returns c = search file-starts
