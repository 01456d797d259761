use Rattle.program_batches.proofs.Reading.{read_none}
use Rattle.program_batches.proofs.read_lines.Goals as goal

pub loop-batch-init : goal.loop-batch-init
loop-batch-init c = search read_none
