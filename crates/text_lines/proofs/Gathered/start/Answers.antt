-- `text_lines::Gathered::start` stands for no bytes, under either rule and beside any buffer.
use Rattle.text_lines.proofs.Standing.{stands-start}
use Rattle.text_lines.proofs.Gathered.start.Goals as goal

pub returns : goal.returns
returns c = search stands-start
