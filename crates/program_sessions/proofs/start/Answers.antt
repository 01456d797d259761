-- `program_sessions::start` meets its contract: a formatted pool stands for the state at the start, and no byte for no line.
use Rattle.program_sessions.proofs.Stream.{session-starts}
use Rattle.program_sessions.proofs.start.Goals as goal

pub returns : goal.returns
returns c = search session-starts
