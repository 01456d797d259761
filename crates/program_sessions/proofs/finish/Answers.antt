-- `program_sessions::finish` meets its contract: by whether a line without a line feed is left.
use Rattle.program_sessions.proofs.Stream.{ends-whole, ends_open}
use Rattle.program_sessions.proofs.finish.Goals as goal

pub returns-then-line-eq0 : goal.returns-then-line-eq0
returns-then-line-eq0 c = search ends-whole

pub returns : goal.returns
returns c = search ends_open
