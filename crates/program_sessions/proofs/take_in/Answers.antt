-- `program_sessions::take_in` meets its contract: the lines read are what the call needs, and their answers follow what was written.
use borrow.Author.Rules.{rules}
use Rattle.program_sessions.proofs.Stream.{asks-batch, chunk-taken}
use Rattle.program_sessions.proofs.take_in.Goals as goal

pub answer-filled-requires : goal.answer-filled-requires
answer-filled-requires c = search (asks-batch, rules)

pub returns : goal.returns
returns c = search (chunk-taken, rules)
