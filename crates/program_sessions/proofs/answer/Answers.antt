-- `program_sessions::answer` meets its contract: the call is accepted if the pool is sound, and its answers complete the drafts.
use mathlib.Core.Path.{refl}
use borrow.Author.Rules.{rules}
use Rattle.program_sessions.proofs.Call.{lines-answered}
use Rattle.program_sessions.proofs.answer.Goals as goal

pub returns : goal.returns
returns c = (refl, search (lines-answered, rules))
