-- `frame_queries::ask` meets its contract: a query of a name is one of four.
use Rattle.frame_queries.proofs.Answering.{length-answers}
use Rattle.frame_queries.proofs.ask.Goals as goal

pub returns-in_default : goal.returns-in_default
returns-in_default c = search length-answers
