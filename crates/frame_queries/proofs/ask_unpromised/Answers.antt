-- `frame_queries::ask_unpromised` meets its contract.
use Rattle.frame_queries.proofs.Answering.{unpromised-answers}
use Rattle.frame_queries.proofs.ask_unpromised.Goals as goal

pub returns : goal.returns
returns c = search unpromised-answers
