-- `frame_queries::answer_access` meets its contract: the mark and the depth found are those of the machine.
use Rattle.frame_queries.proofs.Answering.{access-record, access-first, access-last, depth-fits, access-answers}
use Rattle.frame_queries.proofs.answer_access.Goals as goal

pub access-place-requires : goal.access-place-requires
access-place-requires c = record { opened = search access-record; place = (search access-first, search access-last) }

pub overflow_cast-result : goal.overflow_cast-result
overflow_cast-result c = record { fits = search depth-fits }

pub returns : goal.returns
returns c = search access-answers
