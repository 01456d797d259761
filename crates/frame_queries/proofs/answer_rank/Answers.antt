-- `frame_queries::answer_rank` meets its contract.
use Rattle.frame_queries.proofs.Answering.{rank-record, rank-symbol, rank-last, rank-fits, rank-answers}
use Rattle.frame_queries.proofs.answer_rank.Goals as goal

pub rank-many-requires : goal.rank-many-requires
rank-many-requires c = record { opened = search rank-record; place = (search rank-symbol, search rank-last) }

pub overflow_cast-many : goal.overflow_cast-many
overflow_cast-many c = record { fits = search rank-fits }

pub returns : goal.returns
returns c = search rank-answers
