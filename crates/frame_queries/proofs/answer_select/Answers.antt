-- `frame_queries::answer_select` meets its contract.
use Rattle.frame_queries.proofs.Answering.{select-record, select-symbol, select-first, select-last, select-fits, select-answers}
use Rattle.frame_queries.proofs.answer_select.Goals as goal

pub select-place-requires : goal.select-place-requires
select-place-requires c = record { opened = search select-record; number = (search select-symbol, search select-first, search select-last) }

pub overflow_cast-place : goal.overflow_cast-place
overflow_cast-place c = record { fits = search select-fits }

pub returns : goal.returns
returns c = search select-answers
