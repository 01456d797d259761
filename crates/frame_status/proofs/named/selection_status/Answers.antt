-- `frame_status::named::selection_status` meets its contract: one law for each status that a select can get.
use Rattle.frame_status.proofs.Statuses.{asked-record, select-symbol, select-counts, select-zero, select-past, select-passes}
use Rattle.frame_status.proofs.named.selection_status.Goals as goal

pub returns-then-c-found : goal.returns-then-c-found
returns-then-c-found c = search select-symbol

pub returns-then-c-eq0 : goal.returns-then-c-eq0
returns-then-c-eq0 c = search select-zero

pub count-requires : goal.count-requires
count-requires c = record { opened = search asked-record; symbol = search select-counts }

pub returns-then-c-count : goal.returns-then-c-count
returns-then-c-count c = search select-past

pub returns : goal.returns
returns c = search select-passes
