-- `frame_status::named::rank_status` meets its contract: one law for each status that a rank can get.
use Rattle.frame_status.proofs.Statuses.{rank-symbol, rank-outside, rank-passes}
use Rattle.frame_status.proofs.named.rank_status.Goals as goal

pub returns-then-c-found : goal.returns-then-c-found
returns-then-c-found c = search rank-symbol

pub returns-then-c-from : goal.returns-then-c-from
returns-then-c-from c = search rank-outside

pub returns : goal.returns
returns c = search rank-passes
