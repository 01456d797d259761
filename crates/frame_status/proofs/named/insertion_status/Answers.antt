-- `frame_status::named::insertion_status` meets its contract: one law for each status that an insert can get.
use Rattle.frame_status.proofs.Statuses.{insert-symbol, insert-outside, insert-full, insert-passes}
use Rattle.frame_status.proofs.named.insertion_status.Goals as goal

pub returns-then-c-found : goal.returns-then-c-found
returns-then-c-found c = search insert-symbol

pub returns-then-not-is_place : goal.returns-then-not-is_place
returns-then-not-is_place c = search insert-outside

pub returns-then-from : goal.returns-then-from
returns-then-from c = search insert-full

pub returns : goal.returns
returns c = search insert-passes
