-- `frame_status::named::place_status` meets its contract: one law for each way out of a delete's or an access's tests.
use Rattle.frame_status.proofs.Statuses.{place-outside, place-passes}
use Rattle.frame_status.proofs.named.place_status.Goals as goal

pub returns-then-not-is_place : goal.returns-then-not-is_place
returns-then-not-is_place c = search place-outside

pub returns : goal.returns
returns c = search place-passes
