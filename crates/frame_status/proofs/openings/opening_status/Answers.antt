-- `frame_status::openings::opening_status` meets its contract: one law for each status that an opening can get.
use Rattle.frame_status.proofs.Statuses.{opening-opened, opening-alphabet, opening-no-shares, opening-exceeds, opening-passes}
use Rattle.frame_status.proofs.openings.opening_status.Goals as goal

pub returns-then-found-ne-KIND_CLOSED : goal.returns-then-found-ne-KIND_CLOSED
returns-then-found-ne-KIND_CLOSED c = search opening-opened

pub returns-then-not-is_alphabet_size : goal.returns-then-not-is_alphabet_size
returns-then-not-is_alphabet_size c = search opening-alphabet

pub returns-then-c-eq0 : goal.returns-then-c-eq0
returns-then-c-eq0 c = search opening-no-shares

pub returns-then-c-unpromised : goal.returns-then-c-unpromised
returns-then-c-unpromised c = search opening-exceeds

pub returns : goal.returns
returns c = search opening-passes
