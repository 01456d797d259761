-- `protocol::numbers::Reason::statuses` meets its contract: the table's statuses are computed.
use mathlib.Core.Path.{refl}
use Rattle.protocol.specs.Refusals.{refusals}
use Rattle.protocol.proofs.numbers.Reason.statuses.Goals as goal

pub returns : goal.returns
unfolding refusals
returns c = refl
