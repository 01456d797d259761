-- `protocol::numbers::Operation::codes` meets its contract: the table's codes are computed.
use mathlib.Core.Path.{refl}
use Rattle.protocol.specs.Commands.{rows}
use Rattle.protocol.proofs.numbers.Operation.codes.Goals as goal

pub returns : goal.returns
unfolding rows
returns c = refl
