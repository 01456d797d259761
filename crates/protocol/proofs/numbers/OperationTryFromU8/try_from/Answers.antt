-- `Operation::try_from` meets its contract: a code that is none of the nine isn't in the table.
use Rattle.std.proofs.Common.{arith, refl}
use Rattle.std.proofs.lemmas.Bool.Decides.{nat_tests}
use Rattle.protocol.specs.Commands.{rows}
use Rattle.protocol.proofs.numbers.OperationTryFromU8.try_from.Goals as goal

pub returns-in_default : goal.returns-in_default
unfolding rows
returns-in_default c = (refl, grind (arith, nat_tests))
