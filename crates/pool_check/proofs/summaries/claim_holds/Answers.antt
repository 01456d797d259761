-- `pool_check::summaries::claim_holds` meets its contract: where something is told of a symbol of the alphabet, by a count.
use Rattle.std.proofs.Common.{◌<◌, arith}
use Rattle.pool_check.proofs.Claims.{claim-counted}
use Rattle.pool_check.proofs.summaries.claim_holds.Goals as goal

pub returns-then-c-from : goal.returns-then-c-from
returns-then-c-from c = let low : c.args.c < c.args.alphabet = grind arith in search claim-counted
