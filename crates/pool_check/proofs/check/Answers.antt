-- `pool_check::check` meets its contract: what the walk over all names says, with a map of zeros, where the pool is well formed so far.
use Rattle.std.proofs.Common.{arith}
use borrow.Author.Rules.{rules}
use Rattle.geometry.specs.Limits.{most_shares}
use Rattle.pool_check.proofs.Checks.{zeros-clear, names-checked}
use Rattle.pool_check.proofs.check.Goals as goal

pub returns : goal.returns
returns c = names-checked _ _ _ (search rules) (zeros-clear most_shares) _ (grind arith) (grind arith) (grind arith) c.check_names.ensures
