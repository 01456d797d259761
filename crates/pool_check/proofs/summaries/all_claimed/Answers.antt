use borrow.Author.Rules.{rules}
use Rattle.lists.proofs.Sums.{sum-none, sum_more}
use Rattle.pool_check.proofs.summaries.all_claimed.Goals as goal

pub loop-c-init : goal.loop-c-init
loop-c-init c = search (sum-none, rules)

pub loop-c-preserved : goal.loop-c-preserved
loop-c-preserved c = search (sum_more, rules)
