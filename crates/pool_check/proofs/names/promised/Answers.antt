use borrow.Author.Rules.{rules}
use Rattle.lists.proofs.Sums.{sum-none, sum-all}
use Rattle.pool.specs.Shares.{promised_shares}
use Rattle.pool_check.proofs.Naming.{promise-more}
use Rattle.pool_check.proofs.names.promised.Goals as goal

pub loop-name-init : goal.loop-name-init
loop-name-init c = search (sum-none, rules)

pub loop-name-preserved : goal.loop-name-preserved
loop-name-preserved c = (search rules, promise-more _ _ _ _ _ c.record_at.ensures c.loop-name.invariant.1 c.word-sum.ensures)

pub returns : goal.returns
unfolding promised_shares
returns c = search sum-all
