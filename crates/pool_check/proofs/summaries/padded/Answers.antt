use borrow.Author.Rules.{rules}
use lib.ListN.{length-set}
use Rattle.pool_check.proofs.Paddings.{low-byte-fits, next-mark, next-behind, padded-leaf}
use Rattle.pool_check.proofs.summaries.padded.Goals as goal
use Rattle.pool_check.proofs.summaries.padded.Goals.{else-left-behind, then-left-behind}

pub overflow_sub-behind : goal.overflow_sub-behind
overflow_sub-behind c = search low-byte-fits

pub loop-i-preserved : goal.loop-i-preserved
loop-i-preserved c = (search rules, search (rules, length-set), elim c.if-left-behind.branch [ then-left-behind w ↦ search next-behind | else-left-behind w ↦ search next-mark ])

pub returns : goal.returns
returns c = search padded-leaf
