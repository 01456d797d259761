use borrow.Author.Rules.{rules}
use Rattle.pool_check.proofs.Claims.{claims-none, claims-more, claims-not, other-marks, other-sum, claims-all, left-all, some_left, next-left, left-enough, left-next}
use Rattle.pool_check.proofs.lent.Tree.leaf_repeats.Goals as goal
use Rattle.pool_check.proofs.lent.Tree.leaf_repeats.Goals.{then-marks_below-many-via-then-marks_below-many, then-marks_below-many-via-else-marks_below-many+then-all_claimed-many}

pub returns-then-marks_below-many : goal.returns-then-marks_below-many
returns-then-marks_below-many c =
    elim c.then-marks_below-many.branch [
      | then-marks_below-many-via-then-marks_below-many w ↦ search other-marks
      | then-marks_below-many-via-else-marks_below-many+then-all_claimed-many w ↦ search other-sum
    ]

pub loop-left-init : goal.loop-left-init
loop-left-init c = search (left-all, claims-none, rules)

pub returns-then-not-claim_holds : goal.returns-then-not-claim_holds
returns-then-not-claim_holds c = search (claims-not, some_left)

pub overflow_sub-left : goal.overflow_sub-left
overflow_sub-left c = search left-enough

pub loop-left-preserved : goal.loop-left-preserved
loop-left-preserved c = (search next-left, search left-next, search (claims-more, some_left))

pub returns : goal.returns
returns c = search claims-all
