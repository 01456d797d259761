use native.Mathlib.Omega.{arith}
use Rattle.pool_blocks.proofs.Leaves.{place-few, place-small}
use Rattle.pool_blocks.proofs.Scans.{met-none, met-more, met-past, met-same, met-other, met_all}
use Rattle.pool_blocks.proofs.leaf.count_marks.Goals as goal
use Rattle.pool_blocks.proofs.leaf.count_marks.Goals.{then-mark-c+then-left-behind, else-mark-c, else-mark-c-via-then-mark-c+else-left-behind, else-mark-c-via-else-mark-c}

pub overflow_cast-behind-2 : goal.overflow_cast-behind-2
overflow_cast-behind-2 c = record { fits = search place-small }

pub overflow_sub-behind : goal.overflow_sub-behind
overflow_sub-behind c = search place-few

pub loop-mark-init : goal.loop-mark-init
loop-mark-init c = (omega arith, omega arith, search met-none)

pub overflow_add-met : goal.overflow_add-met
overflow_add-met c = record { fits = search met-more }

pub loop-mark-preserved : goal.loop-mark-preserved
loop-mark-preserved c = (
  omega arith,
  omega arith,
  elim c.if-mark-c.branch [
    | then-mark-c+then-left-behind w ↦ search met-same
    | else-mark-c w ↦ elim w.else-mark-c.branch [ else-mark-c-via-then-mark-c+else-left-behind v ↦ search met-past | else-mark-c-via-else-mark-c v ↦ search met-other ]
  ],
)

pub returns : goal.returns
returns c = search met_all
