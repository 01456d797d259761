use mathlib.Core.Bool.{true, false}
use mathlib.Core.Path.{◌≡◌}
use Rattle.pool_check.proofs.Walking.{branch-walked, no-children, child-refused, entry-refused, children-walked}
use Rattle.pool_check.proofs.lent.Tree.+check_block_check_children.Goals as goal
use Rattle.pool_check.proofs.lent.Tree.+check_block_check_children.Goals.{check_children-then-check_block, check_children-else-check_block}

pub check_block-returns-else-level-eq0 : goal.check_block-returns-else-level-eq0
check_block-returns-else-level-eq0 t c = search branch-walked

pub check_children-returns-then-left-eq0 : goal.check_children-returns-then-left-eq0
check_children-returns-then-left-eq0 t c = search no-children

pub check_children-returns-else-repeats : goal.check_children-returns-else-repeats
check_children-returns-else-repeats t c =
    rw c.if-repeats.false
    (elim c.if-check_block.branch [
      | check_children-then-check_block w ↦ let wrong : w.repeats.result ≡ false = cc in search entry-refused
      | check_children-else-check_block w ↦ search child-refused
    ])

pub check_children-returns-then-repeats : goal.check_children-returns-then-repeats
check_children-returns-then-repeats t c =
    elim c.if-check_block.branch [
      | check_children-then-check_block w ↦ let right : w.repeats.result ≡ true = cc in search children-walked
      | check_children-else-check_block w ↦ absurd cc
    ]
