use Rattle.tree_insert.proofs.WaysUp.{split-ready, next-climbed, rest-climbed}
use Rattle.tree_insert.proofs.insert.go_up.Goals as goal

pub returns-in_default : goal.returns-in_default
returns-in_default c = rest-climbed _ _ _ _ _ _ _ _ _ _ _ (rw c.in_default.is at c.loop-at.invariant) _ c.count_up.ensures

pub take_up-grown-requires : goal.take_up-grown-requires
take_up-grown-requires c = split-ready _ _ _ _ _ _ _ _ _ _ _ _ (rw c.in-Some.is at c.loop-at.invariant) c.loop-at-test.true

pub loop-at-preserved : goal.loop-at-preserved
loop-at-preserved c = next-climbed _ _ _ _ _ _ _ _ _ _ _ _ (rw c.in-Some.is at c.loop-at.invariant) c.loop-at-test.true _ _ _ c.take_up-grown.ensures
