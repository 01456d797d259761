-- `pool_check::block::marks_fit` meets its contract: the marks are a stretch of the pool, and all of them are tested.
use Rattle.std.proofs.Common.{◌+◌, ◌<◌, ◌≤◌, arith, rules}
use borrow.Author.Tests.{tests}
use Rattle.std.proofs.lemmas.Iterator.{cases_from_all, YieldsList-from_slice}
use Rattle.std.specs.List.{slice_range}
use Rattle.geometry.specs.Layout.{most_leaf}
use Rattle.pool_check.proofs.Leaves.{all-below}
use Rattle.pool_check.proofs.block.marks_fit.Goals as goal

pub returns : goal.returns
returns c =
    let small : c.entry_count.result ≤ most_leaf = omega (arith, c.entry_count.ensures.is) in
    all-below _ _ _ c.args.leaf.now.inside c.entry_count.ensures.is small _ _ c.block_at-at.ensures _
    (cases_from_all _ _ _ (λ x. x < c.args.alphabet) (λ x. c.args.alphabet ≤ x) c.all.ensures.ran
    (YieldsList-from_slice (slice_range c.args.leaf.now.pool.now c.block_at-at.result (c.block_at-at.result + c.entry_count.result)) cc)
    (λ x q k. search (rules, tests)) (λ x q k. search (rules, tests)))
