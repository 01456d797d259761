use native.Mathlib.Omega.{arith}
use Rattle.std.proofs.Common.{◌+◌, ◌-◌, ◌<◌, length, take, drop, length-take}
use Rattle.pool.specs.Words.{address_limit}
use Rattle.pool_blocks.proofs.Scans.{stride-inside, stride-left, found-fits, found-last}
use Rattle.pool_blocks.proofs.Leaves.{found-is}
use Rattle.pool_blocks.proofs.leaf.find_mark.Goals as goal

pub loop-stride-preserved : goal.loop-stride-preserved
loop-stride-preserved c =
    let is = c.loop-stride.invariant in
    let cut = c.as_chunks.ensures in
    record {
      whole = omega (arith, is.whole);
      inside = stride-inside _ _ _ _ _ is.behind _ cut.front cut.front_len _ c.loop-stride-test.true is.whole;
      behind = stride-left _ _ _ _ _ is.behind _ cut.front cut.front_len _ c.loop-stride-test.true is.whole _ c.count_in-met.ensures c.if-met-left.false;
    }

pub overflow_add-result : goal.overflow_add-result
overflow_add-result c =
    let at = c.block_at-at.result in
    let many = c.entry_count.result in
    let is = c.loop-stride.invariant in
    let small : length (take (at + many - at) (drop at c.args.pool.now)) < address_limit =
    omega (arith, length-take (at + many - at) (drop at c.args.pool.now), c.entry_count.ensures.small) in
    record { fits = found-fits _ _ _ _ _ is.behind _ c.find.ensures is.inside small }

pub returns : goal.returns
returns c = found-is _ _ c.requires _ c.block_at-at.ensures _ _ _ _ c.entry_count.ensures (found-last _ _ _ _ _ c.loop-stride.invariant.behind _ c.find.ensures)
