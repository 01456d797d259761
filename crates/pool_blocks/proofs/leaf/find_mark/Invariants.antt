-- `pool_blocks::leaf::find_mark` meets its contract: the part of the pool that is searched is the leaf. The loop's invariant: the place sought is
-- the marks passed on from what is sought in the rest, of which `left` are still to be met.
use Rattle.std.proofs.Common.{◌≡◌, ◌*◌, ◌≤◌, length}
use Rattle.pool_blocks.proofs.Scans.{LeftBehind}
use Rattle.pool_blocks.proofs.leaf.find_mark.Given as goal

abbrev pub invariant-loop-stride : goal.invariant-loop-stride
invariant-loop-stride l = record { whole : l.passed ≡ 16 * l.stride-index; inside : l.passed ≤ length l.marks; behind : LeftBehind l.marks l.c l.j l.passed l.left }
