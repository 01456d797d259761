-- `sequence_cases::plain_count` is safe. The loop's invariant: no more are met than marks passed, so the counter never wraps.
use Prim.Native.Nat.{◌≤◌}
use Rattle.sequence_cases.proofs.plain_count.Given as goal

abbrev pub invariant-loop-mark : goal.invariant-loop-mark
invariant-loop-mark l = l.met ≤ l.mark-index
