-- `tree_query_cases::comparing::Asked::compare_symbol` is safe. The loop's invariant: no more are met than marks passed, so the counter never wraps.
use Rattle.std.proofs.Common.{◌≤◌}
use Rattle.tree_query_cases.proofs.comparing.Asked.compare_symbol.Given as goal

abbrev pub invariant-loop-i : goal.invariant-loop-i
invariant-loop-i l = l.met ≤ l.i
