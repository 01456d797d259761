-- `sequence::count_short` meets its contract. The loop's invariant: `met` is the rank at the marks passed. It is at most so many, fewer
-- than 255 before the last, so the byte counter never wraps.
use mathlib.Core.Path.{◌≡◌}
use Rattle.sequence.specs.Definition1.{rank}
use Rattle.sequence.proofs.count_short.Given as goal

abbrev pub invariant-loop-mark : goal.invariant-loop-mark
invariant-loop-mark l = l.met ≡ rank l.symbol l.marks l.mark-index
