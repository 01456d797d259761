-- `sequence::count_in` meets its contract. The loop's invariant: what was met and what the rest has are the count of all, and the pieces
-- are of 255 marks.
use Prim.Native.Nat.{◌+◌, ◌-◌}
use mathlib.Core.Path.{◌≡◌}
use lib.ListN.{take, drop}
use Rattle.std.specs.Slice.Iter.{chunks_rest, chunks_size}
use Rattle.sequence.specs.Definition1.{count}
use Rattle.sequence.proofs.count_in.Given as goal

abbrev pub invariant-loop-piece : goal.invariant-loop-piece
invariant-loop-piece l =
    (goal.iterator-loop-piece).can_next l.piece-iterator
    × (goal.iterator-loop-piece).is_finite l.piece-iterator
    × (chunks_size l.piece-iterator ≡ 255)
    × (l.met + count l.symbol (chunks_rest l.piece-iterator) ≡ count l.symbol (take (l.to - l.from) (drop l.from l.marks)))
