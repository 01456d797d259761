-- `sequence::find` meets its contract. The loop's invariant: the place sought is `place` marks on from what is sought in the rest,
-- of which `left` are still to be met. It ends where none is left to meet, or no mark.
use mathlib.Core.Path.{◌≡◌}
use Prim.Native.Nat.{◌+◌}
use lib.ListN.{drop}
use Rattle.sequence.specs.Definition1.{select}
use Rattle.sequence.proofs.find.Given as goal

abbrev pub invariant-loop-place : goal.invariant-loop-place
invariant-loop-place l = select l.symbol l.marks l.j ≡ l.place + select l.symbol (drop l.place l.marks) l.left
