-- `text_hex::write::write_digits` meets its contract. The loop's invariant is `Putting`, of which the laws in Written.antt speak.
use Prim.Native.Nat.{◌+◌, ◌≤◌}
use lib.ListN.{length}
use Rattle.text_hex.specs.Lines.{line_digits}
use Rattle.text_hex.proofs.Written.{Putting}
use Rattle.text_hex.proofs.write.write_digits.Given as goal

abbrev pub invariant-loop-left : goal.invariant-loop-left
invariant-loop-left l = (l.at + line_digits ≤ length l.initial.out) × Putting line_digits l.initial.out l.at l.number l.out l.left l.rest
