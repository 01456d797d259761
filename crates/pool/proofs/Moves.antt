-- What a move of bytes says of the stretch that it wrote.
use mathlib.Core.Path.{◌≡◌}
use mathlib.Core.List.{List}
use Prim.Native.Nat.{ℕ, ◌+◌, ◌≤◌}
use native.Mathlib.Omega.{arith}
use lib.ListN.{length, take, drop}
use Rattle.lists.proofs.Cuts.{cut-equal}
use Rattle.pool.specs.Words.{Moved}

-- after a move, the stretch is the one that was moved
pub cut_moved : {from to many : ℕ} {p q : List ℕ} → Moved from to many p q → from + many ≤ length p → to + many ≤ length p
    → take many (drop to q) ≡ take many (drop from p)
cut_moved {from} {to} {many} {p} {q} m here there =
    cut-equal p q from to many here (omega (arith, m.same.long)) m.copied
