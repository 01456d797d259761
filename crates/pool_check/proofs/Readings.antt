-- Reading the map: a block is held just where the map has a number other than 0, and then by the name below that number.
use mathlib.Core.Bool.{false}
use mathlib.Core.List.{List}
use mathlib.Core.Logic.{⊎_elim}
use mathlib.Core.Path.{◌≡◌}
use Prim.Native.Nat.{ℕ, ◌+◌, ◌≤◌, ◌<◌}
use native.Mathlib.Nat.{eq-zero-or-pos}
use native.Mathlib.Omega.{arith}
use borrow.Author.Tests.{lt-leb}
use lib.ListN.{get_or}
use Rattle.geometry.specs.Limits.{names}
use Rattle.lists.proofs.Sums.{sum_below-some}
use Rattle.pool.specs.Bytes.{shares}
use Rattle.pool.specs.Names.{blocks_of, held_blocks}
use Rattle.pool.specs.Shares.{is_held}
use Rattle.sequence.specs.Definition1.{count}
use Rattle.pool_holders.specs.Maps.{MapOf}
use Rattle.pool_check.proofs.Holders.{times-held}

module _ (p map : List ℕ) (is : MapOf p map) (b : ℕ) (low : b < shares p) where
  pub zero-free : get_or map b 0 ≡ 0 → is_held p b ≡ false
  zero-free none =
      ⊎_elim (λ (free : count b (held_blocks p) ≡ 0). lt-leb 1 (count b (held_blocks p)) (omega arith))
      (λ (held : 0 < count b (held_blocks p)).
      sum_below-some names (λ name. count b (blocks_of p name)) (omega (arith, times-held p b))
      (λ name named here. absurd (omega (arith, is.held b name low named here))))
      (eq-zero-or-pos (count b (held_blocks p)))

  pub held_by : (name : ℕ) → name < names → get_or map b 0 ≡ name + 1 → 1 ≤ count b (blocks_of p name)
  held_by name named marked =
      ⊎_elim
      (λ (free : count b (held_blocks p) ≡ 0). absurd (omega (arith, is.free b low (lt-leb 1 (count b (held_blocks p)) (omega arith)))))
      (λ (held : 0 < count b (held_blocks p)).
      sum_below-some names (λ other. count b (blocks_of p other)) (omega (arith, times-held p b))
      (λ other others here. let e : other ≡ name = omega (arith, is.held b other low others here) in rw e at here))
      (eq-zero-or-pos (count b (held_blocks p)))
