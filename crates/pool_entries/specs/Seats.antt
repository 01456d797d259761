-- The choice of a child.
use Rattle.std.specs.Prelude.{◌≡◌, ℕ, suc, ◌+◌, ◌≤◌, ◌<◌}
use Rattle.lists.specs.Sums.{sum_below}
use Rattle.pool_entries.specs.declared.Seat.{Seat}

-- the child that takes i, of so many children that m measures: those before it add up to less than i, and with it to i at least; the
-- first takes 0, and the last all that is left
pub record Seated (m : ℕ → ℕ) (many i : ℕ) (r : Seat) : Type 0 where
  pub inside : r.k < many
  pub sum : r.before ≡ sum_below r.k m
  pub past : 0 < r.k → r.before < i
  pub reach : suc r.k < many → i ≤ r.before + m r.k
