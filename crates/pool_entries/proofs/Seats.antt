-- What the choice of a child says of what stands before the child, and of what is left of the place in it.
use mathlib.Core.Path.{◌≡◌}
use Prim.Native.Nat.{ℕ, zero, suc, ◌-◌, ◌≤◌, ◌<◌}
use native.Mathlib.Omega.{arith}
use Rattle.geometry.specs.Layout.{most_branch}
use Rattle.lists.specs.Sums.{sum_below}
use Rattle.pool_entries.specs.Seats.{Seated}
use Rattle.pool_entries.specs.declared.Seat.{Seat}

-- what stands before the child that takes i is at most i
pub seated-before : (m : ℕ → ℕ) (many i : ℕ) (r : Seat) → Seated m many i r → r.before ≤ i
unfolding sum_below
seated-before m many i r seated = go r.k seated.sum seated.past
  where
    go : (k : ℕ) → r.before ≡ sum_below k m → (0 < k → r.before < i) → r.before ≤ i
    go zero sum past = omega arith
    go (suc k) sum past = omega (arith, past (omega arith))

-- and below a number that isn't 0, so that some of it is left
pub seated-left : (m : ℕ → ℕ) (many i : ℕ) (r : Seat) → Seated m many i r → 1 ≤ i → 1 ≤ i - r.before
unfolding sum_below
seated-left m many i r seated one = go r.k seated.sum seated.past
  where
    go : (k : ℕ) → r.before ≡ sum_below k m → (0 < k → r.before < i) → 1 ≤ i - r.before
    go zero sum past = omega arith
    go (suc k) sum past = omega (arith, past (omega arith))

-- the child is one of the most that there are
pub seated-low : (m : ℕ → ℕ) (many i : ℕ) (r : Seat) → Seated m many i r → many ≤ most_branch → r.k < most_branch
seated-low m many i r seated most = omega (arith, seated.inside)

-- and as many at most stand before it
pub seated-few : (m : ℕ → ℕ) (many i : ℕ) (r : Seat) → Seated m many i r → many ≤ most_branch → r.k ≤ most_branch
seated-few m many i r seated most = omega (arith, seated.inside)
