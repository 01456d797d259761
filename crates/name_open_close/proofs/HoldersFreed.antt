-- The loop that frees a holder's blocks: those passed are done, and those ahead are as they were.
use mathlib.Core.Path.{◌≡◌}
use mathlib.Core.List.{List}
use Prim.Native.Nat.{ℕ, ◌≤◌, ◌<◌}
use lib.ListN.{length, get_or}

-- the holder's blocks below `passed` are free, and nothing else changed
pub record FreedBelow (holder passed : ℕ) (m n : List ℕ) : Type 0 where
  pub long : length n ≡ length m
  pub freed : (b : ℕ) → b < passed → get_or m b 0 ≡ holder → get_or n b 0 ≡ 0
  pub others : (b : ℕ) → (get_or m b 0 ≡ holder → ⊥) → get_or n b 0 ≡ get_or m b 0
  pub ahead : (b : ℕ) → passed ≤ b → get_or n b 0 ≡ get_or m b 0
