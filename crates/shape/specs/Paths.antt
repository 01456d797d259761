-- The way down to a place, or to what any other measure counts.
use Rattle.std.specs.Prelude.{◌≡◌, List, [], ◌∷◌, ◌++◌, ℕ, zero, suc, ◌+◌, ◌-◌, ◌≤◌, length, get_or, take, drop}
use Rattle.lists.specs.Joins.{joined}
use Rattle.shape.specs.Nested.{Node, flat}
use Rattle.shape.specs.Level.{seat, rest, chosen}
use Rattle.shape.specs.Trees.{Tree}

-- the numbers of the children taken on the way down to j, by the measure g of their marks
unfoldable pub path : (List ℕ → ℕ) → (h : ℕ) → ℕ → Node h → List ℕ
path g zero j x = []
path g (suc h) j x = seat (λ y. g (flat h y)) j x ∷ path g h (rest (λ y. g (flat h y)) j x) (chosen (λ y. g (flat h y)) j x)

-- the leaf at the end of a path
unfoldable pub leaf_at : (h : ℕ) → List ℕ → Node h → List ℕ
leaf_at zero p x = x
leaf_at (suc h) [] x = []
leaf_at (suc h) (k ∷ p) x = leaf_at h p (get_or x k [])

-- the marks left of that leaf
unfoldable pub left_of : (h : ℕ) → List ℕ → Node h → List ℕ
left_of zero p x = []
left_of (suc h) [] x = []
left_of (suc h) (k ∷ p) x = joined (flat h) (take k x) ++ left_of h p (get_or x k [])

-- the marks right of that leaf
unfoldable pub right_of : (h : ℕ) → List ℕ → Node h → List ℕ
right_of zero p x = []
right_of (suc h) [] x = []
right_of (suc h) (k ∷ p) x = right_of h p (get_or x k []) ++ joined (flat h) (drop (suc k) x)

-- the leaf at the end of a path stands between the marks left and right of it, and takes j
pub record Leads (g : List ℕ → ℕ) (h j : ℕ) (p : List ℕ) (x : Node h) : Type 0 where
  pub marks : flat h x ≡ left_of h p x ++ (leaf_at h p x ++ right_of h p x)
  pub past : g (left_of h p x) ≤ j - 1
  pub within : j ≤ g (flat h x) → j ≤ g (left_of h p x) + g (leaf_at h p x)

-- the path to place i of a tree
abbrev pub path_t : ℕ → Tree → List ℕ
path_t i t = path length t.height i t.root

-- the depth of place i: the blocks from the root to the leaf that bears it, both counted
abbrev pub depth_t : ℕ → Tree → ℕ
depth_t i t = suc (length (path_t i t))
