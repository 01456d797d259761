-- How full nodes are.
use Rattle.std.specs.Prelude.{List, [], ◌∷◌, ℕ, zero, suc, ◌≤◌, length}
use Rattle.lists.specs.Items.{All}
use Rattle.shape.specs.Nested.{Node}
use Rattle.shape.specs.Sizes.{Sizes, least, most}
use Rattle.shape.specs.Trees.{Tree}

-- n is between two numbers, both counted
pub record Within (low high n : ℕ) : Type 0 where
  pub enough : low ≤ n
  pub fits : n ≤ high

-- every node below this one has least to most entries
abbrev pub FilledBelow : Sizes → (h : ℕ) → Node h → Type 0
FilledBelow s zero x = Unit {0}
FilledBelow s (suc h) x = All (λ y. Within (least s h) (most s h) (length y) × FilledBelow s h y) x

-- the same, and this node has between m and the most entries
abbrev pub FilledFrom : Sizes → ℕ → (h : ℕ) → Node h → Type 0
FilledFrom s m h x = Within m (most s h) (length x) × FilledBelow s h x

-- a node that is no root is filled
abbrev pub Filled : Sizes → (h : ℕ) → Node h → Type 0
Filled s h x = FilledFrom s (least s h) h x

-- entries of a root at least: a leaf may be empty, a branch has two children
abbrev pub root_least : ℕ → ℕ
root_least zero = 0
root_least (suc h) = 2

-- a tree is filled
abbrev pub FilledT : Sizes → Tree → Type 0
FilledT s t = FilledFrom s (root_least t.height) t.height t.root

-- pieces of a node are filled: one of m entries or more, or two that are filled each
abbrev pub FilledPieces : Sizes → ℕ → (h : ℕ) → List (Node h) → Type 0
FilledPieces s m h [] = ⊥
FilledPieces s m h (x ∷ []) = FilledFrom s m h x
FilledPieces s m h (x ∷ y ∷ []) = Filled s h x × Filled s h y
FilledPieces s m h (x ∷ y ∷ z ∷ zs) = ⊥
