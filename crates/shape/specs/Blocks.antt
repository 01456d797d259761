-- The blocks of a tree, one for each node, and those that an insert adds.
use Rattle.std.specs.Prelude.{Bool, cond, ◌&&◌, ℕ, zero, suc, ◌+◌, leb, length}
use Rattle.lists.specs.Sums.{total}
use Rattle.shape.specs.Nested.{Node, marks_in}
use Rattle.shape.specs.Sizes.{Sizes, most}
use Rattle.shape.specs.Level.{rest, chosen}
use Rattle.shape.specs.Trees.{Tree}

-- nodes below a node
abbrev pub nodes_below : (h : ℕ) → Node h → ℕ
nodes_below zero x = 0
nodes_below (suc h) x = total (λ y. suc (nodes_below h y)) x

-- blocks of a node and all below it
abbrev pub blocks : (h : ℕ) → Node h → ℕ
blocks h x = suc (nodes_below h x)

-- blocks of a tree
abbrev pub blocks_t : Tree → ℕ
blocks_t t = blocks t.height t.root

-- an insert at place i splits this node: every node of the path below it is full, and so is this one
unfoldable pub divides : Sizes → (h : ℕ) → ℕ → Node h → Bool
divides s zero i x = leb (most s zero) (length x)
divides s (suc h) i x = divides s h (rest (marks_in h) i x) (chosen (marks_in h) i x) && leb (most s (suc h)) (length x)

-- how many nodes of the path an insert at place i splits: the full ones from the leaf up
unfoldable pub splits : Sizes → (h : ℕ) → ℕ → Node h → ℕ
splits s zero i x = cond (divides s zero i x) 1 0
splits s (suc h) i x = splits s h (rest (marks_in h) i x) (chosen (marks_in h) i x) + cond (divides s (suc h) i x) 1 0

-- the blocks that an insert at place i adds to a tree: one for each split, one more for a new root
abbrev pub splits_t : Sizes → ℕ → Tree → ℕ
splits_t s i t = splits s t.height i t.root + cond (divides s t.height i t.root) 1 0
