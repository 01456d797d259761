-- Nested lists of one depth, which is all that a tree is: a node is a list, and all leaves stand at level 0.
use Rattle.std.specs.Prelude.{List, ℕ, zero, suc, length}
use Rattle.lists.specs.Joins.{joined}

-- what a node of level h is a list of: marks in a leaf, nodes of the level below in a branch
abbrev pub Item : ℕ → Type 0
Item zero = ℕ
Item (suc h) = List (Item h)

-- a node of level h, which is an item of the level above
abbrev pub Node : ℕ → Type 0
Node h = List (Item h)

-- the marks of a node, from left to right
abbrev pub flat : (h : ℕ) → Node h → List ℕ
flat zero x = x
flat (suc h) x = joined (flat h) x

-- how many marks a node bears
abbrev pub marks_in : (h : ℕ) → Node h → ℕ
marks_in h x = length (flat h x)
