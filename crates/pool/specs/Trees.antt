-- What stands below a block of a level: its shape, its blocks, the way down to a place, and what its own bytes say of its marks.
use Rattle.std.specs.Prelude.{List, [], ◌∷◌, map, ℕ, zero, suc, ◌<◌, length}
use Rattle.lists.specs.Joins.{joined}
use Rattle.lists.specs.Sums.{sum_below}
use Rattle.sequence.specs.Definition1.{count}
use Rattle.shape.specs.Nested.{Node}
use Rattle.shape.specs.Paths.{path}
use Rattle.shape.specs.Trees.{Tree}
use Rattle.pool.specs.Blocks.{entries, leaf_marks, link, marks_below, count_below, children}

-- the shape of the tree at a block of level h
abbrev pub shape_at : List ℕ → (h : ℕ) → ℕ → Node h
shape_at p zero b = leaf_marks p b
shape_at p (suc h) b = map (shape_at p h) (children p b)

-- that tree, with its height
abbrev pub tree_at : List ℕ → ℕ → ℕ → Tree
tree_at p h b = record { height = h; root = shape_at p h b }

-- its blocks, itself first
abbrev pub blocks_at : List ℕ → ℕ → ℕ → List ℕ
blocks_at p zero b = b ∷ []
blocks_at p (suc h) b = b ∷ joined (blocks_at p h) (children p b)

-- numbers of children from a block of level h down to a leaf
abbrev pub Way : List ℕ → ℕ → ℕ → List ℕ → Type 0
Way p zero b [] = Unit {0}
Way p zero b (k ∷ ks) = ⊥
Way p (suc h) b [] = ⊥
Way p (suc h) b (k ∷ ks) = (k < entries p b) × Way p h (link p b k) ks

-- the blocks entered on the way down by these numbers of children
abbrev pub entered : List ℕ → ℕ → List ℕ → List ℕ
entered p b [] = b ∷ []
entered p b (k ∷ ks) = b ∷ entered p (link p b k) ks

-- the blocks from this one to the leaf that bears place i
abbrev pub path_at : List ℕ → ℕ → ℕ → ℕ → List ℕ
path_at p h i b = entered p b (path length h i (shape_at p h b))

-- how many marks a block says it has: a leaf by its size, a branch by its entries
abbrev pub own_marks : List ℕ → ℕ → ℕ → ℕ
own_marks p zero b = entries p b
own_marks p (suc h) b = sum_below (entries p b) (marks_below p b)

-- how many of them are c
abbrev pub own_count : List ℕ → ℕ → ℕ → ℕ → ℕ
own_count p zero b c = count c (leaf_marks p b)
own_count p (suc h) b c = sum_below (entries p b) (λ k. count_below p b k c)
