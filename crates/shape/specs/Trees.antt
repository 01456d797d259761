-- Insert and delete, at a level and at the root.
use Rattle.std.specs.Prelude.{List, [], ◌∷◌, ℕ, zero, suc}
use Rattle.sequence.specs.Definition1.{insert, delete}
use Rattle.shape.specs.Nested.{Node, flat, marks_in}
use Rattle.shape.specs.Sizes.{Sizes, least, most}
use Rattle.shape.specs.Level.{chop, mend, in_child}

-- the pieces, one or two, of a node of level h after c is inserted at place i
unfoldable pub insert_node : Sizes → ℕ → (h : ℕ) → ℕ → Node h → List (Node h)
insert_node s c zero i x = chop (most s zero) (insert c i x)
insert_node s c (suc h) i x = chop (most s (suc h)) (in_child (marks_in h) (insert_node s c h) i x)

-- a node of level h after place i is taken out, perhaps one entry short
unfoldable pub delete_node : Sizes → (h : ℕ) → ℕ → Node h → Node h
delete_node s zero i x = delete i x
delete_node s (suc h) i x = mend (least s h) (most s h) (in_child (marks_in h) (λ j y. delete_node s h j y ∷ []) i x)

-- a tree: the root's level and the root
pub record Tree : Type 0 where
  pub height : ℕ
  pub root : Node height

-- the tree with no mark: one empty leaf
abbrev pub empty_t : Tree
empty_t = record { height = 0; root = [] }

-- a tree's marks
abbrev pub marks_t : Tree → List ℕ
marks_t t = flat t.height t.root

-- the tree over the pieces of a root: a new root above them where there are two
unfoldable pub grown : (h : ℕ) → List (Node h) → Tree
grown h [] = record { height = h; root = [] }
grown h (x ∷ []) = record { height = h; root = x }
grown h (x ∷ y ∷ ys) = record { height = suc h; root = x ∷ y ∷ ys }

-- the tree under a root that lost marks: a branch with one child gives way to it
unfoldable pub shrunk : (h : ℕ) → Node h → Tree
shrunk zero x = record { height = zero; root = x }
shrunk (suc h) [] = record { height = suc h; root = [] }
shrunk (suc h) (x ∷ []) = record { height = h; root = x }
shrunk (suc h) (x ∷ y ∷ ys) = record { height = suc h; root = x ∷ y ∷ ys }

-- a tree after c is inserted at place i
unfoldable pub insert_t : Sizes → ℕ → ℕ → Tree → Tree
insert_t s c i t = grown t.height (insert_node s c t.height i t.root)

-- a tree after place i is taken out
unfoldable pub delete_t : Sizes → ℕ → Tree → Tree
delete_t s i t = shrunk t.height (delete_node s t.height i t.root)
