-- The definitions compute: a leaf that is full splits at the next insert, and a delete brings the one leaf back.
use mathlib.Core.Path.{◌≡◌, refl}
use Prim.Native.Nat.{ℕ, zero, suc, ◌+◌}
use Rattle.geometry.specs.Layout.{most_leaf}
use Rattle.sequence.specs.Definition1.{insert, delete}
use Rattle.shape.specs.Sizes.{one_to_a_byte}
use Rattle.shape.specs.Level.{halves, chop, mend, seat, rest, chosen, in_child}
use Rattle.shape.specs.Trees.{Tree, empty_t, insert_node, delete_node, grown, shrunk, insert_t, delete_t}
use Rattle.shape.specs.Blocks.{blocks_t}
use Rattle.shape.specs.Paths.{path, depth_t}

-- a tree of n marks, each inserted in front
unfoldable pub filled_with : ℕ → Tree
filled_with zero = empty_t
filled_with (suc n) = insert_t one_to_a_byte 0 1 (filled_with n)

pub full-leaf : blocks_t (filled_with most_leaf) ≡ 1
unfolding filled_with insert_t insert_node grown insert halves chop
full-leaf = refl

pub one_more : depth_t 1 (filled_with (most_leaf + 1)) ≡ 2
unfolding filled_with insert_t insert_node grown insert halves chop path
one_more = refl

pub one_less : blocks_t (delete_t one_to_a_byte 1 (filled_with (most_leaf + 1))) ≡ 1
unfolding filled_with insert_t insert_node grown insert halves chop delete_t delete_node shrunk delete mend in_child seat rest chosen
one_less = refl
