-- A delete in a whole tree: what it leaves. A root with one child gives way to it.
use Rattle.std.specs.Prelude.{◌≡◌, List, ℕ, ◌+◌, ◌≤◌}
use Rattle.geometry.specs.Limits.{most_alphabet}
use Rattle.sequence.specs.Definition1.{count, access}
use Rattle.shape.specs.Fill.{root_least}
use Rattle.shape.specs.Sizes.{one_to_a_byte}
use Rattle.shape.specs.Trees.{marks_t, delete_t}
use Rattle.pool.specs.Changes.{Only}
use Rattle.pool.specs.Sound.{SoundBlock, SoundBelow}
use Rattle.pool.specs.Trees.{tree_at, blocks_at}
use Rattle.pool_holders.specs.Maps.{is_free, Freed}
use Rattle.tree_delete.specs.declared.tree.Removed.{Removed}

-- place i was taken out: p and m are the pool and the map before, q and n after
pub record TreeDeleted (h b i : ℕ) (r : Removed) (p q m n : List ℕ) : Type 0 where
  -- the mark that stood there
  pub taken : r.mark ≡ access (marks_t (tree_at p h b)) i
  pub tree : tree_at q r.tree.level r.tree.root ≡ delete_t one_to_a_byte i (tree_at p h b)
  pub block : SoundBlock q (root_least r.tree.level) r.tree.level r.tree.root
  pub below : SoundBelow q most_alphabet r.tree.level r.tree.root
  -- a block that left the tree is free, and no other
  pub blocks : (x : ℕ) → count x (blocks_at q r.tree.level r.tree.root) + is_free n x ≡ count x (blocks_at p h b) + is_free m x
  -- no block changed but the tree's, and no byte of the directory
  pub only : Only (λ y. 1 ≤ count y (blocks_at p h b)) p q
  -- the map has the blocks freed, and is otherwise as before
  pub freed : Freed m n
