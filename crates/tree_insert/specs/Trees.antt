-- An insert in a whole tree: what it needs, and what it leaves. The root may be split, and then there is a new one above it.
use Rattle.std.specs.Prelude.{◌≡◌, List, ℕ, ◌+◌, ◌-◌, ◌≤◌}
use Rattle.geometry.specs.Layout.{most_height}
use Rattle.geometry.specs.Limits.{most_alphabet}
use Rattle.sequence.specs.Definition1.{count}
use Rattle.shape.specs.Blocks.{splits_t}
use Rattle.shape.specs.Fill.{root_least}
use Rattle.shape.specs.Sizes.{one_to_a_byte}
use Rattle.shape.specs.Trees.{insert_t}
use Rattle.pool.specs.Changes.{Only}
use Rattle.pool.specs.Sound.{SoundBlock, SoundBelow}
use Rattle.pool.specs.Trees.{tree_at, blocks_at, path_at}
use Rattle.pool_holders.specs.Maps.{is_free, free_in, Entered}
use Rattle.tree_splits.specs.Inserts.{InsertReady}
use Rattle.tree_splits.specs.declared.Rooted.{Rooted}

-- a mark c can be put in at place i: there are as many free blocks as the insert adds to the tree, and no more are asked for
pub record TreeReady (p m : List ℕ) (h b i c holder : ℕ) : Type 0 where
  pub node : InsertReady p m h b i c holder
  pub height : h ≤ most_height
  pub room : splits_t one_to_a_byte i (tree_at p h b) ≤ free_in m

-- it was put in: p and m are the pool and the map before, q and n after
pub record TreeInserted (h b i c holder : ℕ) (r : Rooted) (p q m n : List ℕ) : Type 0 where
  pub tree : tree_at q r.level r.root ≡ insert_t one_to_a_byte c i (tree_at p h b)
  pub block : SoundBlock q (root_least r.level) r.level r.root
  pub below : SoundBelow q most_alphabet r.level r.root
  -- its blocks are those that it had and those taken, which are no longer free
  pub blocks : (x : ℕ) → count x (blocks_at q r.level r.root) + is_free n x ≡ count x (blocks_at p h b) + is_free m x
  -- no block changed but those of the path to the place and those taken
  pub only : Only (λ x. 1 ≤ count x (path_at p h i b) + (is_free m x - is_free n x)) p q
  -- the map has the blocks taken, one for each node that split and one for a new root, and is otherwise as before
  pub entered : Entered holder m n
  pub took : free_in m ≡ free_in n + splits_t one_to_a_byte i (tree_at p h b)
