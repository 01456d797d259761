-- A delete at a block of any level: what it needs, and what it leaves, whether it joined nodes, shared them out or did neither.
use Rattle.std.specs.Prelude.{◌≡◌, List, ℕ, ◌+◌, ◌-◌, ◌≤◌, ◌<◌}
use Rattle.geometry.specs.Limits.{most_alphabet}
use Rattle.sequence.specs.Definition1.{count, access}
use Rattle.shape.specs.Fill.{root_least}
use Rattle.shape.specs.Nested.{Node, flat, marks_in}
use Rattle.shape.specs.Sizes.{one_to_a_byte}
use Rattle.shape.specs.Trees.{delete_node}
use Rattle.pool.specs.Blocks.{entries}
use Rattle.pool.specs.Changes.{Only}
use Rattle.pool.specs.Sound.{SoundBlock, SoundBelow}
use Rattle.pool.specs.Trees.{shape_at, blocks_at}
use Rattle.pool.specs.Words.{word_limit}
use Rattle.pool_holders.specs.Maps.{MapFits, is_free, Agrees, Freed}

-- place i can be taken out of the tree at block b: the tree is sound and the map has its blocks as held, and the place is there
pub record DeleteReady (p m : List ℕ) (h b i : ℕ) : Type 0 where
  pub map : MapFits p m
  pub block : SoundBlock p (root_least h) h b
  pub below : SoundBelow p most_alphabet h b
  pub agrees : Agrees m (blocks_at p h b)
  pub first : 1 ≤ i
  pub last : i ≤ marks_in h (shape_at p h b)
  pub short : marks_in h (shape_at p h b) < word_limit

-- the tree at block b has this shape now: p and m are the pool and the map before, q and n after
pub record Becomes (h b : ℕ) (x : Node h) (p q m n : List ℕ) : Type 0 where
  pub shape : shape_at q h b ≡ x
  -- it is sound, with one entry less than before at least
  pub block : SoundBlock q (entries p b - 1) h b
  pub below : SoundBelow q most_alphabet h b
  -- a block that left the tree is free, and no other
  pub blocks : (y : ℕ) → count y (blocks_at q h b) + is_free n y ≡ count y (blocks_at p h b) + is_free m y
  -- no block changed but the tree's, and no byte of the directory
  pub only : Only (λ y. 1 ≤ count y (blocks_at p h b)) p q
  -- the map has the blocks freed, and is otherwise as before
  pub freed : Freed m n

-- place i was taken out, and r is the mark that stood there
pub record Deleted (h b i r : ℕ) (p q m n : List ℕ) : Type 0 where
  pub taken : r ≡ access (flat h (shape_at p h b)) i
  pub tree : Becomes h b (delete_node one_to_a_byte h i (shape_at p h b)) p q m n
