-- An insert at a block of any level: what it needs, and what it leaves, whether it split the block or not.
use Rattle.std.specs.Prelude.{◌≡◌, List, [], ◌∷◌, map, ◌⊎◌, ℕ, zero, ◌+◌, ◌-◌, ◌≤◌, ◌<◌, Option, None, Some}
use Rattle.geometry.specs.Layout.{form_marks, least_leaf}
use Rattle.geometry.specs.Limits.{most_alphabet}
use Rattle.lists.specs.Items.{All}
use Rattle.lists.specs.Joins.{joined}
use Rattle.sequence.specs.Definition1.{count}
use Rattle.shape.specs.Blocks.{splits}
use Rattle.shape.specs.Fill.{root_least}
use Rattle.shape.specs.Nested.{marks_in}
use Rattle.shape.specs.Sizes.{one_to_a_byte, least}
use Rattle.shape.specs.Trees.{insert_node}
use Rattle.pool.specs.Blocks.{form_of, entries, leaf_marks}
use Rattle.pool.specs.Changes.{Only}
use Rattle.pool.specs.Sound.{SoundBlock, SoundBelow}
use Rattle.pool.specs.Trees.{shape_at, blocks_at, path_at}
use Rattle.pool.specs.Words.{word_limit}
use Rattle.pool_holders.specs.Maps.{MapFits, is_free, free_in, Agrees, Entered}

-- the roots of the trees that an edit of block b leaves: b, and the new block behind it where b was split
abbrev pub roots : Option ℕ → ℕ → List ℕ
roots None b = b ∷ []
roots (Some new) b = b ∷ new ∷ []

-- how many blocks that is more than before
abbrev pub added : Option ℕ → ℕ
added None = 0
added (Some new) = 1

-- the entries that each of them has at least: as many as b had, or those that the halves of a full node have
abbrev pub least_after : Option ℕ → ℕ → ℕ → ℕ
least_after None h before = before
least_after (Some new) h before = least one_to_a_byte h

-- a mark c can be put in at place i of the tree at block b: the tree is sound and the map has its blocks as held, the place is there,
-- and there are as many free blocks as nodes will split
pub record InsertReady (p m : List ℕ) (h b i c holder : ℕ) : Type 0 where
  pub map : MapFits p m
  pub named : 0 < holder
  pub block : SoundBlock p (root_least h) h b
  pub below : SoundBelow p most_alphabet h b
  pub agrees : Agrees m (blocks_at p h b)
  pub first : 1 ≤ i
  pub last : i ≤ marks_in h (shape_at p h b) + 1
  pub symbol : c < most_alphabet
  pub short : marks_in h (shape_at p h b) + 1 < word_limit
  pub room : splits one_to_a_byte h i (shape_at p h b) ≤ free_in m

-- it was put in: p and m are the pool and the map before, q and n after
pub record Inserted (h b i c holder : ℕ) (r : Option ℕ) (p q m n : List ℕ) : Type 0 where
  -- the trees are the pieces that the shape function makes
  pub shapes : map (shape_at q h) (roots r b) ≡ insert_node one_to_a_byte c h i (shape_at p h b)
  -- each is sound
  pub sound : All (λ x. SoundBlock q (least_after r h (entries p b)) h x × SoundBelow q most_alphabet h x) (roots r b)
  -- their blocks are those that the tree had and those taken, which are no longer free
  pub blocks : (x : ℕ) → count x (joined (blocks_at q h) (roots r b)) + is_free n x ≡ count x (blocks_at p h b) + is_free m x
  -- no block changed but those of the path to the place and those taken
  pub only : Only (λ x. 1 ≤ count x (path_at p h i b) + (is_free m x - is_free n x)) p q
  -- the map has the blocks taken, one for each node that split, and is otherwise as before
  pub entered : Entered holder m n
  pub took : free_in m ≡ free_in n + splits one_to_a_byte h i (shape_at p h b)

-- a full leaf was split, and c put in at place i
pub record LeafSplit (b new i c : ℕ) (p q : List ℕ) : Type 0 where
  pub only : Only (λ x. (x ≡ b) ⊎ (x ≡ new)) p q
  pub marks : leaf_marks q b ∷ leaf_marks q new ∷ [] ≡ insert_node one_to_a_byte c zero i (leaf_marks p b)
  pub form : form_of q b ≡ form_of p b
  pub many : entries q b ≡ least_leaf
  pub new_form : form_of q new ≡ form_marks
  pub new_many : entries q new ≡ least_leaf
