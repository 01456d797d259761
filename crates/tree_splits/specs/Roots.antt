-- A new root above the two halves of one that was split.
use Rattle.std.specs.Prelude.{◌≡◌, List, [], ◌∷◌, ℕ, suc, ◌+◌, ◌-◌, ◌≤◌, ◌<◌}
use Rattle.geometry.specs.Layout.{form_marks, least_branch}
use Rattle.geometry.specs.Limits.{most_alphabet}
use Rattle.lists.specs.Joins.{joined}
use Rattle.sequence.specs.Definition1.{count}
use Rattle.shape.specs.Nested.{marks_in}
use Rattle.pool.specs.Blocks.{form_of}
use Rattle.pool.specs.Changes.{Only}
use Rattle.pool.specs.Sound.{SoundBlock, SoundBelow}
use Rattle.pool.specs.Trees.{shape_at, blocks_at}
use Rattle.pool.specs.Words.{word_limit}
use Rattle.pool_blocks.specs.Contents.{entry_list}
use Rattle.pool_entries.specs.declared.Summary.{Summary}
use Rattle.pool_holders.specs.Maps.{MapFits, is_free, free_in, Agrees, Entered}
use Rattle.tree_splits.specs.Entries.{EntryHolds, SoundChild}

-- the block is a branch with these two entries
pub record PairWritten (b left right : ℕ) (first second : Summary) (p q : List ℕ) : Type 0 where
  pub one : List ℕ
  pub two : List ℕ
  pub holds_one : EntryHolds left first one
  pub holds_two : EntryHolds right second two
  pub only : Only (λ x. x ≡ b) p q
  pub form : form_of q b ≡ form_marks
  pub list : entry_list q b ≡ one ∷ two ∷ []

-- two trees of level h can be put under a new root
pub record RootReady (p m : List ℕ) (h left right holder : ℕ) : Type 0 where
  pub map : MapFits p m
  pub named : 0 < holder
  pub left_sound : SoundChild p h left
  pub right_sound : SoundChild p h right
  pub agrees : Agrees m (joined (blocks_at p h) (left ∷ right ∷ []))
  pub short : marks_in h (shape_at p h left) + marks_in h (shape_at p h right) < word_limit
  pub room : 1 ≤ free_in m

-- they stand under the root r, a block that was free, and no other block changed
pub record RootGrown (h left right holder r : ℕ) (p q m n : List ℕ) : Type 0 where
  pub shape : shape_at q (suc h) r ≡ shape_at p h left ∷ shape_at p h right ∷ []
  pub block : SoundBlock q least_branch (suc h) r
  pub below : SoundBelow q most_alphabet (suc h) r
  pub blocks : (x : ℕ) → count x (blocks_at q (suc h) r) + is_free n x ≡ count x (joined (blocks_at p h) (left ∷ right ∷ [])) + is_free m x
  pub only : Only (λ x. 1 ≤ is_free m x - is_free n x) p q
  pub entered : Entered holder m n
  pub took : free_in m ≡ free_in n + 1
