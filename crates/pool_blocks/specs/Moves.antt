-- What the moves of entries leave, said of the bytes of all entries in a row.
use Rattle.std.specs.Prelude.{◌≡◌, List, ◌++◌, ◌⊎◌, ℕ, ◌+◌, ◌-◌, ◌*◌, ◌/◌, take, drop}
use Rattle.geometry.specs.Layout.{form_at, form_marks}
use Rattle.geometry.specs.Limits.{block_size}
use Rattle.pool.specs.Blocks.{form_of, entries}
use Rattle.pool.specs.Bytes.{block_at}
use Rattle.pool.specs.Changes.{Outside, Only}
use Rattle.pool_blocks.specs.Contents.{contents}

-- a block says how many entries it has, and that their marks stand one to a byte
pub record PutTrailer (b put : ℕ) (before after : List ℕ) : Type 0 where
  pub same : Outside (block_at b + form_at) (block_size - form_at) before after
  pub form : form_of after b ≡ form_marks
  pub many : entries after b ≡ put

-- the block has no entry
pub record Emptied (b : ℕ) (before after : List ℕ) : Type 0 where
  pub only : Only (λ x. x ≡ b) before after
  pub form : form_of after b ≡ form_marks
  pub many : entries after b ≡ 0

-- one entry more, at number k: the entries from k on are moved up, and what stands in the gap is free
pub record Opened (unit b k : ℕ) (before after : List ℕ) : Type 0 where
  pub only : Only (λ x. x ≡ b) before after
  pub form : form_of after b ≡ form_of before b
  pub many : entries after b ≡ entries before b + 1
  pub bytes :
      contents unit after b
      ≡ take (unit * k) (contents unit before b)
      ++ (take unit (drop (block_at b + unit * k) after) ++ drop (unit * k) (contents unit before b))

-- one entry fewer: the entries behind number k are moved down
pub record Closed (unit b k : ℕ) (before after : List ℕ) : Type 0 where
  pub only : Only (λ x. x ≡ b) before after
  pub form : form_of after b ≡ form_of before b
  pub many : entries after b ≡ entries before b - 1
  pub bytes : contents unit after b ≡ take (unit * k) (contents unit before b) ++ drop (unit * k + unit) (contents unit before b)

-- the entries from number at on stand in another block
pub record CutOff (unit b new at : ℕ) (before after : List ℕ) : Type 0 where
  pub only : Only (λ x. (x ≡ b) ⊎ (x ≡ new)) before after
  pub form : form_of after b ≡ form_of before b
  pub many : entries after b ≡ at
  pub bytes : contents unit after b ≡ take (unit * at) (contents unit before b)
  pub new_form : form_of after new ≡ form_marks
  pub new_many : entries after new ≡ entries before b - at
  pub new_bytes : contents unit after new ≡ drop (unit * at) (contents unit before b)

-- the right block's entries stand behind the left block's
pub record Joined (unit left right : ℕ) (before after : List ℕ) : Type 0 where
  pub only : Only (λ x. x ≡ left) before after
  pub form : form_of after left ≡ form_of before left
  pub many : entries after left ≡ entries before left + entries before right
  pub bytes : contents unit after left ≡ contents unit before left ++ contents unit before right

-- the bytes of two blocks' entries, moved so that the left block has the first so many entries; their numbers aren't said yet
pub record Refilled (unit left right many : ℕ) (before after : List ℕ) : Type 0 where
  pub only : Only (λ x. (x ≡ left) ⊎ (x ≡ right)) before after
  pub left_form : form_of after left ≡ form_of before left
  pub right_form : form_of after right ≡ form_of before right
  pub left_bytes :
      take (unit * many) (drop (block_at left) after)
      ≡ take (unit * many) (contents unit before left ++ contents unit before right)
  pub right_bytes :
      take (unit * (entries before left + entries before right - many)) (drop (block_at right) after)
      ≡ drop (unit * many) (contents unit before left ++ contents unit before right)

-- the entries of two blocks, cut anew: the left one has so many of them
pub record Recut (unit left right many : ℕ) (before after : List ℕ) : Type 0 where
  pub only : Only (λ x. (x ≡ left) ⊎ (x ≡ right)) before after
  pub left_form : form_of after left ≡ form_of before left
  pub left_many : entries after left ≡ many
  pub left_bytes : contents unit after left ≡ take (unit * many) (contents unit before left ++ contents unit before right)
  pub right_form : form_of after right ≡ form_of before right
  pub right_many : entries after right ≡ entries before left + entries before right - many
  pub right_bytes : contents unit after right ≡ drop (unit * many) (contents unit before left ++ contents unit before right)

-- half of them
abbrev pub SharedOut : ℕ → ℕ → ℕ → List ℕ → List ℕ → Type 0
SharedOut unit left right before after = Recut unit left right ((entries before left + entries before right) / 2) before after
