-- The entries of a block as bytes: all of them in a row, and those of a branch one by one.
use Rattle.std.specs.Prelude.{◌≡◌, List, ℕ, zero, suc, ◌+◌, ◌*◌, ◌≤◌, ◌<◌, take, drop}
use Rattle.geometry.specs.Layout.{form_at, entry_size, entry_marks_at, entry_counts_at, word_size, most_leaf, most_branch}
use Rattle.lists.specs.Froms.{from}
use Rattle.pool.specs.Blocks.{entries, entry_at}
use Rattle.pool.specs.Bytes.{word, shares, block_at}

-- the bytes of a block's entries, unit bytes each: 1 in a leaf, an entry's size in a branch
unfoldable pub contents : ℕ → List ℕ → ℕ → List ℕ
contents unit p b = take (unit * entries p b) (drop (block_at b) p)

-- how many bytes an entry of a block of a level takes
abbrev pub unit_of : ℕ → ℕ
unit_of zero = 1
unit_of (suc h) = entry_size

-- the bytes of entry k of a branch
abbrev pub entry_bytes : List ℕ → ℕ → ℕ → List ℕ
entry_bytes p b k = take entry_size (drop (entry_at b k) p)

-- a branch's entries in turn
unfoldable pub entry_list : List ℕ → ℕ → List (List ℕ)
entry_list p b = from (entry_bytes p b) 0 (entries p b)

-- what an entry's bytes say: the child's block, the marks below it, and how many of them are c
abbrev pub link_in : List ℕ → ℕ
link_in entry = word entry 0

abbrev pub below_in : List ℕ → ℕ
below_in entry = word entry entry_marks_at

abbrev pub count_in : List ℕ → ℕ → ℕ
count_in entry c = word entry (entry_counts_at + word_size * c)

-- so many entries, unit bytes each, stand before a block's form
pub record Room (unit many : ℕ) : Type 0 where
  pub few : many ≤ form_at
  pub fits : unit * many ≤ form_at

-- so many entries of a block, from number i on, and room for them in another, from number j on
pub record Movable (p : List ℕ) (unit from i to j many : ℕ) : Type 0 where
  pub from_inside : from < shares p
  pub to_inside : to < shares p
  pub stand : Room unit (i + many)
  pub fit : Room unit (j + many)

-- two blocks of the pool
pub record Apart (p : List ℕ) (left right : ℕ) : Type 0 where
  pub left_inside : left < shares p
  pub right_inside : right < shares p
  pub apart : left ≡ right → ⊥

-- with so many entries
pub record Counted (p : List ℕ) (left right here there : ℕ) : Type 0 where
  pub blocks : Apart p left right
  pub left_many : here ≡ entries p left
  pub right_many : there ≡ entries p right

-- a block of the pool with no more entries than so many
pub record NodeAt (most : ℕ) (p : List ℕ) (b : ℕ) : Type 0 where
  pub inside : b < shares p
  pub fits : entries p b ≤ most

-- than a leaf has
abbrev pub LeafAt : List ℕ → ℕ → Type 0
LeafAt p b = NodeAt most_leaf p b

-- than a branch has
abbrev pub BranchAt : List ℕ → ℕ → Type 0
BranchAt p b = NodeAt most_branch p b
