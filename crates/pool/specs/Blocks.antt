-- What a block says: its form, its entries, and of a branch each child's block, the marks below it and how many of them are each symbol.
use Rattle.std.specs.Prelude.{List, ℕ, ◌+◌, ◌*◌, take, drop}
use Rattle.geometry.specs.Layout.{form_at, count_at, entry_size, entry_marks_at, entry_counts_at, word_size}
use Rattle.lists.specs.Froms.{from}
use Rattle.pool.specs.Bytes.{byte, word, block_at}

-- the form that a block says of itself
abbrev pub form_of : List ℕ → ℕ → ℕ
form_of p b = byte p (block_at b + form_at)

-- how many entries a block has
abbrev pub entries : List ℕ → ℕ → ℕ
entries p b = word p (block_at b + count_at)

-- a leaf's marks, one to a byte
unfoldable pub leaf_marks : List ℕ → ℕ → List ℕ
leaf_marks p b = take (entries p b) (drop (block_at b) p)

-- where entry k of a branch stands
abbrev pub entry_at : ℕ → ℕ → ℕ
entry_at b k = block_at b + entry_size * k

-- the block of child k
abbrev pub link : List ℕ → ℕ → ℕ → ℕ
link p b k = word p (entry_at b k)

-- how many marks entry k says are below child k
abbrev pub marks_below : List ℕ → ℕ → ℕ → ℕ
marks_below p b k = word p (entry_at b k + entry_marks_at)

-- how many of them it says are c
abbrev pub count_below : List ℕ → ℕ → ℕ → ℕ → ℕ
count_below p b k c = word p (entry_at b k + entry_counts_at + word_size * c)

-- the children's blocks in turn
abbrev pub children : List ℕ → ℕ → List ℕ
children p b = from (link p b) 0 (entries p b)
