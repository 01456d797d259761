-- What stores of one entry of a branch leave.
use Rattle.std.specs.Prelude.{◌≡◌, List, ℕ, ◌+◌, ◌-◌, ◌*◌, ◌<◌, get_or}
use Rattle.geometry.specs.Layout.{entry_size, word_size}
use Rattle.geometry.specs.Limits.{most_alphabet}
use Rattle.pool.specs.Blocks.{entry_at, link, marks_below, count_below}
use Rattle.pool.specs.Bytes.{word}
use Rattle.pool.specs.Changes.{Outside}
use Rattle.pool_entries.specs.declared.Summary.{Summary}

-- the words of so many symbols' counts, from an address on
pub record PutCounts (at many : ℕ) (counts before after : List ℕ) : Type 0 where
  pub same : Outside at (word_size * many) before after
  pub put : (c : ℕ) → c < many → word after (at + word_size * c) ≡ get_or counts c 0

-- entry k is this child with this summary, and the bytes outside it are as before
pub record PutEntry (b k child : ℕ) (summary : Summary) (before after : List ℕ) : Type 0 where
  pub same : Outside (entry_at b k) entry_size before after
  pub link : link after b k ≡ child
  pub marks : marks_below after b k ≡ summary.marks
  pub counts : (c : ℕ) → c < most_alphabet → count_below after b k c ≡ get_or summary.counts c 0

-- entry k says so many marks and so many c; what else it says and the bytes outside it are as before
pub record PutMark (b k c all_marks all_of_c : ℕ) (before after : List ℕ) : Type 0 where
  pub same : Outside (entry_at b k) entry_size before after
  pub link : link after b k ≡ link before b k
  pub marks : marks_below after b k ≡ all_marks
  pub count : count_below after b k c ≡ all_of_c
  pub others : (d : ℕ) → d < most_alphabet → (d ≡ c → ⊥) → count_below after b k d ≡ count_below before b k d

-- one more mark below child k, a c
abbrev pub AddMark : ℕ → ℕ → ℕ → List ℕ → List ℕ → Type 0
AddMark b k c before after = PutMark b k c (marks_below before b k + 1) (count_below before b k c + 1) before after

-- one mark less below child k, a c
abbrev pub TakeMark : ℕ → ℕ → ℕ → List ℕ → List ℕ → Type 0
TakeMark b k c before after = PutMark b k c (marks_below before b k - 1) (count_below before b k c - 1) before after
