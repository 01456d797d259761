-- The summary of a block: what its own bytes say of its marks.
use Rattle.std.specs.Prelude.{◌≡◌, List, ℕ, ◌+◌, ◌<◌, get_or}
use Rattle.geometry.specs.Limits.{most_alphabet}
use Rattle.pool.specs.Blocks.{entry_at}
use Rattle.pool.specs.Bytes.{word}
use Rattle.pool.specs.Trees.{own_marks, own_count}
use Rattle.pool.specs.Words.{word_limit}
use Rattle.pool_entries.specs.declared.Summary.{Summary}

-- what was read is this value, and fits a word
pub record Is (value r : ℕ) : Type 0 where
  pub is : r ≡ value
  pub small : r < word_limit

-- the word that entry k of a branch has at an offset
abbrev pub words_at : List ℕ → ℕ → ℕ → ℕ → ℕ
words_at p b offset k = word p (entry_at b k + offset)

-- the summary of a block of level h
pub record SummaryOf (p : List ℕ) (h b : ℕ) (r : Summary) : Type 0 where
  pub marks : r.marks ≡ own_marks p h b
  pub counts : (c : ℕ) → c < most_alphabet → get_or r.counts c 0 ≡ own_count p h b c

-- what a block says of its marks fits words
pub record SmallSums (p : List ℕ) (h b : ℕ) : Type 0 where
  pub marks : own_marks p h b < word_limit
  pub counts : (c : ℕ) → c < most_alphabet → own_count p h b c < word_limit
