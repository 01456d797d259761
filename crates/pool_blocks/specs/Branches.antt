-- What the edits of branches leave, said of their entries: link, marks below and all counts travel together.
use Rattle.std.specs.Prelude.{◌≡◌, List, ◌∷◌, ◌++◌, ℕ, ◌+◌, ◌-◌, take, drop}
use Rattle.pool.specs.Blocks.{form_of, entries}
use Rattle.pool.specs.Changes.{Only}
use Rattle.pool_blocks.specs.Contents.{entry_bytes, entry_list}

-- one entry more, number k, whose bytes are free
pub record EntryOpened (b k : ℕ) (before after : List ℕ) : Type 0 where
  pub only : Only (λ x. x ≡ b) before after
  pub form : form_of after b ≡ form_of before b
  pub many : entries after b ≡ entries before b + 1
  pub list : entry_list after b ≡ take k (entry_list before b) ++ entry_bytes after b k ∷ drop k (entry_list before b)

-- entry k is taken out
pub record EntryRemoved (b k : ℕ) (before after : List ℕ) : Type 0 where
  pub only : Only (λ x. x ≡ b) before after
  pub form : form_of after b ≡ form_of before b
  pub many : entries after b ≡ entries before b - 1
  pub list : entry_list after b ≡ take k (entry_list before b) ++ drop (k + 1) (entry_list before b)
