-- What the edits of leaves leave, said of their marks. Places count from 1.
use Rattle.std.specs.Prelude.{◌≡◌, List, ℕ, ◌+◌, ◌-◌}
use Rattle.sequence.specs.Definition1.{access, insert, delete}
use Rattle.pool.specs.Blocks.{form_of, entries, leaf_marks}
use Rattle.pool.specs.Changes.{Only}

-- the mark c stands at place i
pub record MarkInserted (b i c : ℕ) (before after : List ℕ) : Type 0 where
  pub only : Only (λ x. x ≡ b) before after
  pub form : form_of after b ≡ form_of before b
  pub many : entries after b ≡ entries before b + 1
  pub marks : leaf_marks after b ≡ insert c i (leaf_marks before b)

-- place i is taken out; r is the mark that stood there
pub record MarkDeleted (b i r : ℕ) (before after : List ℕ) : Type 0 where
  pub only : Only (λ x. x ≡ b) before after
  pub form : form_of after b ≡ form_of before b
  pub many : entries after b ≡ entries before b - 1
  pub taken : r ≡ access (leaf_marks before b) i
  pub marks : leaf_marks after b ≡ delete i (leaf_marks before b)
