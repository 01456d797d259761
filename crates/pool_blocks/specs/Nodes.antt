-- What the moves of entries between two blocks of a kind leave, said of the lists of their entries: `list p b` has those of block b.
use Rattle.std.specs.Prelude.{◌≡◌, List, [], ◌∷◌, ◌++◌, ◌⊎◌, ℕ, ◌+◌, ◌-◌, ◌/◌, take, drop}
use Rattle.geometry.specs.Layout.{form_marks}
use Rattle.shape.specs.Level.{halves}
use Rattle.pool.specs.Blocks.{form_of, entries}
use Rattle.pool.specs.Changes.{Only}

-- the entries behind the first so many stand in another block
pub record EntriesCut {A : Type 0} (list : List ℕ → ℕ → List A) (b new at : ℕ) (before after : List ℕ) : Type 0 where
  pub only : Only (λ x. (x ≡ b) ⊎ (x ≡ new)) before after
  pub form : form_of after b ≡ form_of before b
  pub many : entries after b ≡ at
  pub kept : list after b ≡ take at (list before b)
  pub new_form : form_of after new ≡ form_marks
  pub new_many : entries after new ≡ entries before b - at
  pub moved : list after new ≡ drop at (list before b)

-- the right block's entries stand behind the left block's
pub record EntriesJoined {A : Type 0} (list : List ℕ → ℕ → List A) (left right : ℕ) (before after : List ℕ) : Type 0 where
  pub only : Only (λ x. x ≡ left) before after
  pub form : form_of after left ≡ form_of before left
  pub many : entries after left ≡ entries before left + entries before right
  pub all : list after left ≡ list before left ++ list before right

-- the entries of two blocks are shared out evenly
pub record EntriesShared {A : Type 0} (list : List ℕ → ℕ → List A) (left right : ℕ) (before after : List ℕ) : Type 0 where
  pub only : Only (λ x. (x ≡ left) ⊎ (x ≡ right)) before after
  pub left_form : form_of after left ≡ form_of before left
  pub left_many : entries after left ≡ (entries before left + entries before right) / 2
  pub right_form : form_of after right ≡ form_of before right
  pub right_many : entries after right ≡ entries before left + entries before right - (entries before left + entries before right) / 2
  pub parts : halves (list before left ++ list before right) ≡ list after left ∷ list after right ∷ []
