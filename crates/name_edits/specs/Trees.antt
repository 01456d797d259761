-- A name's record after an edit of its tree.
use Rattle.std.specs.Prelude.{List, ℕ, ◌≤◌, ◌<◌, length}
use Rattle.geometry.specs.Layout.{most_height}
use Rattle.geometry.specs.Limits.{directory_size, names}
use Rattle.pool.specs.Words.{word_limit}
use Rattle.geometry.specs.declared.Record.{Record}

-- the record with another tree: its root's level, its root block and its number of marks
abbrev pub with_tree : Record → ℕ → ℕ → ℕ → Record
with_tree r level root marks =
    record { kind = r.kind; alphabet = r.alphabet; height = level; q = r.q; root = root; length = marks }

-- a record can be written that says this root
pub record Storable (p : List ℕ) (name level root : ℕ) : Type 0 where
  pub low : name < names
  pub long : directory_size ≤ length p
  pub height : level ≤ most_height
  pub block : root < word_limit
