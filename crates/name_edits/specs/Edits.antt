-- What an insert and a delete by name need, and what they leave.
use Rattle.std.specs.Prelude.{◌≡◌, List, ℕ, ◌+◌, ◌*◌, ◌≤◌, ◌<◌}
use Rattle.geometry.specs.Limits.{marks_per_share}
use Rattle.name_open_close.specs.Updates.{NameIn, Updated}
use Rattle.pool.specs.Meaning.{meaning_of}
use Rattle.pool.specs.Names.{record_of, tree_of}
use Rattle.pool.specs.Sound.{OpenName}
use Rattle.protocol.specs.Commands.{edited}
use Rattle.sequence.specs.Definition1.{access}
use Rattle.shape.specs.Sizes.{one_to_a_byte}
use Rattle.shape.specs.Trees.{marks_t, insert_t, delete_t}

-- a mark c can be put in at place i: the name is open and not full, the place is there, and c is in its alphabet
pub record InsertAt (p m : List ℕ) (name i c : ℕ) : Type 0 where
  pub within : NameIn p m name
  pub opened : OpenName p name
  pub first : 1 ≤ i
  pub last : i ≤ (record_of p name).length + 1
  pub symbol : c < (record_of p name).alphabet
  pub room : (record_of p name).length < marks_per_share * (record_of p name).q

-- place i can be taken out: the name is open, and the place is there
pub record DeleteAt (p m : List ℕ) (name i : ℕ) : Type 0 where
  pub within : NameIn p m name
  pub opened : OpenName p name
  pub first : 1 ≤ i
  pub last : i ≤ (record_of p name).length

-- it was put in, as the machine does
abbrev pub InsertedAt : ℕ → ℕ → ℕ → List ℕ → List ℕ → List ℕ → Type 0
InsertedAt name i c p q n = Updated name (edited (insert_t one_to_a_byte c i) (meaning_of p name)) p q n

-- it was taken out, as the machine does, and r is the mark that stood there
pub record DeletedAt (name i r : ℕ) (p q n : List ℕ) : Type 0 where
  pub taken : r ≡ access (marks_t (tree_of p name)) i
  pub updated : Updated name (edited (delete_t one_to_a_byte i) (meaning_of p name)) p q n
