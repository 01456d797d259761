-- The record by which a name's tree is asked.
use Rattle.std.specs.Prelude.{List, ◌≡◌, ℕ}
use Rattle.geometry.specs.declared.Record.{Record}
use Rattle.pool.specs.Names.{record_of}
use Rattle.pool.specs.Sound.{OpenName}
use Rattle.pool.specs.Trees.{tree_at}
use Rattle.shape.specs.Trees.{Tree}

-- the record is that of an open name
pub record OfOpenName (p : List ℕ) (r : Record) : Type 0 where
  pub name : ℕ
  pub opened : OpenName p name
  pub is : r ≡ record_of p name

-- the tree that a record stands for
abbrev pub tree_by : List ℕ → Record → Tree
tree_by p r = tree_at p r.height r.root
