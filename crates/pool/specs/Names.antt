-- What the directory says of a name, and the tree and the blocks that it stands for.
use Rattle.std.specs.Prelude.{cond, List, [], ℕ, ◌+◌, eqb}
use Rattle.geometry.specs.Layout.{kind_at, alphabet_at, height_at, q_at, root_at, length_at, kind_closed}
use Rattle.geometry.specs.Limits.{names}
use Rattle.geometry.specs.declared.Record.{Record}
use Rattle.lists.specs.Froms.{from}
use Rattle.lists.specs.Joins.{joined}
use Rattle.shape.specs.Trees.{Tree}
use Rattle.pool.specs.Bytes.{byte, word, record_at}
use Rattle.pool.specs.Trees.{tree_at, blocks_at, path_at}

-- the record of a name
unfoldable pub record_of : List ℕ → ℕ → Record
record_of p name =
    record {
      kind = byte p (record_at name + kind_at);
      alphabet = byte p (record_at name + alphabet_at);
      height = byte p (record_at name + height_at);
      q = word p (record_at name + q_at);
      root = word p (record_at name + root_at);
      length = word p (record_at name + length_at);
    }

-- the tree that a name's record stands for
abbrev pub tree_of : List ℕ → ℕ → Tree
tree_of p name = tree_at p (record_of p name).height (record_of p name).root

-- the blocks from its root to the leaf that bears place i
abbrev pub path_of : List ℕ → ℕ → ℕ → List ℕ
path_of p name i = path_at p (record_of p name).height i (record_of p name).root

-- the blocks that a name holds; a closed one holds none
unfoldable pub blocks_of : List ℕ → ℕ → List ℕ
blocks_of p name =
    cond (eqb (record_of p name).kind kind_closed) [] (blocks_at p (record_of p name).height (record_of p name).root)

-- the blocks that all names hold
abbrev pub held_blocks : List ℕ → List ℕ
held_blocks p = joined (blocks_of p) (from (λ name. name) 0 names)
