-- What a pool stands for: the protocol's state, with each open name's tree.
use Rattle.std.specs.Prelude.{cond, List, ℕ, eqb}
use Rattle.geometry.specs.Layout.{kind_closed}
use Rattle.geometry.specs.Limits.{names}
use Rattle.lists.specs.Froms.{from}
use Rattle.protocol.specs.State.{Part, State, closed, opened}
use Rattle.shape.specs.Trees.{Tree}
use Rattle.pool.specs.Bytes.{shares}
use Rattle.pool.specs.Names.{record_of, tree_of}

-- a name's part
unfoldable pub meaning_of : List ℕ → ℕ → Part Tree
meaning_of p name =
    cond (eqb (record_of p name).kind kind_closed) closed (opened (record_of p name).alphabet (record_of p name).q (tree_of p name))

-- the shares, and the parts of all names in turn
abbrev pub meaning : List ℕ → State Tree
meaning p = record { shares = shares p; parts = from (meaning_of p) 0 names }
