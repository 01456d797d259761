-- Which blocks are free, and which shares are promised to no name.
use Rattle.std.specs.Prelude.{Bool, cond, List, ℕ, ◌-◌, leb}
use Rattle.geometry.specs.Limits.{names}
use Rattle.lists.specs.Sums.{sum_below}
use Rattle.sequence.specs.Definition1.{count}
use Rattle.pool.specs.Bytes.{shares}
use Rattle.pool.specs.Names.{record_of, held_blocks}

-- whether a name holds the block
abbrev pub is_held : List ℕ → ℕ → Bool
is_held p b = leb 1 (count b (held_blocks p))

-- how many blocks no name holds
unfoldable pub free_blocks : List ℕ → ℕ
free_blocks p = sum_below (shares p) (λ b. cond (is_held p b) 0 1)

-- the shares promised to all names together; a closed name's record says 0
unfoldable pub promised_shares : List ℕ → ℕ
promised_shares p = sum_below names (λ name. (record_of p name).q)

-- the shares promised to none
abbrev pub unpromised_shares : List ℕ → ℕ
unpromised_shares p = shares p - promised_shares p
