-- What an opening, a closing or an edit of one name leaves, and what an opening and a closing need.
use Rattle.std.specs.Prelude.{◌≡◌, List, ℕ, ◌≤◌, ◌<◌, length}
use Rattle.geometry.specs.Limits.{names, least_alphabet, most_alphabet}
use Rattle.pool.specs.Meaning.{meaning_of}
use Rattle.pool.specs.Shares.{unpromised_shares}
use Rattle.pool.specs.Sound.{ClosedName, OpenName, Sound}
use Rattle.pool.specs.Untouched.{Untouched}
use Rattle.protocol.specs.State.{Part}
use Rattle.shape.specs.Trees.{Tree}
use Rattle.pool_holders.specs.Maps.{Exact}

-- a sound pool with its map, and one of its names
pub record NameIn (p m : List ℕ) (name : ℕ) : Type 0 where
  pub sound : Sound p
  pub map : Exact p m
  pub low : name < names

-- the name can be opened
pub record OpenReady (p m : List ℕ) (name alphabet q : ℕ) : Type 0 where
  pub within : NameIn p m name
  pub closed : ClosedName p name
  pub least : least_alphabet ≤ alphabet
  pub most : alphabet ≤ most_alphabet
  pub some : 1 ≤ q
  pub room : q ≤ unpromised_shares p

-- the name can be closed
pub record CloseReady (p m : List ℕ) (name : ℕ) : Type 0 where
  pub within : NameIn p m name
  pub opened : OpenName p name

-- the name has this part now, and nothing else changed: p is the pool before, q after, and n the map after
pub record Updated (name : ℕ) (part : Part Tree) (p q n : List ℕ) : Type 0 where
  pub long : length q ≡ length p
  pub sound : Sound q
  pub means : meaning_of q name ≡ part
  -- every other name's record and blocks have the bytes that they had
  pub others : (y : ℕ) → y < names → (y ≡ name → ⊥) → Untouched y p q
  -- the map is exact
  pub map : Exact q n
