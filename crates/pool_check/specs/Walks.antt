-- The walk over trees: it meets the blocks in turn, and enters each in the map for its holder.
use Rattle.std.specs.Prelude.{Bool, true, List, [], ◌∷◌, ◌≡◌, ℕ, zero, suc, ◌<◌, get_or, set}
use Rattle.pool.specs.Names.{blocks_of}
use Rattle.pool_holders.specs.Maps.{holder_of}
use Rattle.pool_check.specs.Says.{Says}

-- the map after these blocks were met, each of them marked
abbrev pub meet : ℕ → List ℕ → List ℕ → List ℕ
meet tag map [] = map
meet tag map (b ∷ bs) = meet tag (set map b tag) bs

-- each of these blocks, met in turn, was not in the map before
abbrev pub New : ℕ → List ℕ → List ℕ → Type 0
New tag map [] = Unit {0}
New tag map (b ∷ bs) = (get_or map b 0 ≡ 0) × New tag (set map b tag) bs

-- a walk over blocks answers exactly whether what it looks for holds and no block was met before; then it has marked them all
pub record Walked (r : Bool) (Good : Type 0) (tag : ℕ) (blocks before after : List ℕ) : Type 0 where
  pub says : Says r (Good × New tag before blocks)
  pub met : r ≡ true → after ≡ meet tag before blocks

-- the map after the names below n were walked in turn
abbrev pub map_to : List ℕ → List ℕ → ℕ → List ℕ
map_to p map zero = map
map_to p map (suc n) = meet (holder_of n) (map_to p map n) (blocks_of p n)

-- the walk over all names below n answers exactly whether each is as it should be and holds no block that was met before
pub record WalkedNames (r : Bool) (Good : ℕ → Type 0) (p : List ℕ) (n : ℕ) (before after : List ℕ) : Type 0 where
  pub says : Says r ((name : ℕ) → name < n → Good name × New (holder_of name) (map_to p before name) (blocks_of p name))
  pub met : r ≡ true → after ≡ map_to p before n
