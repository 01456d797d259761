-- The tests of a call on a pool.
use Rattle.std.specs.Prelude.{◌≡◌, List, ◌⊎◌, ℕ, ◌%◌, ◌≤◌, length}
use Rattle.geometry.specs.Limits.{frame_size, longest_commands, most_shares}
use Rattle.pool.specs.Sound.{LengthAllowed, Sound}
use Rattle.pool_holders.specs.Maps.{MapOf}

-- a length that commands may have: whole frames, and not too many
pub record CommandsAllowed (bytes : ℕ) : Type 0 where
  pub whole : bytes % frame_size ≡ 0
  pub most : bytes ≤ longest_commands

-- the table of a call's statuses: the first reason that applies gives the number, and 0 is given where none does
abbrev pub StatusOfCall : List ℕ → List ℕ → List ℕ → ℕ → Type 0
StatusOfCall p commands room status =
    ((status ≡ 101) × (LengthAllowed (length p) → ⊥))
    ⊎ ((status ≡ 102) × LengthAllowed (length p) × (CommandsAllowed (length commands) → ⊥))
    ⊎ ((status ≡ 103) × LengthAllowed (length p) × CommandsAllowed (length commands) × (length commands ≤ length room → ⊥))
    ⊎ ((status ≡ 104) × LengthAllowed (length p) × CommandsAllowed (length commands) × (length commands ≤ length room) × (Sound p → ⊥))
    ⊎ ((status ≡ 0) × LengthAllowed (length p) × CommandsAllowed (length commands) × (length commands ≤ length room) × Sound p)

-- the call's status; where it is 0, the map says of each block of the pool who holds it
pub record Judged (p commands room : List ℕ) (status : ℕ) (map : List ℕ) : Type 0 where
  pub tested : StatusOfCall p commands room status
  pub long : status ≡ 0 → length map ≡ most_shares
  pub holders : status ≡ 0 → MapOf p map
