-- What a change leaves alone.
use Rattle.std.specs.Prelude.{◌≡◌, List, ℕ, ◌+◌, ◌≤◌, ◌<◌, length}
use Rattle.geometry.specs.Limits.{block_size, directory_size}
use Rattle.pool.specs.Bytes.{byte, block_at}

-- the pool is as before but for so many bytes from an address on
pub record Outside (at many : ℕ) (before after : List ℕ) : Type 0 where
  pub long : length after ≡ length before
  pub low : (j : ℕ) → j < at → byte after j ≡ byte before j
  pub high : (j : ℕ) → at + many ≤ j → byte after j ≡ byte before j

-- the block has the bytes that it had
abbrev pub SameBlock : ℕ → List ℕ → List ℕ → Type 0
SameBlock b before after = (j : ℕ) → j < block_size → byte after (block_at b + j) ≡ byte before (block_at b + j)

-- the directory and every block that isn't one of these are as before
pub record Only (These : ℕ → Type 0) (before after : List ℕ) : Type 0 where
  pub long : length after ≡ length before
  pub directory : (j : ℕ) → j < directory_size → byte after j ≡ byte before j
  pub others : (b : ℕ) → (These b → ⊥) → SameBlock b before after
