-- A name that a change leaves alone.
use Rattle.std.specs.Prelude.{◌≡◌, List, ℕ, ◌+◌, ◌<◌, length}
use Rattle.geometry.specs.Layout.{record_size}
use Rattle.lists.specs.Items.{All}
use Rattle.pool.specs.Bytes.{byte, record_at}
use Rattle.pool.specs.Changes.{SameBlock}
use Rattle.pool.specs.Names.{blocks_of}

-- all these blocks have the bytes that they had
abbrev pub SameBlocks : List ℕ → List ℕ → List ℕ → Type 0
SameBlocks bs before after = All (λ b. SameBlock b before after) bs

-- the name's record has the bytes that it had
abbrev pub SameRecord : ℕ → List ℕ → List ℕ → Type 0
SameRecord name before after = (j : ℕ) → j < record_size → byte after (record_at name + j) ≡ byte before (record_at name + j)

-- its record and all blocks that it holds are as before
pub record Untouched (name : ℕ) (before after : List ℕ) : Type 0 where
  pub long : length after ≡ length before
  pub entry : SameRecord name before after
  pub held : SameBlocks (blocks_of before name) before after
