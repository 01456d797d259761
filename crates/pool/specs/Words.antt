-- What reads of words give, and what single stores leave.
use Rattle.std.specs.Prelude.{◌≡◌, List, ℕ, ◌+◌, ◌^◌, ◌<◌}
use Rattle.geometry.specs.Layout.{word_size}
use Rattle.pool.specs.Bytes.{byte, word}
use Rattle.pool.specs.Changes.{Outside}

-- what a byte holds is below this
abbrev pub byte_limit : ℕ
byte_limit = 256

-- what a word holds is below this
abbrev pub word_limit : ℕ
word_limit = 65536

-- what an address is below
abbrev pub address_limit : ℕ
address_limit = 2 ^ 64

-- the word read at an address
pub record WordAt (p : List ℕ) (at r : ℕ) : Type 0 where
  pub is : r ≡ word p at
  pub small : r < word_limit

-- a byte is put at an address, and the others are as before
pub record PutByte (at value : ℕ) (before after : List ℕ) : Type 0 where
  pub same : Outside at 1 before after
  pub put : byte after at ≡ value

-- a word is put at an address, and the bytes outside it are as before
pub record PutWord (at value : ℕ) (before after : List ℕ) : Type 0 where
  pub same : Outside at word_size before after
  pub put : word after at ≡ value

-- so many bytes from an address on are those of other bytes from an address on; the bytes outside them are as before
pub record Copied (source : List ℕ) (from to many : ℕ) (before after : List ℕ) : Type 0 where
  pub same : Outside to many before after
  pub copied : (j : ℕ) → j < many → byte after (to + j) ≡ byte source (from + j)

-- so many bytes from an address on are those that stood from another on; the bytes outside them are as before
abbrev pub Moved : ℕ → ℕ → ℕ → List ℕ → List ℕ → Type 0
Moved from to many before after = Copied before from to many before after

-- so many bytes from an address on are 0, and the others are as before
pub record Cleared (at many : ℕ) (before after : List ℕ) : Type 0 where
  pub same : Outside at many before after
  pub zeros : (j : ℕ) → j < many → byte after (at + j) ≡ 0
