-- Bytes and words of a pool, and where its records and blocks stand.
use Rattle.std.specs.Prelude.{List, ℕ, ◌+◌, ◌-◌, ◌*◌, ◌/◌, length, get_or}
use Rattle.geometry.specs.Layout.{header_size, record_size}
use Rattle.geometry.specs.Limits.{block_size, directory_size}

-- the byte at an address
abbrev pub byte : List ℕ → ℕ → ℕ
byte p at = get_or p at 0

-- the word at an address, low byte first
unfoldable pub word : List ℕ → ℕ → ℕ
word p at = byte p at + 256 * byte p (at + 1)

-- the number of shares, one for each block
abbrev pub shares : List ℕ → ℕ
shares p = (length p - directory_size) / block_size

-- where the record of a name stands
abbrev pub record_at : ℕ → ℕ
record_at name = header_size + record_size * name

-- where a block stands
abbrev pub block_at : ℕ → ℕ
block_at b = directory_size + block_size * b
