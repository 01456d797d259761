-- The map of the blocks' holders: a byte for each block of the pool, 0 where it is free, else the number that stands for its holder.
use Rattle.std.specs.Prelude.{false, ◌≡◌, List, ◌⊎◌, ℕ, ◌+◌, ◌≤◌, ◌<◌, length, get_or, set}
use Rattle.geometry.specs.Limits.{longest_pool, names}
use Rattle.sequence.specs.Definition1.{is_mark, count}
use Rattle.pool.specs.Bytes.{shares}
use Rattle.pool.specs.Names.{blocks_of}
use Rattle.pool.specs.Shares.{is_held}

-- the number that stands for a name
abbrev pub holder_of : ℕ → ℕ
holder_of name = name + 1

-- the map says of each block of the pool who holds it
pub record MapOf (p m : List ℕ) : Type 0 where
  pub free : (b : ℕ) → b < shares p → is_held p b ≡ false → get_or m b 0 ≡ 0
  pub held : (b name : ℕ) → b < shares p → name < names → 1 ≤ count b (blocks_of p name) → get_or m b 0 ≡ holder_of name

-- the same, of a map that has no more bytes than the pool has blocks
pub record Exact (p m : List ℕ) : Type 0 where
  pub blocks : length m ≡ shares p
  pub holders : MapOf p m

-- a map that has a byte for each block of the pool
pub record MapFits (p m : List ℕ) : Type 0 where
  pub blocks : length m ≡ shares p
  pub longest : length p ≤ longest_pool

-- 1 if the map has the block as free, else 0
unfoldable pub is_free : List ℕ → ℕ → ℕ
is_free m x = is_mark 0 (get_or m x 0)

-- how many blocks are free
abbrev pub free_in : List ℕ → ℕ
free_in m = count 0 m

-- no block stands twice among these, and none of them is free
abbrev pub Agrees : List ℕ → List ℕ → Type 0
Agrees m blocks = (x : ℕ) → count x blocks + is_free m x ≤ 1

-- a free block is taken and entered for the holder; the rest of the map is as before
pub record BlockTaken (holder block : ℕ) (before after : List ℕ) : Type 0 where
  pub inside : block < length before
  pub free : get_or before block 0 ≡ 0
  pub entered : after ≡ set before block holder

-- free blocks, as many as there may be, are entered for the holder; the rest of the map is as before
pub record Entered (holder : ℕ) (before after : List ℕ) : Type 0 where
  pub long : length after ≡ length before
  pub each : (x : ℕ) → (get_or after x 0 ≡ get_or before x 0) ⊎ ((get_or before x 0 ≡ 0) × (get_or after x 0 ≡ holder))

-- the block is free again; the rest of the map is as before
pub record GivenBack (block : ℕ) (before after : List ℕ) : Type 0 where
  pub inside : block < length before
  pub freed : after ≡ set before block 0

-- blocks, as many as there may be, are free; the rest of the map is as before
pub record Freed (before after : List ℕ) : Type 0 where
  pub long : length after ≡ length before
  pub each : (x : ℕ) → (get_or after x 0 ≡ get_or before x 0) ⊎ (get_or after x 0 ≡ 0)

-- every block of the holder is free; the rest of the map is as before
pub record HolderFreed (holder : ℕ) (before after : List ℕ) : Type 0 where
  pub long : length after ≡ length before
  pub freed : (b : ℕ) → get_or before b 0 ≡ holder → get_or after b 0 ≡ 0
  pub others : (b : ℕ) → (get_or before b 0 ≡ holder → ⊥) → get_or after b 0 ≡ get_or before b 0
