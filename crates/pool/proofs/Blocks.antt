-- A leaf's marks are its first bytes.
use mathlib.Core.Path.{◌≡◌, ◌∙◌}
use mathlib.Core.List.{List}
use Prim.Native.Nat.{ℕ, zero, ◌+◌, ◌≤◌, ◌<◌}
use native.Mathlib.Omega.{arith}
use lib.ListN.{length, get_or, take, drop, length-take, length-drop}
use lib.Seq.{get_or-take, get_or-drop}
use Rattle.geometry.specs.Limits.{block_size}
use Rattle.pool.specs.Blocks.{entries, leaf_marks}
use Rattle.pool.specs.Bytes.{byte, shares, block_at}
use Rattle.pool.specs.Sound.{SoundBlock}

module _ (p : List ℕ) (b : ℕ) where
  -- a block of the pool ends before the pool does
  pub block_inside : b < shares p → block_at b + block_size ≤ length p
  block_inside l = omega arith

  -- the bytes at the front of a block
  pub front-byte : (n i : ℕ) → i < n → get_or (take n (drop (block_at b) p)) i 0 ≡ byte p (block_at b + i)
  front-byte n i l = get_or-take n (drop (block_at b) p) i 0 l ∙ get_or-drop (block_at b) p i 0

  pub leaf-mark : (i : ℕ) → i < entries p b → get_or (leaf_marks p b) i 0 ≡ byte p (block_at b + i)
  unfolding leaf_marks
  leaf-mark i l = front-byte (entries p b) i l

  pub length-leaf : (fewest : ℕ) → SoundBlock p fewest zero b → length (leaf_marks p b) ≡ entries p b
  unfolding leaf_marks
  length-leaf fewest s = omega (arith, length-take (entries p b) (drop (block_at b) p), length-drop (block_at b) p, block_inside s.inside, s.fits)
