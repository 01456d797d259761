-- A node, perhaps a short one, whose tree a change leaves alone: its shape, its blocks, and that it is sound.
use mathlib.Core.Path.{◌≡◌}
use mathlib.Core.List.{List}
use Prim.Native.Nat.{ℕ, zero, suc, ◌≤◌}
use native.Mathlib.Omega.{arith}
use Rattle.geometry.specs.Limits.{most_alphabet}
use Rattle.sequence.specs.Definition1.{count}
use Rattle.sequence.proofs.Counts.{standing-all}
use Rattle.shape.proofs.Filled.{root-least}
use Rattle.shape.proofs.Instances.{one_to_a_byte-proper}
use Rattle.shape.specs.Sizes.{one_to_a_byte, least}
use Rattle.pool.proofs.SoundTrees.{sound-readable}
use Rattle.pool.proofs.Ways.{Readable}
use Rattle.pool.specs.Blocks.{link}
use Rattle.pool.specs.Changes.{SameBlock, Only}
use Rattle.pool.specs.Trees.{shape_at, blocks_at}
use Rattle.pool.specs.Untouched.{SameBlocks}
use Rattle.pool.proofs.Trees.{blocks-root}
use Rattle.pool.proofs.TreesKept.{shape-kept, blocks-kept, below-kept, same_block}
use Rattle.tree_delete.specs.Mends.{SoundPart}

part-readable : (p : List ℕ) (fewest h x : ℕ) → 1 ≤ fewest → SoundPart p fewest h x → Readable p h x
part-readable p fewest zero x some sound = sound.0.fits
part-readable p fewest (suc h) x some sound = (
  omega (arith, sound.0),
  λ k l. sound-readable p most_alphabet (least one_to_a_byte h) h (link p x k) (root-least one_to_a_byte one_to_a_byte-proper h) (sound.1 k l).0 (sound.1 k l).1,
)

module _ {These : ℕ → Type 0} (p q : List ℕ) (only : Only These p q) (fewest h x : ℕ) (some : 1 ≤ fewest) (sound : SoundPart p fewest h x)
    (apart : (y : ℕ) → 1 ≤ count y (blocks_at p h x) → These y → ⊥) where
  tree-same : SameBlocks (blocks_at p h x) p q
  tree-same = standing-all (λ y. SameBlock y p q) (blocks_at p h x) (λ y among. only.others y (apart y among))

  pub part-shape : shape_at q h x ≡ shape_at p h x
  part-shape = shape-kept p q only.long h x (part-readable p fewest h x some sound) tree-same

  pub part-blocks : blocks_at q h x ≡ blocks_at p h x
  part-blocks = blocks-kept p q only.long h x (part-readable p fewest h x some sound) tree-same

  pub part_sound : SoundPart q fewest h x
  part_sound = (
    same_block p q x (blocks-root p (λ y. SameBlock y p q) h x tree-same) only.long fewest h sound.0,
    below-kept p q only.long most_alphabet h x (part-readable p fewest h x some sound) tree-same sound.1,
  )
