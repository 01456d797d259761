-- The theory at the sizes that stand: each is proper, by computation, and the laws need no other proof.
use mathlib.Core.Path.{◌≡◌, refl}
use Prim.Native.Nat.{ℕ, ◌-◌, ◌*◌, ◌/◌, ◌^◌, ◌≤◌, ◌<◌, max}
use native.Mathlib.Omega.{arith}
use lib.ListN.{length}
use Rattle.geometry.specs.Layout.{most_height}
use Rattle.geometry.specs.Limits.{marks_per_share, marks_per_depth, most_marks}
use Rattle.shape.specs.Sizes.{Proper, one_to_a_byte, two_to_a_byte}
use Rattle.shape.specs.Trees.{Tree, marks_t}
use Rattle.shape.specs.Depth.{DepthRule}
use Rattle.shape.specs.Fill.{FilledT}
use Rattle.shape.specs.Blocks.{blocks_t}
use Rattle.shape.specs.Paths.{depth_t}
use Rattle.shape.proofs.Room.{blocks-shares}
use Rattle.shape.proofs.Height.{height-below, depth-rule, depth-one}

pub one_to_a_byte-proper : Proper one_to_a_byte
one_to_a_byte-proper = record { leaf_halves = refl; leaf_two = omega arith; branch_halves = refl; branch_two = omega arith; share_one = omega arith; leaf_shares = omega arith }

pub two_to_a_byte-proper : Proper two_to_a_byte
two_to_a_byte-proper = record { leaf_halves = refl; leaf_two = omega arith; branch_halves = refl; branch_two = omega arith; share_one = omega arith; leaf_shares = omega arith }

-- Marks one to a byte, as RULES, Names and shares has them.
module _ (t : Tree) (filled : FilledT one_to_a_byte t) where
  -- it never holds more than q blocks
  pub blocks-in-shares : (q : ℕ) → 1 ≤ q → length (marks_t t) ≤ marks_per_share * q → blocks_t t ≤ q
  blocks-in-shares q one room = blocks-shares one_to_a_byte one_to_a_byte-proper t q one room filled

  pub depth-in-rule : (i : ℕ) → 2 ^ (depth_t i t - 1) ≤ max 1 (length (marks_t t) / marks_per_depth) * max 1 (length (marks_t t) / marks_per_depth)
  depth-in-rule i = depth-rule one_to_a_byte one_to_a_byte-proper marks_per_depth (omega arith) (omega arith) i t filled

  -- up to one mark less than twice those of the depth rule, the tree is one block
  pub depth-is-one : (i : ℕ) → length (marks_t t) < 2 * marks_per_depth → depth_t i t ≡ 1
  depth-is-one i few = depth-one one_to_a_byte one_to_a_byte-proper marks_per_depth (omega arith) i t filled few

  -- the rule of RULES, Depth
  pub depth-keeps-rule : (i : ℕ) → DepthRule (length (marks_t t)) (depth_t i t)
  depth-keeps-rule i = record { most = depth-in-rule i; one = depth-is-one i }

  -- within the largest pool
  pub height-in-pool : length (marks_t t) ≤ most_marks → t.height ≤ most_height
  height-in-pool few = height-below one_to_a_byte one_to_a_byte-proper marks_per_depth (omega arith) most_height t filled (omega arith)

-- Marks two to a byte: the same laws.
module _ (t : Tree) (filled : FilledT two_to_a_byte t) where
  pub blocks-in-shares-two : (q : ℕ) → 1 ≤ q → length (marks_t t) ≤ two_to_a_byte.share * q → blocks_t t ≤ q
  blocks-in-shares-two q one room = blocks-shares two_to_a_byte two_to_a_byte-proper t q one room filled

  pub depth-in-rule-two : (i : ℕ) → 2 ^ (depth_t i t - 1) ≤ max 1 (length (marks_t t) / (2 * two_to_a_byte.share)) * max 1 (length (marks_t t) / (2 * two_to_a_byte.share))
  depth-in-rule-two i = depth-rule two_to_a_byte two_to_a_byte-proper (2 * two_to_a_byte.share) (omega arith) (omega arith) i t filled
