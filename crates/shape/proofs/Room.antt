-- How many blocks a tree has: a filled node has marks for one share more than it has blocks.
use Prim.Native.Nat.{ℕ, zero, suc, ◌*◌, ◌≤◌}
use native.Mathlib.Nat.{mul-le-mul_left, le_of_mul-le-mul_left, le_trans}
use native.Mathlib.Omega.{arith}
use lib.ListN.{length, length-append}
use Rattle.lists.proofs.Items.{all_map}
use Rattle.lists.proofs.Sums.{total-suc, total-scaled, total-joined}
use Rattle.lists.specs.Items.{All}
use Rattle.lists.specs.Sums.{total}
use Rattle.shape.specs.Nested.{Node, flat, marks_in}
use Rattle.shape.specs.Sizes.{Sizes, Proper}
use Rattle.shape.specs.Trees.{Tree, marks_t}
use Rattle.shape.specs.Fill.{Filled, FilledFrom, FilledT}
use Rattle.shape.specs.Blocks.{blocks, blocks_t}

module _ (s : Sizes) (proper : Proper s) where
  branch-room : (h : ℕ) (x : Node (suc h)) → 2 ≤ length x → All (λ y. s.share * suc (blocks h y) ≤ marks_in h y) x
      → s.share * suc (blocks (suc h) x) ≤ marks_in (suc h) x
  branch-room h x two p =
      let sums : s.share * total (λ y. suc (blocks h y)) x ≤ total (marks_in h) x = total-scaled s.share (λ y. suc (blocks h y)) (marks_in h) x p in
      let more : suc (blocks (suc h) x) ≤ total (λ y. suc (blocks h y)) x = omega (arith, total-suc (blocks h) x) in
      omega (arith, mul-le-mul_left s.share more, total-joined length length-append (flat h) x)

  pub room : (h : ℕ) (x : Node h) → Filled s h x → s.share * suc (blocks h x) ≤ marks_in h x
  room zero x p = omega (arith, proper.leaf_shares, p.0)
  room (suc h) x p = branch-room h x (omega (arith, proper.branch_two, p.0)) (all_map (Filled s h) (λ y. s.share * suc (blocks h y) ≤ marks_in h y) (room h) x p.1)

  -- a root that is a branch has as much room
  pub root-room : (h : ℕ) (x : Node (suc h)) → FilledFrom s 2 (suc h) x → s.share * suc (blocks (suc h) x) ≤ marks_in (suc h) x
  root-room h x p = branch-room h x p.0.enough (all_map (Filled s h) (λ y. s.share * suc (blocks h y) ≤ marks_in h y) (room h) x p.1)

  node-blocks-shares : (h : ℕ) (x : Node h) (q : ℕ) → 1 ≤ q → marks_in h x ≤ s.share * q → FilledT s (record { height = h; root = x }) → blocks h x ≤ q
  node-blocks-shares zero x q one fits p = one
  node-blocks-shares (suc h) x q one fits p =
      let r : suc (blocks (suc h) x) ≤ q = le_of_mul-le-mul_left (le_trans (root-room h x p) fits) proper.share_one in
      omega arith

  -- a tree that keeps to its room keeps to its shares
  pub blocks-shares : (t : Tree) (q : ℕ) → 1 ≤ q → length (marks_t t) ≤ s.share * q → FilledT s t → blocks_t t ≤ q
  blocks-shares t q one fits p = node-blocks-shares t.height t.root q one fits p
