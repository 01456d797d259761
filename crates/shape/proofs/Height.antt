-- How high a tree is: each level at least doubles the marks. The depth of a place is the height and one, so the depth rule follows.
use mathlib.Core.Path.{◌≡◌, refl, ap}
use mathlib.Core.List.{List}
use mathlib.Core.Logic.{⊎_elim}
use Prim.Native.Nat.{ℕ, zero, suc, ◌-◌, ◌*◌, ◌/◌, ◌^◌, ◌≤◌, ◌<◌, max}
use native.Mathlib.Nat.{mul-le-mul_left, le-div_iff_mul-le, le_trans, mul_comm, mul-one, pow-succ', pow-le-pow_right, eq-zero-or-pos}
use native.Mathlib.Omega.{arith}
use lib.ListN.{length, length-append}
use Rattle.lists.proofs.Items.{all_map}
use Rattle.lists.proofs.Sums.{total-one, total-scaled, total-joined}
use Rattle.lists.specs.Items.{All}
use Rattle.lists.specs.Sums.{total}
use Rattle.shape.specs.Nested.{Node, flat, marks_in}
use Rattle.shape.specs.Sizes.{Sizes, Proper}
use Rattle.shape.specs.Trees.{Tree, marks_t}
use Rattle.shape.specs.Fill.{Filled, FilledFrom, FilledT}
use Rattle.shape.specs.Paths.{path, depth_t}

-- a path goes down all levels
pub length-path : (g : List ℕ → ℕ) (h j : ℕ) (x : Node h) → length (path g h j x) ≡ h
unfolding path
length-path g zero j x = refl
length-path g (suc h) j x = ap suc (length-path g h _ _)

pub depth-height : (i : ℕ) (t : Tree) → depth_t i t ≡ suc t.height
depth-height i t = ap suc (length-path length t.height i t.root)

-- u is the marks by which the levels are counted, at most those of the least leaf.
module _ (s : Sizes) (proper : Proper s) (u : ℕ) (small : u ≤ s.leaf_least) where
  branch-doubles : (h : ℕ) (x : Node (suc h)) → 2 ≤ length x → All (λ y. u * 2 ^ h ≤ marks_in h y) x → u * 2 ^ suc h ≤ marks_in (suc h) x
  branch-doubles h x two p =
      let sums : u * 2 ^ h * total (λ _. 1) x ≤ total (marks_in h) x
      = total-scaled (u * 2 ^ h) (λ _. 1) (marks_in h) x (all_map (λ y. u * 2 ^ h ≤ marks_in h y) (λ y. u * 2 ^ h * 1 ≤ marks_in h y) (λ y l. rw mul-one l) x p) in
      let twice : u * 2 ^ h * 2 ≤ u * 2 ^ h * total (λ _. 1) x = mul-le-mul_left (u * 2 ^ h) (rw total-one two) in
      let pow : 2 ^ suc h ≡ 2 * 2 ^ h = pow-succ' 2 h in
      rw pow (omega (arith, total-joined length length-append (flat h) x))

  pub marks-double : (h : ℕ) (x : Node h) → Filled s h x → u * 2 ^ h ≤ marks_in h x
  marks-double zero x p = omega (arith, p.0)
  marks-double (suc h) x p = branch-doubles h x (omega (arith, proper.branch_two, p.0)) (all_map (Filled s h) (λ y. u * 2 ^ h ≤ marks_in h y) (marks-double h) x p.1)

  -- a root that is a branch has as many marks
  pub root-doubles : (h : ℕ) (x : Node (suc h)) → FilledFrom s 2 (suc h) x → u * 2 ^ suc h ≤ marks_in (suc h) x
  root-doubles h x p = branch-doubles h x p.0.enough (all_map (Filled s h) (λ y. u * 2 ^ h ≤ marks_in h y) (marks-double h) x p.1)

  node-depth-most : 1 ≤ u → (h : ℕ) (x : Node h) → FilledT s (record { height = h; root = x }) → 2 ^ h ≤ max 1 (marks_in h x / u)
  node-depth-most one zero x p = omega arith
  node-depth-most one (suc h) x p =
      let q : 2 ^ suc h ≤ marks_in (suc h) x / u = (le-div_iff_mul-le one).1 (rw mul_comm (root-doubles h x p)) in
      omega arith

  -- the depth rule, and sharper: at most m, where RULES, Depth asks for m · m
  pub depth-most : 1 ≤ u → (i : ℕ) (t : Tree) → FilledT s t → 2 ^ (depth_t i t - 1) ≤ max 1 (length (marks_t t) / u)
  depth-most one i t p =
      let e : depth_t i t - 1 ≡ t.height = omega (arith, depth-height i t) in
      rw e (node-depth-most one t.height t.root p)

  pub depth-rule : 1 ≤ u → (i : ℕ) (t : Tree) → FilledT s t → 2 ^ (depth_t i t - 1) ≤ max 1 (length (marks_t t) / u) * max 1 (length (marks_t t) / u)
  depth-rule one i t p =
      let m : ℕ = max 1 (length (marks_t t) / u) in
      let square : m * 1 ≤ m * m = mul-le-mul_left m (omega arith) in
      le_trans (depth-most one i t p) (omega arith)

  node-height-below : (k h : ℕ) (x : Node h) → FilledT s (record { height = h; root = x }) → marks_in h x < u * 2 ^ suc k → h ≤ k
  node-height-below k zero x p few = omega arith
  node-height-below k (suc h) x p few =
      ⊎_elim (λ (low : suc h - k ≡ 0). omega arith)
      (λ (high : 0 < suc h - k).
      let pow : 2 ^ suc k ≤ 2 ^ suc h = pow-le-pow_right (omega arith) (omega arith) in
      absurd (omega (arith, mul-le-mul_left u pow, root-doubles h x p)))
      (eq-zero-or-pos (suc h - k))

  -- the height of a tree with so few marks
  pub height-below : (k : ℕ) (t : Tree) → FilledT s t → length (marks_t t) < u * 2 ^ suc k → t.height ≤ k
  height-below k t p few = node-height-below k t.height t.root p few

  -- a tree with fewer than 2 u marks is one block
  pub depth-one : (i : ℕ) (t : Tree) → FilledT s t → length (marks_t t) < 2 * u → depth_t i t ≡ 1
  depth-one i t p few = omega (arith, depth-height i t, height-below 0 t p (omega arith))
